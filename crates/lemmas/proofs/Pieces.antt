-- Pieces of a list into which bytes were put, and what a write leaves of them.
use Rattle.std.proofs.Common.{◌≡◌, ℕ, zero, suc, ◌+◌, ◌-◌, ◌≤◌, ◌⊎◌, inl, inr, List, [], ◌∷◌, ◌++◌, refl, sym, ap, ◌∙◌, arith, length, length-append, take, drop, append_assoc}
use Rattle.std.proofs.Math.Seq.{take-append_seam}
use Rattle.std.proofs.lemmas.List.{length-drop, take-append-le, drop-append-le, take-append-drop, drop-drop, drop-take}
use Rattle.cl_types.specs.Bytes.{bytes_at, with_bytes}
use Rattle.cl_types.proofs.PutBytes.{length-with_bytes}

drop_past : {X : Type 0} (xs ys : List X) (n : ℕ) → length xs ≤ n → drop n (xs ++ ys) ≡ drop (n - length xs) ys
drop_past [] ys n h = ap (λ m. drop m ys) (let z : n ≡ n - 0 = omega arith in z)
drop_past (x ∷ xs) ys zero h = absurd (omega arith)
drop_past (x ∷ xs) ys (suc n) h = drop_past xs ys n (omega arith) ∙ ap (λ m. drop m ys) (let z : n - length xs ≡ suc n - suc (length xs) = omega arith in z)

length_front : (n : ℕ) (xs : List ℕ) → n ≤ length xs → length (take n xs) ≡ n
length_front zero xs h = refl
length_front (suc n) [] h = absurd (omega arith)
length_front (suc n) (x ∷ xs) h = let z : length (take n xs) ≡ n = length_front n xs (omega arith) in omega arith

piece_before : (off n : ℕ) (xs ys : List ℕ) → off + n ≤ length xs → bytes_at off n (xs ++ ys) ≡ bytes_at off n xs
piece_before off n xs ys within =
    let a : length (drop off xs) ≡ length xs - off = length-drop off xs in
    ap (take n) (drop-append-le off xs ys (omega arith)) ∙ take-append-le n (drop off xs) ys (omega arith)

-- what stands before the place stays
pub piece_kept_before : (at off n : ℕ) (new old : List ℕ) → off + n ≤ at → at ≤ length old → bytes_at off n (with_bytes at new old) ≡ bytes_at off n old
piece_kept_before at off n new old low within =
    let len : length (take at old) ≡ at = length_front at old within in
    ap (bytes_at off n) (append_assoc (take at old) new (drop (at + length new) old))
    ∙ piece_before off n (take at old) (new ++ drop (at + length new) old) (omega arith)
    ∙ sym (piece_before off n (take at old) (drop at old) (omega arith))
    ∙ ap (bytes_at off n) (take-append-drop at old)

-- and what stands behind the bytes
pub piece_kept_behind : (at off n : ℕ) (new old : List ℕ) → at + length new ≤ off → at ≤ length old → bytes_at off n (with_bytes at new old) ≡ bytes_at off n old
piece_kept_behind at off n new old high within =
    let len : length (take at old) ≡ at = length_front at old within in
    let front : length (take at old ++ new) ≡ length (take at old) + length new = length-append (take at old) new in
    ap (take n) (drop_past (take at old ++ new) (drop (at + length new) old) off (omega arith)
    ∙ drop-drop (off - length (take at old ++ new)) (at + length new) old
    ∙ ap (λ m. drop m old) (let z : at + length new + (off - length (take at old ++ new)) ≡ off = omega arith in z))

-- the bytes that were put in stand there
pub piece_put : (at : ℕ) (new old : List ℕ) → at ≤ length old → bytes_at at (length new) (with_bytes at new old) ≡ new
piece_put at new old within =
    let len : length (take at old) ≡ at = length_front at old within in
    ap (bytes_at at (length new)) (append_assoc (take at old) new (drop (at + length new) old))
    ∙ ap (take (length new)) (drop_past (take at old) (new ++ drop (at + length new) old) at (omega arith)
    ∙ ap (λ m. drop m (new ++ drop (at + length new) old)) (let z : at - length (take at old) ≡ 0 = omega arith in z))
    ∙ take-append_seam new (drop (at + length new) old)

-- a piece of a piece
pub piece_of : (at off n m : ℕ) (contents : List ℕ) → off + n ≤ m → bytes_at (at + off) n contents ≡ bytes_at off n (bytes_at at m contents)
piece_of at off n m contents fits =
    let long : m ≡ off + (m - off) = omega arith in
    ap (take n) (sym (drop-drop off at contents))
    ∙ sym (take_take n (m - off) (drop off (drop at contents)) (omega arith))
    ∙ ap (take n) (sym (drop-take off (m - off) (drop at contents)))
    ∙ ap (λ k. take n (drop off (take k (drop at contents)))) (sym long)
  where
    take_take : (n m : ℕ) (xs : List ℕ) → n ≤ m → take n (take m xs) ≡ take n xs
    take_take zero m xs le = refl
    take_take (suc n) zero xs le = absurd (omega arith)
    take_take (suc n) (suc m) [] le = refl
    take_take (suc n) (suc m) (x ∷ xs) le = ap (λ ys. x ∷ ys) (take_take n m xs (omega arith))

-- ---- what a write leaves
-- two pieces that share no byte
abbrev pub AreApart : ℕ → ℕ → ℕ → ℕ → Type 0
AreApart at n from size = (at + n ≤ from) ⊎ (from + size ≤ at)

-- nothing is written but within these places
pub record Leaves (from size : ℕ) (old new : List ℕ) : Type 0 where
  pub kept : (at n : ℕ) → AreApart at n from size → bytes_at at n new ≡ bytes_at at n old
  pub long : length new ≡ length old

-- a write leaves all but its own place
pub leaves_put : (at : ℕ) (bytes old : List ℕ) → at + length bytes ≤ length old → Leaves at (length bytes) old (with_bytes at bytes old)
leaves_put at bytes old within = record {
  kept = λ off n apart. elim apart [
    | inl before ↦ piece_kept_before at off n bytes old before (omega arith)
    | inr behind ↦ piece_kept_behind at off n bytes old behind (omega arith)
  ];
  long = length-with_bytes at bytes old within;
}

-- two writes to one place leave the rest
pub leaves_then : {from size : ℕ} {old mid new : List ℕ} → Leaves from size old mid → Leaves from size mid new → Leaves from size old new
leaves_then first next = record { kept = λ at n apart. next.kept at n apart ∙ first.kept at n apart; long = next.long ∙ first.long }

-- what is left around a place is left around a wider one
pub leaves_wider : {from size : ℕ} {old new : List ℕ} (from' size' : ℕ) → from' ≤ from → from + size ≤ from' + size' → Leaves from size old new → Leaves from' size' old new
leaves_wider from' size' low high leaves = record {
  kept = λ at n apart. leaves.kept at n (elim apart [ inl before ↦ inl (omega arith) | inr behind ↦ inr (omega arith) ]);
  long = leaves.long;
}
