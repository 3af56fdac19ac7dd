-- Pieces of 4,096 bytes, one behind the other.
use Rattle.std.proofs.Common.{◌≡◌, ◌≢◌, ℕ, zero, suc, ◌+◌, ◌*◌, ◌<◌, ◌≤◌, List, [], ◌∷◌, ◌++◌, length, take, drop, length-append, append_assoc, append-nil, refl, sym, ap, ◌∙◌, subst, arith}
use Rattle.std.specs.List.{flat_map, range_with_len}
use Rattle.std.proofs.lemmas.List.{take-append-le, drop-append-le, length-take, length-drop, length-replicate, take_all}
use Rattle.std.proofs.Math.Seq.{drop-append-add, take-append-add}
use Rattle.cl_types.specs.Bytes.{bytes_at, with_bytes, over, zeros}

-- each piece has its bytes
abbrev pub AreSized : (ℕ → List ℕ) → ℕ → ℕ → Type 0
AreSized f start n = (i : ℕ) → i < n → length (f (start + i)) ≡ 4096

first : (f : ℕ → List ℕ) (start n : ℕ) → AreSized f start (suc n) → length (f start) ≡ 4096
first f start n sized = let same : start + 0 ≡ start = omega arith in subst (λ k. length (f k) ≡ 4096) same (sized 0 (omega arith))

later : (f : ℕ → List ℕ) (start n : ℕ) → AreSized f start (suc n) → AreSized f (start + 1) n
later f start n sized i below = let same : start + suc i ≡ start + 1 + i = omega arith in subst (λ k. length (f k) ≡ 4096) same (sized (suc i) (omega (arith, below)))

pub length-pieces : (f : ℕ → List ℕ) (start n : ℕ) → AreSized f start n → length (flat_map f (range_with_len start n)) ≡ n * 4096
length-pieces f start zero sized = refl
length-pieces f start (suc n) sized =
    length-append (f start) (flat_map f (range_with_len (start + 1) n))
    ∙ omega (arith, first f start n sized, length-pieces f (start + 1) n (later f start n sized))

-- bytes within one piece
pub piece_of : (f : ℕ → List ℕ) (start n j at m : ℕ) → AreSized f start n → j < n → at + m ≤ 4096
    → bytes_at (j * 4096 + at) m (flat_map f (range_with_len start n)) ≡ bytes_at at m (f (start + j))
piece_of f start zero j at m sized below within = absurd (omega (arith, below))
piece_of f start (suc n) zero at m sized below within =
    let rest = flat_map f (range_with_len (start + 1) n) in
    let size = first f start n sized in
    let none : 0 * 4096 + at ≡ at = omega arith in
    let same : start + 0 ≡ start = omega arith in
    ap (λ k. bytes_at k m (f start ++ rest)) none
    ∙ ap (take m) (drop-append-le at (f start) rest (omega (arith, size, within)))
    ∙ take-append-le m (drop at (f start)) rest (omega (arith, length-drop at (f start), size, within))
    ∙ ap (λ k. bytes_at at m (f k)) (sym same)
piece_of f start (suc n) (suc j) at m sized below within =
    let rest = flat_map f (range_with_len (start + 1) n) in
    let size = first f start n sized in
    let behind : suc j * 4096 + at ≡ length (f start) + (j * 4096 + at) = omega (arith, size) in
    let same : start + 1 + j ≡ start + suc j = omega arith in
    ap (λ k. bytes_at k m (f start ++ rest)) behind
    ∙ ap (take m) (drop-append-add (f start) rest (j * 4096 + at))
    ∙ piece_of f (start + 1) n j at m (later f start n sized) (omega (arith, below)) within
    ∙ ap (λ k. bytes_at at m (f k)) same

same_pieces : (f g : ℕ → List ℕ) (start n : ℕ) → ((p : ℕ) → start ≤ p → g p ≡ f p) → flat_map f (range_with_len start n) ≡ flat_map g (range_with_len start n)
same_pieces f g start zero same = refl
same_pieces f g start (suc n) same = λ i. sym (same start (omega arith)) i ++ same_pieces f g (start + 1) n (λ p low. same p (omega (arith, low))) i

-- bytes put into one piece
pub change_of : (f g : ℕ → List ℕ) (start n j at : ℕ) (bytes : List ℕ) → AreSized f start n → j < n → at + length bytes ≤ 4096
    → g (start + j) ≡ with_bytes at bytes (f (start + j)) → ((p : ℕ) → p ≢ start + j → g p ≡ f p)
    → with_bytes (j * 4096 + at) bytes (flat_map f (range_with_len start n)) ≡ flat_map g (range_with_len start n)
change_of f g start zero j at bytes sized below within here others = absurd (omega (arith, below))
change_of f g start (suc n) zero at bytes sized below within here others =
    let rest = flat_map f (range_with_len (start + 1) n) in
    let size = first f start n sized in
    let none : 0 * 4096 + at ≡ at = omega arith in
    let same : start + 0 ≡ start = omega arith in
    let changed : g start ≡ with_bytes at bytes (f start) = subst (λ k. g k ≡ with_bytes at bytes (f k)) same here in
    let front : take at (f start ++ rest) ≡ take at (f start) = take-append-le at (f start) rest (omega (arith, size, within)) in
    let back : drop (at + length bytes) (f start ++ rest) ≡ drop (at + length bytes) (f start) ++ rest = drop-append-le (at + length bytes) (f start) rest (omega (arith, size, within)) in
    let apart = same_pieces f g (start + 1) n (λ p low. others p (λ is. absurd (omega (arith, low, is, same)))) in
    ap (λ k. with_bytes k bytes (f start ++ rest)) none
    ∙ (λ i. (front i ++ bytes) ++ back i)
    ∙ sym (append_assoc (take at (f start) ++ bytes) (drop (at + length bytes) (f start)) rest)
    ∙ (λ i. sym changed i ++ apart i)
change_of f g start (suc n) (suc j) at bytes sized below within here others =
    let rest = flat_map f (range_with_len (start + 1) n) in
    let size = first f start n sized in
    let x = j * 4096 + at in
    let behind : suc j * 4096 + at ≡ length (f start) + x = omega (arith, size) in
    let past : length (f start) + x + length bytes ≡ length (f start) + (x + length bytes) = omega arith in
    let same : start + suc j ≡ start + 1 + j = omega arith in
    let inner = change_of f g (start + 1) n j at bytes (later f start n sized) (omega (arith, below)) within (subst (λ k. g k ≡ with_bytes at bytes (f k)) same here) (λ p other. others p (λ is. other (is ∙ same))) in
    let kept : g start ≡ f start = others start (λ is. absurd (omega (arith, is))) in
    ap (λ k. with_bytes k bytes (f start ++ rest)) behind
    ∙ (λ i. (take-append-add (f start) rest x i ++ bytes) ++ (ap (λ k. drop k (f start ++ rest)) past ∙ drop-append-add (f start) rest (x + length bytes)) i)
    ∙ ap (λ l. l ++ drop (x + length bytes) rest) (append_assoc (f start) (take x rest) bytes)
    ∙ append_assoc (f start) (take x rest ++ bytes) (drop (x + length bytes) rest)
    ∙ (λ i. sym kept i ++ inner i)

-- as many bytes over others
pub length-over : (old new : List ℕ) → length (over old new) ≡ length old
length-over old new = omega (arith, length-take (length old) (new ++ drop (length new) old), length-append new (drop (length new) old), length-drop (length new) old)

pub over_whole : (n : ℕ) (new : List ℕ) → length new ≡ n → over (zeros n) new ≡ new
over_whole n new size =
    let all : length (zeros n) ≡ n = length-replicate {A = ℕ} n 0 in
    let none : drop (length new) (zeros n) ≡ [] = gone (drop (length new) (zeros n)) (omega (arith, length-drop (length new) (zeros n), all, size)) in
    ap (λ l. take (length (zeros n)) (new ++ l)) none ∙ ap (take (length (zeros n))) (append-nil new) ∙ take_all (length (zeros n)) new (omega (arith, all, size))
  where
    gone : (xs : List ℕ) → length xs ≡ 0 → xs ≡ []
    gone [] e = refl
    gone (x ∷ xs) e = absurd (omega (arith, e))
