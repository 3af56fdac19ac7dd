-- The pieces of the bytes at an address: how they follow one another, how many there are, and where each stands.
use Rattle.std.proofs.Common.{◌≡◌, ℕ, zero, suc, ◌+◌, ◌-◌, ◌*◌, ◌%◌, ◌<◌, ◌≤◌, ◌⊎◌, inl, inr, false, eqb, List, [], ◌∷◌, length, map, drop, get_or, Some, refl, sym, ap, subst, ◌∙◌, arith, slice_get}
use Rattle.std.proofs.lemmas.Bool.{cases_lt, ne_eqb}
use Rattle.std.proofs.lemmas.List.{length-drop, drop-drop, drop_more}
use Rattle.std.proofs.lemmas.Option.{slice_get-get_or}
use Rattle.call_cut.specs.Fills.{before}
use Rattle.client_model.specs.Cut.{piece_len, pieces_within, pieces}

-- a piece has a byte where one is left, and no more than are left
pub piece_some : (at left : ℕ) → 0 < left → (0 < piece_len at left) × (piece_len at left ≤ left)
piece_some at left h = (omega arith, omega arith)

-- ---- one piece after the other
-- no bytes have no piece
within_none : (f at : ℕ) → pieces_within f at 0 ≡ []
within_none zero at = refl
within_none (suc f) at = refl

-- the first piece, and then those of the bytes behind it
within_next : (f at left : ℕ) → 0 < left
    → pieces_within (suc f) at left ≡ (at, piece_len at left) ∷ pieces_within f (at + piece_len at left) (left - piece_len at left)
within_next f at left h = let some : eqb left 0 ≡ false = ne_eqb left 0 (λ e. omega arith) in rw (some, pieces_within) refl

-- more steps than bytes change nothing
enough : (f g at left : ℕ) → left ≤ f → left ≤ g → pieces_within f at left ≡ pieces_within g at left
enough f g at zero a b = within_none f at ∙ sym (within_none g at)
enough zero g at (suc n) a b = absurd (omega arith)
enough (suc f) zero at (suc n) a b = absurd (omega arith)
enough (suc f) (suc g) at (suc n) a b =
    let some = piece_some at (suc n) (omega arith) in
    let rest = enough f g (at + piece_len at (suc n)) (suc n - piece_len at (suc n)) (omega arith) (omega arith) in
    within_next f at (suc n) (omega arith) ∙ ap (λ (ps : List (ℕ × ℕ)). (at, piece_len at (suc n)) ∷ ps) rest ∙ sym (within_next g at (suc n) (omega arith))

pub pieces_next : (at left : ℕ) → 0 < left → pieces at left ≡ (at, piece_len at left) ∷ pieces (at + piece_len at left) (left - piece_len at left)
pieces_next at zero h = absurd (omega arith)
pieces_next at (suc n) h =
    let some = piece_some at (suc n) (omega arith) in
    let rest = enough n (suc n - piece_len at (suc n)) (at + piece_len at (suc n)) (suc n - piece_len at (suc n)) (omega arith) (omega arith) in
    within_next n at (suc n) (omega arith) ∙ ap (λ (ps : List (ℕ × ℕ)). (at, piece_len at (suc n)) ∷ ps) rest

-- ---- how many
-- what ends a piece: the bytes, the length of a part, or the page, and then the next piece begins a page
piece_end : (at left : ℕ) → 0 < left
    → (piece_len at left ≡ left) ⊎ ((piece_len at left ≡ 1024) ⊎ ((piece_len at left + at % 1024 ≡ 1024) × ((at + piece_len at left) % 1024 ≡ 0)))
piece_end at left h = elim (cases_lt (4096 - at % 4096) 1024) [
  | inl short ↦ elim (cases_lt (4096 - at % 4096) left) [ inl p ↦ inr (inr (omega arith, omega arith)) | inr p ↦ inl (omega arith) ]
  | inr long ↦ elim (cases_lt 1024 left) [ inl p ↦ inr (inl (omega arith)) | inr p ↦ inl (omega arith) ]
]

-- a piece more, by what ends it
one_more : (at left p count : ℕ) → 0 < left → 1024 * count ≤ left - p + 1023 + (at + p) % 1024
    → (p ≡ left) ⊎ ((p ≡ 1024) ⊎ ((p + at % 1024 ≡ 1024) × ((at + p) % 1024 ≡ 0))) → p ≤ left → (p ≡ left → count ≡ 0) → 1024 * suc count ≤ left + 1023 + at % 1024
one_more at left p count some rest ends within last = elim ends [
  | inl e ↦ omega (arith, last e)
  | inr o ↦ elim o [ inl e ↦ omega arith | inr e ↦ omega (arith, e.0, e.1) ]
]

-- only the last piece of the first page may be short, and the last of all
most_pieces : (f at left : ℕ) → 1024 * length (pieces_within f at left) ≤ left + 1023 + at % 1024
most_pieces f at zero = omega (arith, ap (length {A = ℕ × ℕ}) (within_none f at))
most_pieces zero at (suc n) = omega arith
most_pieces (suc f) at (suc n) =
    let some = piece_some at (suc n) (omega arith) in
    let p : ℕ = piece_len at (suc n) in
    let last : p ≡ suc n → length (pieces_within f (at + p) (suc n - p)) ≡ 0 = λ e. (let none : suc n - p ≡ 0 = omega arith in rw none (ap (length {A = ℕ × ℕ}) (within_none f (at + p)))) in
    rw (within_next f at (suc n) (omega arith)) (one_more at (suc n) p _ (omega arith) (most_pieces f (at + p) (suc n - p)) (piece_end at (suc n) (omega arith)) some.1 last)

pub few_pieces : (at bytes : ℕ) → bytes ≤ 65536 → length (pieces at bytes) ≤ 65
few_pieces at bytes few = omega (arith, most_pieces bytes at bytes)

-- ---- where each stands
-- a piece stands behind the lengths of those before it
abbrev IsPlaced : ℕ → List (ℕ × ℕ) → Type 0
IsPlaced at ps = (i : ℕ) (piece : ℕ × ℕ) → slice_get ps i ≡ Some piece → piece.0 ≡ at + before i (map (λ p. p.1) ps)

placed_next : (at len : ℕ) (ps : List (ℕ × ℕ)) → IsPlaced (at + len) ps → IsPlaced at ((at, len) ∷ ps)
placed_next at len ps rest zero piece h = let here : (at, len) ≡ piece = cc in ap (λ (p : ℕ × ℕ). p.0) (sym here) ∙ omega arith
placed_next at len ps rest (suc i) piece h = omega (arith, rest i piece h)

placed_within : (f at left : ℕ) → IsPlaced at (pieces_within f at left)
placed_within f at zero = λ i piece h. absurd (let past : slice_get [] i ≡ Some piece = rw (within_none f at) at h in cc)
placed_within zero at (suc n) = λ i piece h. absurd cc
placed_within (suc f) at (suc n) = subst (IsPlaced at) (sym (within_next f at (suc n) (omega arith))) (placed_next at _ _ (placed_within f (at + piece_len at (suc n)) (suc n - piece_len at (suc n))))

pub piece_place : (at left i : ℕ) (piece : ℕ × ℕ) → slice_get (pieces at left) i ≡ Some piece → piece.0 ≡ at + before i (map (λ p. p.1) (pieces at left))
piece_place at left i piece h = placed_within left at left i piece h

-- the pieces together are as long as the bytes
abbrev pub total : List ℕ → ℕ
total [] = 0
total (n ∷ ns) = n + total ns

total_within : (f at left : ℕ) → left ≤ f → total (map (λ p. p.1) (pieces_within f at left)) ≡ left
total_within f at zero h = rw (within_none f at) refl
total_within zero at (suc n) h = absurd (omega arith)
total_within (suc f) at (suc n) h =
    let some = piece_some at (suc n) (omega arith) in
    rw (within_next f at (suc n) (omega arith)) (omega (arith, total_within f (at + piece_len at (suc n)) (suc n - piece_len at (suc n)) (omega arith)))

pub total_pieces : (at left : ℕ) → total (map (λ p. p.1) (pieces at left)) ≡ left
total_pieces at left = total_within left at left (omega arith)

-- ---- a walk along the pieces
-- the pieces behind the next one
pieces_behind : (addr bytes from : ℕ) → from < bytes
    → pieces (addr + from) (bytes - from) ≡ (addr + from, piece_len (addr + from) (bytes - from)) ∷ pieces (addr + (from + piece_len (addr + from) (bytes - from))) (bytes - (from + piece_len (addr + from) (bytes - from)))
pieces_behind addr bytes from h =
    let p : ℕ = piece_len (addr + from) (bytes - from) in
    let at : addr + from + p ≡ addr + (from + p) = omega arith in
    let left : bytes - from - p ≡ bytes - (from + p) = omega arith in
    pieces_next (addr + from) (bytes - from) (omega arith) ∙ ap (λ (ps : List (ℕ × ℕ)). (addr + from, p) ∷ ps) (ap (λ a. pieces a (bytes - from - p)) at ∙ ap (λ l. pieces (addr + (from + p)) l) left)

-- a walk has come to `from` after some pieces, and the others are those of the bytes from there on
pub record HasCome (addr bytes from : ℕ) (rest : List (ℕ × ℕ)) : Type 0 where
  pub within : from ≤ bytes
  pub rest_is : rest ≡ pieces (addr + from) (bytes - from)

module _ {addr bytes from : ℕ} {rest : List (ℕ × ℕ)} (come : HasCome addr bytes from rest) where
  -- there are bytes left where a piece is
  pub walk_goes : 0 < length rest → from < bytes
  walk_goes some = elim (cases_lt from bytes) [
    | inl h ↦ h
    | inr past ↦ absurd (let none : bytes - from ≡ 0 = omega arith in let is : rest ≡ pieces (addr + from) 0 = rw none at come.rest_is in omega (arith, ap (length {A = ℕ × ℕ}) is))
  ]

  pub walk_on : from < bytes → HasCome addr bytes (from + piece_len (addr + from) (bytes - from)) (drop 1 rest)
  walk_on h =
      let some = piece_some (addr + from) (bytes - from) (omega arith) in
      record { within = omega (arith, come.within); rest_is = ap (drop 1) (come.rest_is ∙ pieces_behind addr bytes from h) }

-- one piece of a walk, its number k: what it is, and where the walk comes by it
module _ {addr bytes from : ℕ} (xs : List (ℕ × ℕ)) (k p : ℕ) (come : HasCome addr bytes from (drop k xs)) (here : k < length xs) (is : p ≡ piece_len (addr + from) (bytes - from)) where
  pub walk_left : from < bytes
  walk_left = walk_goes come (omega (arith, length-drop k xs))

  pub walk_step : HasCome addr bytes (from + p) (drop (k + 1) xs)
  walk_step = rw is (subst (HasCome addr bytes (from + piece_len (addr + from) (bytes - from))) (drop-drop 1 k xs) (walk_on come walk_left))

  pub walk_piece : slice_get xs k ≡ Some (addr + from, p)
  walk_piece =
      let d : ℕ × ℕ = (0, 0) in
      let both = sym (drop_more xs k d here) ∙ come.rest_is ∙ pieces_behind addr bytes from walk_left in
      let same : get_or xs k d ≡ (addr + from, piece_len (addr + from) (bytes - from)) = cc in
      slice_get-get_or xs k d here ∙ ap Some (rw is same)

-- the pieces that a walk counts
pub record Counts (addr bytes from count : ℕ) : Type 0 where
  pub within : from ≤ bytes
  pub counted : count + length (pieces (addr + from) (bytes - from)) ≡ length (pieces addr bytes)

module _ {addr bytes from count : ℕ} (so_far : Counts addr bytes from count) where
  pub count_few : bytes ≤ 65536 → count ≤ 65
  count_few few = omega (arith, so_far.counted, few_pieces addr bytes few)

  pub count_step : (p : ℕ) → p ≡ piece_len (addr + from) (bytes - from) → from < bytes → Counts addr bytes (from + p) (count + 1)
  count_step p is h =
      let some = piece_some (addr + from) (bytes - from) (omega arith) in
      rw is (record { within = omega (arith, so_far.within); counted = omega (arith, so_far.counted, ap (length {A = ℕ × ℕ}) (pieces_behind addr bytes from h)) })
