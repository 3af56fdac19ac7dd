-- Where bytes are split.
use Rattle.std.proofs.Common.{◌≡◌, ℕ, ◌+◌, ◌-◌, ◌≤◌, ◌==◌, Bool, true, false, nat_lt, cond, List, [], ◌∷◌, length, take, drop, refl, arith, Some, None}
use Rattle.std.specs.List.{slice_split, position, position_or_len}
use Rattle.std.proofs.lemmas.Bool.{ltb-true, ltb-false}
use Rattle.std.proofs.lemmas.List.Splits.{slice_split_first, slice_split_none}
use Rattle.std.proofs.lemmas.List.Sums.{fails_before_first}
use Rattle.std.proofs.lemmas.List.Elements.{All-from_get_or}
use Rattle.std.proofs.lemmas.Slice.{between_to_end}

found : (found : Bool) (at place : ℕ) → Some place ≡ cond found (Some at) None → (found ≡ true) × (place ≡ at)
found true at place e = (refl, cc)
found false at place e = absurd cc

missed : (found : Bool) (at : ℕ) → None ≡ cond found (Some at) None → found ≡ false
missed true at e = absurd cc
missed false at e = refl

-- a separator ends the first part
pub split_here : (separator place : ℕ) (bytes : List ℕ) → Some place ≡ position (λ b. b == separator) bytes
    → slice_split (λ b. b == separator) bytes ≡ take place bytes ∷ slice_split (λ b. b == separator) (take (length bytes - (place + 1)) (drop (place + 1) bytes))
split_here separator place bytes e =
    let at : ℕ = position_or_len (λ b. b == separator) bytes in
    let here = found (nat_lt at (length bytes)) at place e in
    let first = slice_split_first (λ b. b == separator) bytes 0 (ltb-true at (length bytes) here.0) in
    rw (between_to_end bytes (place + 1) (length bytes) (omega arith), here.1) first

-- bytes without a separator are one part
pub split_none : (separator : ℕ) (bytes : List ℕ) → None ≡ position (λ b. b == separator) bytes
    → slice_split (λ b. b == separator) bytes ≡ bytes ∷ []
split_none separator bytes e =
    let at : ℕ = position_or_len (λ b. b == separator) bytes in
    let past : length bytes ≤ at = ltb-false at (length bytes) (missed (nat_lt at (length bytes)) at e) in
    slice_split_none (λ b. b == separator) bytes
    (All-from_get_or (λ b. (b == separator) ≡ false) bytes 0 (λ i lt. fails_before_first (λ b. b == separator) bytes i 0 (omega arith)))
