-- Digits one after another, and the value that they have.
use Rattle.std.proofs.Common.{◌≡◌, ℕ, ◌+◌, ◌*◌, ◌<◌, ◌≤◌, Bool, true, false, ◌&&◌, nat_lt, cond, List, [], ◌∷◌, length, take, get_or, refl, sym, ◌∙◌, ap, arith, Option, Some, None}
use Rattle.std.specs.List.{fold, list_all}
use Rattle.std.proofs.lemmas.List.Folds.{fold_stays, fold_stuck}
use Rattle.std.proofs.lemmas.List.Sums.{fold_more}
use Rattle.std.proofs.lemmas.Bool.{ltb-true, ltb-false}
use Rattle.std.proofs.lemmas.Bool.Decides.{nat_tests}
use Rattle.std.proofs.Math.Nat.{mul-le-mul_left}
use Rattle.schedule_text.specs.Digits.{with_digit, next_digit, spelled}

-- ---- a loop over digits
module _ (is_digit : ℕ → Bool) (value : ℕ → ℕ) (base limit : ℕ) where
  abbrev next : Option ℕ → ℕ → Option ℕ
  next = next_digit is_digit value base limit

  -- one digit more
  pub spelled_more : (n m : ℕ) (text : List ℕ) (i : ℕ) → i < length text → Some n ≡ spelled is_digit value base limit (take i text)
      → Some m ≡ with_digit is_digit value base limit n (get_or text i 0) → Some m ≡ spelled is_digit value base limit (take (i + 1) text)
  spelled_more n m text i lt so_far now =
      now ∙ ap (λ (o : Option ℕ). next o (get_or text i 0)) so_far ∙ sym (fold_more next (Some 0) text i 0 lt)

  -- a byte that is no digit, or a number that gets too large
  pub spelled_stop : (n : ℕ) (text : List ℕ) (i : ℕ) → i < length text → Some n ≡ spelled is_digit value base limit (take i text)
      → None ≡ with_digit is_digit value base limit n (get_or text i 0) → None ≡ spelled is_digit value base limit text
  spelled_stop n text i lt so_far now =
      fold_stuck next None (λ b. refl) (Some 0) text i 0 lt (sym (now ∙ ap (λ (o : Option ℕ). next o (get_or text i 0)) so_far))

-- ---- what they spell, as their value
-- the value, where all are digits and it is below the limit
abbrev pub checked : ℕ → Bool → ℕ → Option ℕ
checked limit good n = cond (good && nat_lt n limit) (Some n) None

module _ (is_digit : ℕ → Bool) (value : ℕ → ℕ) (base limit : ℕ) (positive : 1 ≤ base) where
  abbrev pub more : ℕ → ℕ → ℕ
  more n b = n * base + value b

  abbrev after : Option ℕ → ℕ → Option ℕ
  after = next_digit is_digit value base limit

  -- more digits make no number smaller
  grows : (n : ℕ) (bs : List ℕ) → n ≤ fold more n bs
  grows n [] = omega arith
  grows n (b ∷ bs) =
      let here : n ≤ n * base + value b = omega (arith, mul-le-mul_left n positive) in
      let there = grows (n * base + value b) bs in
      omega arith

  checked_past : (good : Bool) (n : ℕ) → limit ≤ n → checked limit good n ≡ None
  checked_past true n past = grind (arith, nat_tests)
  checked_past false n past = refl

  -- one digit more, where what follows it is known
  step : (good fits : Bool) (m : ℕ) (bs : List ℕ) → nat_lt m limit ≡ fits → (m < limit → fold after (Some m) bs ≡ checked limit (list_all is_digit bs) (fold more m bs))
      → fold after (cond (good && fits) (Some m) None) bs ≡ checked limit (good && list_all is_digit bs) (fold more m bs)
  step true true m bs e rest = rest (ltb-true m limit e)
  step true false m bs e rest =
      let past = ltb-false m limit e in
      let grown = grows m bs in
      fold_stays after None (λ b. refl) bs ∙ sym (checked_past (list_all is_digit bs) (fold more m bs) (omega arith))
  step false fits m bs e rest = fold_stays after None (λ b. refl) bs

  pub spelled_from : (n : ℕ) (bs : List ℕ) → n < limit → fold after (Some n) bs ≡ checked limit (list_all is_digit bs) (fold more n bs)
  spelled_from n [] below = grind (arith, nat_tests)
  spelled_from n (b ∷ bs) below = step (is_digit b) (nat_lt (n * base + value b) limit) (n * base + value b) bs refl (spelled_from (n * base + value b) bs)

  pub spelled_is : (bs : List ℕ) → 0 < limit → spelled is_digit value base limit bs ≡ checked limit (list_all is_digit bs) (fold more 0 bs)
  spelled_is bs some = spelled_from 0 bs some
