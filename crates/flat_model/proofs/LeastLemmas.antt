-- The search for the least start that fits.
use Rattle.std.proofs.Common.{Bool, true, false, ◌≡◌, ℕ, ◌+◌, ◌-◌, ◌<◌, ◌≤◌, ◌⊎◌, inl, inr, ⊎_elim, zero, suc, List, Option, Some, None, refl, sym, ap, ◌∙◌, subst, arith}
use Rattle.std.proofs.lemmas.Bool.Decides.{nat_tests}
use Rattle.std.proofs.lemmas.Bool.{cases_lt}
use Rattle.std.proofs.Math.Nat.{eq-or-lt_of_le}
use Rattle.cl_types.specs.Places.{Place}
use Rattle.flat_model.specs.State.{fits, least, least_from}
use Rattle.flat_model.specs.StartLaws.{LeastStartIsTheLeast, NoStartFitsWhereThereIsNone, FitsNowhere}

-- a number from another on is that one or above
nat_cases : (m n : ℕ) → m ≤ n → (m ≡ n) ⊎ (m + 1 ≤ n)
nat_cases m n le = ⊎_elim (λ same. inl same) (λ below. inr (omega (arith, below))) (eq-or-lt_of_le le)

module _ (buckets : ℕ) (places : List Place) (pid n : ℕ) where
  abbrev fit : ℕ → Bool
  fit start = fits buckets places pid start n

  abbrev from : ℕ → ℕ → Option ℕ
  from start left = least_from buckets places pid n start left

  step_is : (start left : ℕ) (t : Bool) → fit start ≡ t → from start (suc left) ≡ elim t [ true ↦ Some start | false ↦ from (start + 1) left ]
  step_is start left t is = ap (λ b. elim b [ true ↦ Some start | false ↦ from (start + 1) left ]) is

  pub least_here : (start left : ℕ) → 0 < left → fit start ≡ true → from start left ≡ Some start
  least_here start zero some is = absurd (omega (arith, some))
  least_here start (suc left) some is = step_is start left true is

  pub least_next : (start left : ℕ) → 0 < left → fit start ≡ false → from start left ≡ from (start + 1) (left - 1)
  least_next start zero some is = absurd (omega (arith, some))
  least_next start (suc left) some is = step_is start left false is ∙ ap (from (start + 1)) (omega arith)

  pub least_past : (start left : ℕ) → left ≡ 0 → from start left ≡ None
  least_past start left none = ap (from start) none

  -- what the search finds fits, and no start before it
  pub record IsLeastFrom (first start : ℕ) : Type 0 where
    pub fitting : fit start ≡ true
    pub none_below : (other : ℕ) → first ≤ other → other < start → fit other ≡ false

  found_step : (first left start : ℕ) (t : Bool) → fit first ≡ t → from first (suc left) ≡ Some start → (from (first + 1) left ≡ Some start → IsLeastFrom (first + 1) start) → IsLeastFrom first start
  found_step first left start true is found rest =
      let both : Some first ≡ Some start = sym (step_is first left true is) ∙ found in
      let same : first ≡ start = cc both in
      record { fitting = subst (λ m. fit m ≡ true) same is; none_below = λ other low high. absurd (omega (arith, low, high, same)) }
  found_step first left start false is found rest =
      let later : IsLeastFrom (first + 1) start = rest (sym (step_is first left false is) ∙ found) in
      record {
        fitting = later.fitting;
        none_below = λ other low high. elim (nat_cases first other low) as (λ _. fit other ≡ false) [
          | inl same ↦ subst (λ m. fit m ≡ false) same is
          | inr above ↦ later.none_below other above high
        ];
      }

  pub least_from_fits : (first left start : ℕ) → from first left ≡ Some start → IsLeastFrom first start
  least_from_fits first zero start found = absurd (cc found)
  least_from_fits first (suc left) start found = found_step first left start (fit first) refl found (least_from_fits (first + 1) left start)

  none_step : (first left : ℕ) (t : Bool) → fit first ≡ t → from first (suc left) ≡ None
      → (from (first + 1) left ≡ None → (start : ℕ) → first + 1 ≤ start → start < first + 1 + left → fit start ≡ false)
      → (start : ℕ) → first ≤ start → start < first + suc left → fit start ≡ false
  none_step first left true is none rest start low high =
      let both : Some first ≡ None = sym (step_is first left true is) ∙ none in
      absurd (cc both)
  none_step first left false is none rest start low high = elim (nat_cases first start low) as (λ _. fit start ≡ false) [
    | inl same ↦ subst (λ m. fit m ≡ false) same is
    | inr above ↦ rest (sym (step_is first left false is) ∙ none) start above (omega (arith, high))
  ]

  -- where the search finds nothing, none of its starts fits
  pub least_from_none : (first left : ℕ) → from first left ≡ None → (start : ℕ) → first ≤ start → start < first + left → fit start ≡ false
  least_from_none first zero none start low high = absurd (omega (arith, low, high))
  least_from_none first (suc left) none start low high = none_step first left (fit first) refl none (least_from_none (first + 1) left) start low high

pub least_is : (buckets : ℕ) (places : List Place) (pid n : ℕ) → least buckets places pid n ≡ least_from buckets places pid n 1 65535
unfolding least
least_is buckets places pid n = refl

-- pages fit only at a start from 1 to 65,536
pub fits_within : (buckets : ℕ) (places : List Place) (pid start n : ℕ) → fits buckets places pid start n ≡ true → (1 ≤ start) × (start + n ≤ 65536)
fits_within buckets places pid start n passes = (grind (arith, nat_tests), grind (arith, nat_tests))

not_below : (start other : ℕ) → (other < start → ⊥) → start ≤ other
not_below start other none = ⊎_elim (λ below. absurd (none below)) (λ le. le) (cases_lt other start)

pub least_start_is_the_least : LeastStartIsTheLeast
least_start_is_the_least buckets places pid n start found =
    let least : IsLeastFrom buckets places pid n 1 start = least_from_fits buckets places pid n 1 65535 start (sym (least_is buckets places pid n) ∙ found) in
    record {
      fitting = least.fitting;
      none_below = λ other passes. not_below start other (λ below.
          let fails : fits buckets places pid other n ≡ false = least.none_below other (fits_within buckets places pid other n passes).0 below in
          cc (passes, fails));
    }

-- a start that was found contradicts that the pages fit nowhere
nowhere_none : (buckets : ℕ) (places : List Place) (pid n : ℕ) (found : Option ℕ) → least buckets places pid n ≡ found → FitsNowhere buckets places pid n → least buckets places pid n ≡ None
nowhere_none buckets places pid n None is nowhere = is
nowhere_none buckets places pid n (Some start) is nowhere = absurd (nowhere start (least_start_is_the_least buckets places pid n start is).fitting)

pub no_start_fits : NoStartFitsWhereThereIsNone
no_start_fits buckets places pid n some = (
  λ none start passes.
      let within : (1 ≤ start) × (start + n ≤ 65536) = fits_within buckets places pid start n passes in
      let fails : fits buckets places pid start n ≡ false =
      least_from_none buckets places pid n 1 65535 (sym (least_is buckets places pid n) ∙ none) start within.0 (omega (arith, within, some)) in
      cc (passes, fails),
  λ nowhere. nowhere_none buckets places pid n (least buckets places pid n) refl nowhere,
)

pub none_is_nowhere : (buckets : ℕ) (places : List Place) (pid n : ℕ) → 1 ≤ n → least buckets places pid n ≡ None → FitsNowhere buckets places pid n
none_is_nowhere buckets places pid n some none = (no_start_fits buckets places pid n some).0 none

pub nowhere_is_none : (buckets : ℕ) (places : List Place) (pid n : ℕ) → 1 ≤ n → FitsNowhere buckets places pid n → least buckets places pid n ≡ None
nowhere_is_none buckets places pid n some nowhere = (no_start_fits buckets places pid n some).1 nowhere
