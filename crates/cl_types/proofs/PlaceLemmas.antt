-- The order of pages is total and tells all pages apart, so it may be the order of a map's keys.
use Rattle.std.proofs.Common.{◌≡◌, ◌≢◌, Bool, true, false, ◌⊎◌, inl, inr, refl, sym, ap, ◌∙◌}
use Rattle.std.specs.Ordering.{nat_cmp, eq_by_cmp, is_eq}
use Rattle.std.specs.declared.cmp.Ordering.{Ordering}
use Rattle.std.specs.declared.cmp.Ordering.TheVariants.{Less, Equal, Greater}
use Rattle.std.specs.Cmp.{IsTotalOrder}
use Rattle.std.specs.FinMap.{IsAntisymmetric}
use Rattle.std.proofs.lemmas.Bool.{cases_Bool}
use Rattle.std.proofs.lemmas.Cmp.{nat_cmp_total, on_total, then_total, tied_itself}
use Rattle.std.proofs.lemmas.Map.Lookups.{exact_pairs, exact_unsigned}
use Rattle.cl_types.specs.Places.{Place, place_cmp}

-- by space and then by number, each a total order
pub place_total : IsTotalOrder place_cmp
place_total = then_total (on_total (λ (place : Place). place.0) nat_cmp_total) (on_total (λ (place : Place). place.1) nat_cmp_total)

-- pages that the order doesn't tell apart are one
pub place_exact : IsAntisymmetric place_cmp
place_exact a b equal = exact_pairs nat_cmp nat_cmp exact_unsigned exact_unsigned a b equal

-- whether two pages are one
abbrev pub same_place : Place → Place → Bool
same_place a b = eq_by_cmp place_cmp a b

pub equal_of : (order : Ordering) → is_eq order ≡ true → order ≡ Equal
equal_of Less equal = absurd cc
equal_of Equal equal = refl
equal_of Greater equal = absurd cc

pub same_place-true : (a b : Place) → same_place a b ≡ true → a ≡ b
same_place-true a b same = place_exact a b (equal_of _ same)

pub same_place-self : (a : Place) → same_place a a ≡ true
same_place-self a = ap is_eq (tied_itself place_total a)

-- two pages are one or two, with what the test gives
pub split_place : (a b : Place) → ((a ≡ b) × (same_place a b ≡ true)) ⊎ ((a ≢ b) × (same_place a b ≡ false))
split_place a b = elim (cases_Bool (same_place a b)) [
  | inl same ↦ inl (same_place-true a b same, same)
  | inr other ↦ inr ((λ equal. let same = sym (ap (same_place a) equal) ∙ same_place-self a in cc), other)
]

pub same_place-sym : (a b : Place) → same_place a b ≡ same_place b a
same_place-sym a b = elim (split_place a b) [
  | inl one ↦ rw one.0 refl
  | inr two ↦ two.1 ∙ elim (split_place b a) [ inl one ↦ absurd (two.0 (sym one.0)) | inr turned ↦ sym turned.1 ]
]
