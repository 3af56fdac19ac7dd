-- What stands at a place, after a record is put at the end or in another's place.
use Rattle.std.proofs.Common.{◌≡◌, ◌≢◌, ℕ, zero, suc, ◌<◌, ◌⊎◌, inl, inr, List, [], ◌∷◌, ◌++◌, length, set, Some, refl, ap, arith, slice_get}

module _ {A : Type 0} where
  pub slice_get-push : (xs : List A) (y : A) (i : ℕ) (x : A) → slice_get (xs ++ y ∷ []) i ≡ Some x → ((i ≡ length xs) × (y ≡ x)) ⊎ (slice_get xs i ≡ Some x)
  slice_get-push [] y zero x at = let same : y ≡ x = cc in inl (refl, same)
  slice_get-push [] y (suc i) x at = absurd cc
  slice_get-push (z ∷ xs) y zero x at = inr at
  slice_get-push (z ∷ xs) y (suc i) x at = elim (slice_get-push xs y i x at) [
    | inl last ↦ inl (ap suc last.0, last.1)
    | inr before ↦ inr before
  ]

  pub slice_get-set_same : (xs : List A) (y : A) (i : ℕ) (x : A) → slice_get (set xs i y) i ≡ Some x → y ≡ x
  slice_get-set_same [] y i x at = absurd cc
  slice_get-set_same (z ∷ xs) y zero x at = cc
  slice_get-set_same (z ∷ xs) y (suc i) x at = slice_get-set_same xs y i x at

  pub slice_get-set_other : (xs : List A) (y : A) (i j : ℕ) → j ≢ i → slice_get (set xs i y) j ≡ slice_get xs j
  slice_get-set_other [] y i j other = refl
  slice_get-set_other (z ∷ xs) y zero zero other = absurd (other refl)
  slice_get-set_other (z ∷ xs) y zero (suc j) other = refl
  slice_get-set_other (z ∷ xs) y (suc i) zero other = refl
  slice_get-set_other (z ∷ xs) y (suc i) (suc j) other = slice_get-set_other xs y i j (λ same. other (ap suc same))

  -- something stands at each place
  pub slice_get-within : (xs : List A) (i : ℕ) → i < length xs → (x : A) × (slice_get xs i ≡ Some x)
  slice_get-within [] i within = absurd (omega arith)
  slice_get-within (x ∷ xs) zero within = (x, refl)
  slice_get-within (x ∷ xs) (suc i) within = slice_get-within xs i (omega arith)
