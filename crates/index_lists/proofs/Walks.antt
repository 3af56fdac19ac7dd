-- A walk along a list, from its first number on.
use Rattle.std.proofs.Common.{◌≡◌, ℕ, true, false, ◌==◌, if◌then◌else◌, inl, inr, List, [], ◌∷◌, Option, Some, None, refl, sym, ap, slice_get, IfSome, nat_eq}
use Rattle.std.specs.List.{IsDistinct, AllByRecursion}
use Rattle.std.proofs.lemmas.Bool.{eq-eqb}
use Rattle.index_lists.specs.NodeLists.{has, after}
use Rattle.index_lists.proofs.Linking.{split_eq}
use Rattle.index_lists.proofs.Edits.{All-has}

-- what the walk has before it, where it stands at this number
abbrev pub rest_from : Option ℕ → List ℕ → List ℕ
rest_from None xs = []
rest_from (Some n) [] = []
rest_from (Some n) (x ∷ xs) = if n == x then x ∷ xs else rest_from (Some n) xs

-- a number where the walk stands is in the list
abbrev pub IsWithin : Option ℕ → List ℕ → Type 0
IsWithin at xs = IfSome at (λ n. has xs n ≡ true)

pub first_within : (xs : List ℕ) → IsWithin (slice_get xs 0) xs
first_within [] = tt
first_within (x ∷ xs) = elim (split_eq x x) [ inl t ↦ rw t.1 refl | inr f ↦ absurd (f.0 refl) ]

-- the walk begins with all before it
pub rest_from-first : (xs : List ℕ) → rest_from (slice_get xs 0) xs ≡ xs
rest_from-first [] = refl
rest_from-first (x ∷ xs) = elim (split_eq x x) [ inl t ↦ rw t.1 refl | inr f ↦ absurd (f.0 refl) ]

within_more : (at : Option ℕ) (x : ℕ) (xs : List ℕ) → IsWithin at xs → IsWithin at (x ∷ xs)
within_more None x xs h = tt
within_more (Some n) x xs h = elim (split_eq n x) [ inl t ↦ rw t.1 refl | inr f ↦ rw f.1 h ]

pub after_within : (n : ℕ) (xs : List ℕ) → IsWithin (after n xs) xs
after_within n [] = tt
after_within n (x ∷ xs) = elim (split_eq n x) [
  | inl t ↦ rw t.1 (within_more (slice_get xs 0) x xs (first_within xs))
  | inr f ↦ rw f.1 (within_more (after n xs) x xs (after_within n xs))
]

-- a walk past the first number doesn't come back to it
rest_from-more : (at : Option ℕ) (x : ℕ) (xs : List ℕ) → AllByRecursion (λ y. nat_eq x y ≡ false) xs → IsWithin at xs → rest_from at (x ∷ xs) ≡ rest_from at xs
rest_from-more None x xs apart h = refl
rest_from-more (Some n) x xs apart h = elim (split_eq n x) [
  | inl t ↦ absurd (let other = All-has (λ y. nat_eq x y ≡ false) xs n apart h in let same = eq-eqb x n (sym t.0) in cc)
  | inr f ↦ rw f.1 refl
]

-- a step takes the number where the walk stands from what it has before it
pub rest_from-after : (n : ℕ) (xs : List ℕ) → IsDistinct nat_eq xs → has xs n ≡ true → rest_from (Some n) xs ≡ n ∷ rest_from (after n xs) xs
unfolding IsDistinct
rest_from-after n [] distinct h = absurd cc
rest_from-after n (x ∷ xs) distinct h = elim (split_eq n x) [
  | inl t ↦ rw (t.1, rest_from-more (slice_get xs 0) x xs distinct.0 (first_within xs), rest_from-first xs) (ap (λ y. y ∷ xs) (sym t.0))
  | inr f ↦ rw (f.1, rest_from-more (after n xs) x xs distinct.0 (after_within n xs)) (rest_from-after n xs distinct.1 (rw f.1 at h))
]
