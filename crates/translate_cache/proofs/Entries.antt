-- Lists of entries with one at most of each page, and what is found in them.
use Rattle.std.proofs.Common.{subst, ◌≤◌, ◌≡◌, ◌≢◌, ℕ, zero, suc, ◌+◌, true, false, cond, ◌⊎◌, inl, inr, List, [], ◌∷◌, length, take, Some, None, option_map, refl, sym, ap, ◌∙◌, arith}
use Rattle.std.specs.List.{AllByRecursion, IsDistinct}
use Rattle.std.specs.Map.{keys_of, lookup, lookup_entry, remove_entry}
use Rattle.std.proofs.lemmas.Bool.{cases_eq, eq-eqb, ne_eqb}
use Rattle.cl_types.specs.declared.page.Pte.{Pte}
use Rattle.cl_types.specs.Places.{Place}
use Rattle.translate_cache.specs.Cached.{is_place}

-- two pages are one or two, with what the test gives
pub split_place : (a b : Place) → ((a ≡ b) × (is_place a b ≡ true)) ⊎ ((a ≢ b) × (is_place a b ≡ false))
split_place a b = elim (cases_eq a.0 b.0) [
  | inl s ↦ elim (cases_eq a.1 b.1) [
    | inl t ↦ inl ((λ i. (s i, t i)), rw (eq-eqb _ _ s, eq-eqb _ _ t) refl)
    | inr f ↦ inr ((λ e. f (ap (λ (p : Place). p.1) e)), rw (eq-eqb _ _ s, ne_eqb _ _ f) refl)
  ]
  | inr f ↦ inr ((λ e. f (ap (λ (p : Place). p.0) e)), rw (ne_eqb _ _ f) refl)
]

-- the entry that is found is of the page that is sought
pub lookup_entry-is : (p : Place) (es : List (Place × Pte)) → lookup_entry (is_place p) es ≡ option_map (λ pte. (p, pte)) (lookup (is_place p) es)
lookup_entry-is p [] = refl
lookup_entry-is p (e ∷ es) = elim (split_place p e.0) [
  | inl t ↦ rw t.1 (ap (λ k. Some (k, e.1)) (sym t.0))
  | inr f ↦ rw f.1 (lookup_entry-is p es)
]

-- no entry is of this page
abbrev pub Lacks : Place → List (Place × Pte) → Type 0
Lacks p es = AllByRecursion (λ k. is_place p k ≡ false) (keys_of es)

-- nothing is found there then
pub lookup-lacks : (p : Place) (es : List (Place × Pte)) → Lacks p es → lookup (is_place p) es ≡ None
lookup-lacks p [] lacks = refl
lookup-lacks p (e ∷ es) lacks = rw lacks.0 (lookup-lacks p es lacks.1)

-- where nothing is found there is no entry
pub lacks-lookup : (p : Place) (es : List (Place × Pte)) → lookup (is_place p) es ≡ None → Lacks p es
lacks-lookup p [] none = tt
lacks-lookup p (e ∷ es) none = elim (split_place p e.0) [
  | inl t ↦ absurd (let found = rw t.1 at none in cc)
  | inr f ↦ (f.1, lacks-lookup p es (rw f.1 at none))
]

lacks-remove : (q p : Place) (es : List (Place × Pte)) → Lacks q es → Lacks q (remove_entry (is_place p) es)
lacks-remove q p [] lacks = tt
lacks-remove q p (e ∷ es) lacks = elim (split_place p e.0) [
  | inl t ↦ rw t.1 lacks.1
  | inr f ↦ rw f.1 (lacks.0, lacks-remove q p es lacks.1)
]

lacks-take : (q : Place) (n : ℕ) (es : List (Place × Pte)) → Lacks q es → Lacks q (take n es)
lacks-take q zero es lacks = tt
lacks-take q (suc n) [] lacks = tt
lacks-take q (suc n) (e ∷ es) lacks = (lacks.0, lacks-take q n es lacks.1)

-- each page has one entry at most
abbrev pub IsApart : List (Place × Pte) → Type 0
IsApart es = IsDistinct is_place (keys_of es)

pub apart-remove : (p : Place) (es : List (Place × Pte)) → IsApart es → IsApart (remove_entry (is_place p) es)
unfolding IsDistinct
apart-remove p [] apart = tt
apart-remove p (e ∷ es) apart = elim (split_place p e.0) [
  | inl t ↦ rw t.1 apart.1
  | inr f ↦ rw f.1 (lacks-remove e.0 p es apart.0, apart-remove p es apart.1)
]

pub apart-take : (n : ℕ) (es : List (Place × Pte)) → IsApart es → IsApart (take n es)
unfolding IsDistinct
apart-take zero es apart = tt
apart-take (suc n) [] apart = tt
apart-take (suc n) (e ∷ es) apart = (lacks-take e.0 n es apart.0, apart-take n es apart.1)

-- what is taken out isn't there
pub lacks_removed : (p : Place) (es : List (Place × Pte)) → IsApart es → Lacks p (remove_entry (is_place p) es)
unfolding IsDistinct
lacks_removed p [] apart = tt
lacks_removed p (e ∷ es) apart = elim (split_place p e.0) [
  | inl t ↦ rw t.1 (subst (λ k. Lacks k es) (sym t.0) apart.0)
  | inr f ↦ rw f.1 (f.1, lacks_removed p es apart.1)
]

-- an entry goes before others of other pages
pub apart-cons : (p : Place) (pte : Pte) (n : ℕ) (es : List (Place × Pte)) → IsApart es → IsApart ((p, pte) ∷ take n (remove_entry (is_place p) es))
unfolding IsDistinct
apart-cons p pte n es apart = (lacks-take p n _ (lacks_removed p es apart), apart-take n _ (apart-remove p es apart))

-- what is found at a page stays when another is taken out
pub lookup-remove_other : (p q : Place) (es : List (Place × Pte)) → q ≢ p → lookup (is_place q) (remove_entry (is_place p) es) ≡ lookup (is_place q) es
lookup-remove_other p q [] other = refl
lookup-remove_other p q (e ∷ es) other = elim (split_place p e.0) [
  | inl t ↦ elim (split_place q e.0) [
    | inl u ↦ absurd (other (u.0 ∙ sym t.0))
    | inr g ↦ rw (t.1, g.1) refl
  ]
  | inr f ↦ rw f.1 (ap (cond (is_place q e.0) (Some e.1)) (lookup-remove_other p q es other))
]

-- what is found in the first entries is found in all
pub lookup-take : (q : Place) (n : ℕ) (es : List (Place × Pte)) (x : Pte) → lookup (is_place q) (take n es) ≡ Some x → lookup (is_place q) es ≡ Some x
lookup-take q zero es x found = absurd cc
lookup-take q (suc n) [] x found = found
lookup-take q (suc n) (e ∷ es) x found = elim (split_place q e.0) [
  | inl t ↦ rw t.1 (rw t.1 at found)
  | inr f ↦ rw f.1 (lookup-take q n es x (rw f.1 at found))
]

-- taking out what is not there leaves all
pub remove-lacks : (p : Place) (es : List (Place × Pte)) → Lacks p es → remove_entry (is_place p) es ≡ es
remove-lacks p [] lacks = refl
remove-lacks p (e ∷ es) lacks = rw lacks.0 (ap (λ rest. e ∷ rest) (remove-lacks p es lacks.1))

-- taking out what is there leaves one less
pub length-remove : (p : Place) (es : List (Place × Pte)) (x : Pte) → lookup (is_place p) es ≡ Some x → length (remove_entry (is_place p) es) + 1 ≡ length es
length-remove p [] x found = absurd cc
length-remove p (e ∷ es) x found = elim (split_place p e.0) [
  | inl t ↦ rw t.1 (omega arith)
  | inr f ↦ rw f.1 (omega (arith, length-remove p es x (rw f.1 at found)))
]

pub length-remove-le : (p : Place) (es : List (Place × Pte)) → length (remove_entry (is_place p) es) ≤ length es
length-remove-le p [] = omega arith
length-remove-le p (e ∷ es) = elim (split_place p e.0) [
  | inl t ↦ rw t.1 (omega arith)
  | inr f ↦ rw f.1 (omega (arith, length-remove-le p es))
]
