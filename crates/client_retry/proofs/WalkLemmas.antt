-- A walk along a list of places, one place after the other.
use Rattle.std.proofs.Common.{◌≡◌, ℕ, zero, suc, ◌+◌, ◌≤◌, Bool, true, false, eqb, List, [], ◌∷◌, length, drop, Option, Some, None, refl, sym, ap, ◌∙◌, arith, inl, inr, slice_get}
use Rattle.std.specs.List.{IsDistinct, position_or_len}
use Rattle.std.proofs.lemmas.Bool.{cases_Bool, cases_lt, eq-eqb, eqb-true}
use Rattle.std.proofs.lemmas.List.{drop_more, drop_all}
use Rattle.std.proofs.lemmas.Option.{slice_get_within, slice_get-get_or, slice_get_past, get_or_from_slice_get}
use Rattle.std.proofs.lemmas.Map.Steps.{length-le_from_distinct_below}
use Rattle.index_lists.specs.NodeLists.{NodeLists, list_at, IsValid, after}
use Rattle.index_lists.proofs.Edits.{has-list_any, All-has}
use Rattle.client_retry.specs.Walks.{back}
use Rattle.index_lists.proofs.Members.{has_at}

-- ---- lists of numbers
-- in a list of distinct numbers, what is right behind one stands at the next place
pub after_at : (xs : List ℕ) (k n : ℕ) → IsDistinct eqb xs → slice_get xs k ≡ Some n → after n xs ≡ slice_get xs (suc k)
unfolding IsDistinct
after_at [] k n apart at = absurd cc
after_at (x ∷ xs) zero n apart at = let same : eqb n x ≡ true = eq-eqb n x (let e : x ≡ n = cc in sym e) in rw same refl
after_at (x ∷ xs) (suc k) n apart at = elim (cases_Bool (eqb n x)) [
  | inl t ↦ absurd (let e = eqb-true n x t in let never = All-has (λ y. eqb x y ≡ false) xs n apart.0 (has_at xs k n at) in let always = eq-eqb x n (sym e) in cc)
  | inr f ↦ rw f (after_at xs k n apart.1 at)
]

-- a list of places is no longer than there are places
pub few_places : (v : NodeLists) (l : ℕ) → IsValid v → length (list_at v l) ≤ v.nodes
few_places v l valid = length-le_from_distinct_below (list_at v l) v.nodes (valid.distinct l) (λ q h. (valid.in_range l q (sym (has-list_any (list_at v l) q) ∙ h)).1)

-- ---- the walk
-- a walk has come to place k of the list, and nothing before it was wanted
pub record HasCome (xs : List ℕ) (wanted : ℕ → Bool) (k : ℕ) (place before : Option ℕ) : Type 0 where
  pub place_is : place ≡ slice_get xs k
  pub before_is : before ≡ back xs k
  pub passed : k + position_or_len wanted (drop k xs) ≡ position_or_len wanted xs

-- where it stops
pub record Stops (xs : List ℕ) (wanted : ℕ → Bool) (here before : Option ℕ) : Type 0 where
  pub here_is : here ≡ slice_get xs (position_or_len wanted xs)
  pub before_is : before ≡ back xs (position_or_len wanted xs)

module _ (xs : List ℕ) (wanted : ℕ → Bool) where
  pub begins : (place : Option ℕ) → place ≡ slice_get xs 0 → HasCome xs wanted 0 place None
  begins place e = record { place_is = e; before_is = refl; passed = omega arith }

  module _ {k : ℕ} {place before : Option ℕ} (come : HasCome xs wanted k place before) where
    -- it stops where nothing of the list is left
    pub stops_at_end : length xs ≤ k → Stops xs wanted None before
    stops_at_end past =
        let end : position_or_len wanted xs ≡ k = sym come.passed ∙ ap (λ ys. k + position_or_len wanted ys) (drop_all k xs past) ∙ omega arith in
        record { here_is = rw end (sym (slice_get_past xs k past)); before_is = rw end come.before_is }

    pub stops_at_none : place ≡ None → Stops xs wanted None before
    stops_at_none none = elim (cases_lt k (length xs)) [
      | inl h ↦ absurd (let some = sym none ∙ come.place_is ∙ slice_get-get_or xs k 0 h in cc)
      | inr past ↦ stops_at_end past
    ]

    -- there is a place
    module _ (n : ℕ) (there : place ≡ Some n) where
      pub at : slice_get xs k ≡ Some n
      at = sym come.place_is ∙ there

      left : drop k xs ≡ n ∷ drop (k + 1) xs
      left = drop_more xs k 0 (slice_get_within xs k n at) ∙ ap (λ m. m ∷ drop (k + 1) xs) (get_or_from_slice_get xs k n 0 at)

      pub stops_here : wanted n ≡ true → Stops xs wanted (Some n) before
      stops_here t =
          let none : position_or_len wanted (drop k xs) ≡ 0 = ap (position_or_len wanted) left ∙ rw t refl in
          let end : position_or_len wanted xs ≡ k = omega (arith, come.passed) in
          record { here_is = rw end (sym at); before_is = rw end come.before_is }

      pub goes_on : wanted n ≡ false → IsDistinct eqb xs → (next : Option ℕ) → next ≡ after n xs → HasCome xs wanted (k + 1) next (Some n)
      goes_on f apart next e =
          let more : k + 1 ≡ suc k = omega arith in
          let one : position_or_len wanted (drop k xs) ≡ 1 + position_or_len wanted (drop (k + 1) xs) = ap (position_or_len wanted) left ∙ rw f refl in
          record {
            place_is = e ∙ after_at xs k n apart at ∙ ap (slice_get xs) (sym more);
            before_is = rw more (sym at);
            passed = omega (arith, come.passed, one);
          }
