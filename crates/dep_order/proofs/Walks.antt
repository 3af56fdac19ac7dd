-- A walk along a list, from its first number on, to the first that passes a test.
use Rattle.std.proofs.Common.{◌≡◌, ℕ, ◌<◌, Bool, true, false, List, ◌∷◌, length, find, Option, Some, None, refl, sym, ap, ◌∙◌, arith, slice_get, nat_eq}
use Rattle.std.specs.List.{IsDistinct}
use Rattle.index_lists.specs.NodeLists.{has, after}
use Rattle.index_lists.proofs.Walks.{rest_from, IsWithin, first_within, rest_from-first, after_within, rest_from-after}

-- the walk stands here, and nothing that it has passed passes the test
pub record HasCome (test : ℕ → Bool) (xs : List ℕ) (at : Option ℕ) : Type 0 where
  pub within : IsWithin at xs
  pub left : find test (rest_from at xs) ≡ find test xs

pub begins : (test : ℕ → Bool) (xs : List ℕ) (at : Option ℕ) → at ≡ slice_get xs 0 → HasCome test xs at
begins test xs at e = rw e (record { within = first_within xs; left = ap (find test) (rest_from-first xs) })

-- it has come to the end
pub ends : {test : ℕ → Bool} {xs : List ℕ} {at : Option ℕ} → HasCome test xs at → at ≡ None → find test xs ≡ None
ends {test} {xs} come e = sym come.left ∙ ap (λ o. find test (rest_from o xs)) e

-- it stands at a number
module _ {test : ℕ → Bool} {xs : List ℕ} {at : Option ℕ} (come : HasCome test xs at) (n : ℕ) (e : at ≡ Some n) where
  pub stands_in : has xs n ≡ true
  stands_in = let h = come.within in rw e at h

  module _ (apart : IsDistinct nat_eq xs) where
    pub left_here : rest_from at xs ≡ n ∷ rest_from (after n xs) xs
    left_here = ap (λ o. rest_from o xs) e ∙ rest_from-after n xs apart stands_in

    pub found : test n ≡ true → find test xs ≡ Some n
    found t = sym come.left ∙ ap (find test) left_here ∙ rw t refl

    pub goes_on : test n ≡ false → (next : Option ℕ) → next ≡ after n xs → HasCome test xs next
    goes_on f next is = rw is (record {
      within = after_within n xs;
      left = let here : find test (n ∷ rest_from (after n xs) xs) ≡ find test (rest_from (after n xs) xs) = rw f refl in sym here ∙ ap (find test) (sym left_here) ∙ come.left;
    })

    pub shorter : (next : Option ℕ) → next ≡ after n xs → length (rest_from next xs) < length (rest_from at xs)
    shorter next is = rw (is, left_here) (omega arith)
