-- Lists of which each item passes a test.
use Rattle.std.proofs.Common.{◌≡◌, ℕ, zero, suc, List, [], ◌∷◌, ◌++◌, refl, Bool, true, false, take, drop}
use Rattle.std.specs.Prelude.{◌&&◌}
use Rattle.std.specs.List.{list_all}
use Rattle.lemmas.proofs.SameParts.{and_right}

pub take_passes : {X : Type 0} (test : X → Bool) (n : ℕ) (xs : List X) → list_all test xs ≡ true → list_all test (take n xs) ≡ true
take_passes test zero xs h = refl
take_passes test (suc n) [] h = refl
take_passes test (suc n) (x ∷ xs) h = go (test x) h (take_passes test n xs) where
  go : (b : Bool) → (b && list_all test xs) ≡ true → (list_all test xs ≡ true → list_all test (take n xs) ≡ true) → (b && list_all test (take n xs)) ≡ true
  go true h rec = rec h
  go false h rec = h

pub drop_passes : {X : Type 0} (test : X → Bool) (n : ℕ) (xs : List X) → list_all test xs ≡ true → list_all test (drop n xs) ≡ true
drop_passes test zero xs h = h
drop_passes test (suc n) [] h = refl
drop_passes test (suc n) (x ∷ xs) h = drop_passes test n xs (and_right (test x) (list_all test xs) h)

pub append_passes : {X : Type 0} (test : X → Bool) (xs ys : List X) → list_all test xs ≡ true → list_all test ys ≡ true → list_all test (xs ++ ys) ≡ true
append_passes test [] ys h k = k
append_passes test (x ∷ xs) ys h k = go (test x) h (λ e. append_passes test xs ys e k) where
  go : (b : Bool) → (b && list_all test xs) ≡ true → (list_all test xs ≡ true → list_all test (xs ++ ys) ≡ true) → (b && list_all test (xs ++ ys)) ≡ true
  go true h rec = rec h
  go false h rec = h

pub both : (a b : Bool) → a ≡ true → b ≡ true → (a && b) ≡ true
both true b e f = f
both false b e f = e
