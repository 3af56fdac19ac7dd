-- Tests and searches along a list of numbers, each of which stands for something.
use Rattle.std.proofs.Common.{◌≡◌, ◌≢◌, ℕ, ◌++◌, inl, inr, Bool, true, false, eqb, List, [], ◌∷◌, map, filter, find, Option, Some, None, is_some, option_map, refl, sym, ap, ◌∙◌}
use Rattle.std.specs.List.{list_any, list_all}
use Rattle.std.proofs.lemmas.Bool.{cases_Bool, and_from, and_left, and_right, or_from, or_left, or_right, eq-eqb}
use Rattle.index_lists.specs.NodeLists.{has, without}
use Rattle.index_lists.proofs.Linking.{split_eq}
use Rattle.index_lists.proofs.Members.{find_some}

module _ {A : Type 0} (at : ℕ → A) where
  -- ---- all and any
  pub all_from : (test : A → Bool) (xs : List ℕ) → ((p : ℕ) → has xs p ≡ true → test (at p) ≡ true) → list_all test (map at xs) ≡ true
  all_from test [] h = refl
  all_from test (x ∷ xs) h =
      and_from (test (at x)) (list_all test (map at xs)) (h x (or_left (eqb x x) (has xs x) (eq-eqb x x refl))) (all_from test xs (λ p there. h p (or_right (eqb p x) (has xs p) there)))

  pub all_broken : (test : A → Bool) (xs : List ℕ) (p : ℕ) → has xs p ≡ true → test (at p) ≡ false → list_all test (map at xs) ≡ false
  all_broken test [] p there f = absurd cc
  all_broken test (x ∷ xs) p there f = elim (split_eq p x) [
    | inl e ↦ and_left (test (at x)) (list_all test (map at xs)) (ap (λ q. test (at q)) (sym e.0) ∙ f)
    | inr ne ↦ let behind : has xs p ≡ true = rw ne.1 at there in and_right (test (at x)) (list_all test (map at xs)) (all_broken test xs p behind f)
  ]

  pub any_none : (test : A → Bool) (xs : List ℕ) → ((p : ℕ) → has xs p ≡ true → test (at p) ≡ false) → list_any test (map at xs) ≡ false
  any_none test [] h = refl
  any_none test (x ∷ xs) h =
      or_from (test (at x)) (list_any test (map at xs)) (h x (or_left (eqb x x) (has xs x) (eq-eqb x x refl))) (any_none test xs (λ p there. h p (or_right (eqb p x) (has xs p) there)))

  any_some : (test : A → Bool) (xs : List ℕ) (p : ℕ) → has xs p ≡ true → test (at p) ≡ true → list_any test (map at xs) ≡ true
  any_some test [] p there t = absurd cc
  any_some test (x ∷ xs) p there t = elim (split_eq p x) [
    | inl e ↦ or_left (test (at x)) (list_any test (map at xs)) (ap (λ q. test (at q)) (sym e.0) ∙ t)
    | inr ne ↦ let behind : has xs p ≡ true = rw ne.1 at there in or_right (test (at x)) (list_any test (map at xs)) (any_some test xs p behind t)
  ]

  -- where one alone can pass, all rests on it
  pub any_one : (test : A → Bool) (xs : List ℕ) (p : ℕ) → has xs p ≡ true → ((q : ℕ) → has xs q ≡ true → test (at q) ≡ true → q ≡ p) → list_any test (map at xs) ≡ test (at p)
  any_one test xs p there alone = elim (cases_Bool (test (at p))) [
    | inl t ↦ any_some test xs p there t ∙ sym t
    | inr f ↦
        any_none test xs (λ q h. elim (cases_Bool (test (at q))) [
          | inl t ↦ absurd (let same = ap (λ r. test (at r)) (alone q h t) in cc)
          | inr f' ↦ f'
        ])
        ∙ sym f
  ]

  -- ---- searches and filters
  pub find_at : (test : A → Bool) (xs : List ℕ) → find test (map at xs) ≡ option_map at (find (λ p. test (at p)) xs)
  find_at test [] = refl
  find_at test (x ∷ xs) = elim (cases_Bool (test (at x))) [ inl t ↦ rw t refl | inr f ↦ rw f (find_at test xs) ]

  pub filter_all : (test : A → Bool) (xs : List ℕ) → ((p : ℕ) → has xs p ≡ true → test (at p) ≡ true) → filter test (map at xs) ≡ map at xs
  filter_all test [] h = refl
  filter_all test (x ∷ xs) h =
      let t = h x (or_left (eqb x x) (has xs x) (eq-eqb x x refl)) in
      rw t (ap (λ ys. at x ∷ ys) (filter_all test xs (λ p there. h p (or_right (eqb p x) (has xs p) there))))

  -- without the one that alone fails the test
  pub filter_one : (test : A → Bool) (n : ℕ) (xs : List ℕ) → test (at n) ≡ false → ((p : ℕ) → has xs p ≡ true → p ≢ n → test (at p) ≡ true)
      → map at (without n xs) ≡ filter test (map at xs)
  filter_one test n [] gone h = refl
  filter_one test n (x ∷ xs) gone h =
      let rest = filter_one test n xs gone (λ p there. h p (or_right (eqb p x) (has xs p) there)) in
      elim (split_eq n x) [
        | inl t ↦ let its : test (at x) ≡ false = ap (λ p. test (at p)) (sym t.0) ∙ gone in rw (t.1, its) rest
        | inr f ↦
            let kept : test (at x) ≡ true = h x (or_left (eqb x x) (has xs x) (eq-eqb x x refl)) (λ e. f.0 (sym e)) in
            rw (f.1, kept) (ap (λ ys. at x ∷ ys) rest)
      ]

-- what stands for the same numbers in two ways that agree
pub map_same : {A : Type 0} (at at' : ℕ → A) (xs : List ℕ) → ((p : ℕ) → has xs p ≡ true → at' p ≡ at p) → map at' xs ≡ map at xs
map_same at at' [] h = refl
map_same at at' (x ∷ xs) h =
    ap (λ y. y ∷ map at' xs) (h x (or_left (eqb x x) (has xs x) (eq-eqb x x refl)))
    ∙ ap (λ ys. at x ∷ ys) (map_same at at' xs (λ p there. h p (or_right (eqb p x) (has xs p) there)))

pub map_push : {A : Type 0} (at : ℕ → A) (xs : List ℕ) (n : ℕ) → map at (xs ++ n ∷ []) ≡ map at xs ++ at n ∷ []
map_push at [] n = refl
map_push at (x ∷ xs) n = ap (λ ys. at x ∷ ys) (map_push at xs n)

-- ---- what a search gives, made into something
-- where it gives some
pub some_sought : (f : ℕ → ℕ) (wanted : ℕ → Bool) (xs : List ℕ) (o : Option ℕ) → o ≡ option_map f (find wanted xs) → is_some o ≡ true → (node : ℕ) × ((has xs node ≡ true) × (wanted node ≡ true))
some_sought f wanted xs o e some = pick (find wanted xs) refl
  where
    pick : (found : Option ℕ) → find wanted xs ≡ found → (node : ℕ) × ((has xs node ≡ true) × (wanted node ≡ true))
    pick None is = absurd (let none = sym some ∙ ap is_some (e ∙ ap (option_map f) is) in cc)
    pick (Some node) is = (node, find_some wanted xs node is)

-- this one
pub this_sought : (f : ℕ → ℕ) (wanted : ℕ → Bool) (xs : List ℕ) (place : ℕ) → Some place ≡ option_map f (find wanted xs) → (node : ℕ) × ((find wanted xs ≡ Some node) × (f node ≡ place))
this_sought f wanted xs place e = pick (find wanted xs) refl
  where
    pick : (found : Option ℕ) → find wanted xs ≡ found → (node : ℕ) × ((find wanted xs ≡ Some node) × (f node ≡ place))
    pick None is = absurd (let none = e ∙ ap (option_map f) is in cc)
    pick (Some node) is = (node, (is, let some = e ∙ ap (option_map f) is in cc))

-- or none
pub none_sought : (f : ℕ → ℕ) (wanted : ℕ → Bool) (xs : List ℕ) (o : Option ℕ) → o ≡ option_map f (find wanted xs) → is_some o ≡ false → find wanted xs ≡ None
none_sought f wanted xs o e none = pick (find wanted xs) refl
  where
    pick : (found : Option ℕ) → find wanted xs ≡ found → find wanted xs ≡ None
    pick None is = is
    pick (Some node) is = absurd (let some = sym none ∙ ap is_some (e ∙ ap (option_map f) is) in cc)
