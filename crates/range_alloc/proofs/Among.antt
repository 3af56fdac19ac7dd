-- Which pages are among the n pages of a space from start on.
use Rattle.std.proofs.Common.{◌≡◌, ◌≢◌, inl, inr, ℕ, suc, ◌+◌, ◌<◌, ◌≤◌, true, false, sym, ◌∙◌, arith}
use Rattle.std.proofs.lemmas.Bool.{cases_Bool}
use Rattle.std.proofs.lemmas.Bool.Decides.{nat_tests}
use Rattle.cl_types.specs.Places.{Place}
use Rattle.flat_model.specs.Step.{is_among}

-- the page is one of these
pub record IsAmong (space start n : ℕ) (place : Place) : Type 0 where
  pub there : place.0 ≡ space
  pub low : start ≤ place.1
  pub high : place.1 < start + n

-- as the test tells
pub among-true : (space start n : ℕ) (place : Place) → is_among space start n place ≡ true → IsAmong space start n place
among-true space start n place is = record { there = grind (arith, nat_tests); low = grind (arith, nat_tests); high = grind (arith, nat_tests) }

-- a page by its number
pub among-page : (space start n page : ℕ) → start ≤ page → page < start + n → is_among space start n (space, page) ≡ true
among-page space start n page low high = grind (arith, nat_tests)

-- there are none
pub among-none : (space start : ℕ) (place : Place) → is_among space start 0 place ≡ false
among-none space start place = grind (arith, nat_tests)

-- a place is that of its two numbers
place_at : (space start : ℕ) (place : Place) → place.0 ≡ space → place.1 ≡ start → place ≡ (space, start)
place_at space start (a, b) p q = λ i. (p i, q i)

-- the pages behind the first
pub among-rest : (space start n : ℕ) (place : Place) → place ≢ (space, start) → is_among space start (suc n) place ≡ is_among space (start + 1) n place
among-rest space start n place other = elim (cases_Bool (is_among space start (suc n) place)) [
  | inl is ↦
      let among : IsAmong space start (suc n) place = among-true space start (suc n) place is in
      let apart : place.1 ≢ start = λ same. other (place_at space start place among.there same) in
      let inside : is_among space (start + 1) n place ≡ true = grind (arith, nat_tests) in
      is ∙ sym inside
  | inr isnt ↦ elim (cases_Bool (is_among space (start + 1) n place)) [
    | inl is ↦ let inside : is_among space start (suc n) place ≡ true = grind (arith, nat_tests) in inside ∙ sym is
    | inr outside ↦ isnt ∙ sym outside
  ]
]

-- the pages and the next
pub among-more : (space start n : ℕ) (place : Place) → place ≢ (space, start + n) → is_among space start (n + 1) place ≡ is_among space start n place
among-more space start n place other = elim (cases_Bool (is_among space start (n + 1) place)) [
  | inl is ↦
      let among : IsAmong space start (n + 1) place = among-true space start (n + 1) place is in
      let apart : place.1 ≢ start + n = λ same. other (place_at space (start + n) place among.there same) in
      let inside : is_among space start n place ≡ true = grind (arith, nat_tests) in
      is ∙ sym inside
  | inr isnt ↦ elim (cases_Bool (is_among space start n place)) [
    | inl is ↦ let inside : is_among space start (n + 1) place ≡ true = grind (arith, nat_tests) in inside ∙ sym is
    | inr outside ↦ isnt ∙ sym outside
  ]
]
