-- A test of every bucket is one of the buckets of the pages alone.
use Rattle.std.proofs.Common.{◌≡◌, ◌⊎◌, inl, inr, ⊎_elim, ℕ, zero, suc, ◌+◌, ◌*◌, ◌/◌, ◌^◌, ◌<◌, ◌≤◌, ◌==◌, ◌&&◌, leb, nat_lt, nat_le, Bool, true, false, cond, List, [], ◌∷◌, refl, ap, subst, ◌∙◌, arith}
use Rattle.std.specs.List.{list_all, range_with_len}
use Rattle.std.specs.Cmp.{both_ways}
use Rattle.std.proofs.lemmas.Bool.{cases_lt, and_parts}
use Rattle.std.proofs.lemmas.Bool.Decides.{nat_tests}
use Rattle.std.proofs.lemmas.List.Sums.{sum_by-cons}
use Rattle.std.proofs.Math.Nat.{div-lt_iff_lt-mul, mod-lt}
use Rattle.cl_types.specs.Places.{Place, is_bucket_count, bucket_counts, hash_of, home_of, homes_at}
use Rattle.cl_types.proofs.HomeLemmas.{passed}

-- ---- the home of a page is a bucket
abbrev is_fair : ℕ → Bool
is_fair b = nat_lt 0 (2 ^ 32 / b) && nat_le b 65536 && (2 ^ 32 / b * b == 2 ^ 32)

fair_count : (b : ℕ) → is_bucket_count b ≡ true → is_fair b ≡ true
fair_count b count = passed is_fair bucket_counts b refl count

pub few_buckets : (b : ℕ) → is_bucket_count b ≡ true → b ≤ 65536
few_buckets b count = let fair : is_fair b ≡ true = fair_count b count in grind (arith, nat_tests)

pub home_below : (b : ℕ) (place : Place) → is_bucket_count b ≡ true → home_of b place < b
unfolding home_of
home_below b place count =
    let fair : is_fair b ≡ true = fair_count b count in
    let exact : 2 ^ 32 / b * b ≡ 2 ^ 32 = grind (arith, nat_tests) in
    let hash : hash_of place < 2 ^ 32 = mod-lt _ (omega arith) in
    let some : 0 < 2 ^ 32 / b = grind (arith, nat_tests) in
    let scaled : hash_of place < b * (2 ^ 32 / b) = omega (arith, hash, exact) in
    (div-lt_iff_lt-mul some).1 scaled

-- ---- each bucket, or each page
each : {A : Type 0} (test : A → Bool) (xs : List A) → ((x : A) → test x ≡ true) → list_all test xs ≡ true
each test [] passes = refl
each test (x ∷ xs) passes = ap (λ b. b && list_all test xs) (passes x) ∙ each test xs passes

in_range : (test : ℕ → Bool) (first n k : ℕ) → list_all test (range_with_len first n) ≡ true → first ≤ k → k < first + n → test k ≡ true
in_range test first zero k all low high = absurd (omega (arith, low, high))
in_range test first (suc n) k all low high = step (first == k) refl (λ apart. in_range test (first + 1) n k (and_parts _ _ all).1 apart (omega (arith, high))) where
  step : (b : Bool) → (first == k) ≡ b → (first + 1 ≤ k → test k ≡ true) → test k ≡ true
  step true is rest = let same : first ≡ k = grind (arith, nat_tests) in subst (λ m. test m ≡ true) same (and_parts _ _ all).0
  step false is rest = rest (grind (arith, nat_tests))

module _ (b : ℕ) (test : ℕ → ℕ → Bool) (empty : (home : ℕ) → test home 0 ≡ true) (pages : List Place) where
  -- the test of a bucket, by the pages that it has
  abbrev of_bucket : ℕ → Bool
  of_bucket home = test home (homes_at b home pages)

  abbrev of_page : Place → Bool
  of_page page = of_bucket (home_of b page)

  -- a bucket has none of these pages, or it passes as one of them does
  bucket_of : (some : List Place) (home : ℕ) → list_all of_page some ≡ true → (homes_at b home some ≡ 0) ⊎ (of_bucket home ≡ true)
  bucket_of [] home all = inl refl
  bucket_of (page ∷ some) home all = step (home_of b page == home) refl (bucket_of some home (and_parts _ _ all).1) where
    step : (t : Bool) → (home_of b page == home) ≡ t → (homes_at b home some ≡ 0) ⊎ (of_bucket home ≡ true) → (homes_at b home (page ∷ some) ≡ 0) ⊎ (of_bucket home ≡ true)
    step true is rest = let same : home_of b page ≡ home = grind (arith, nat_tests) in inr (subst (λ h. of_bucket h ≡ true) same (and_parts _ _ all).0)
    step false is rest = ⊎_elim
        (λ none. inl (sum_by-cons (λ place. cond (home_of b place == home) 1 0) page some ∙ ap (λ t. cond t 1 0 + homes_at b home some) is ∙ omega (arith, none)))
        (λ passes. inr passes) rest

  bucket_passes : (home : ℕ) → list_all of_page pages ≡ true → of_bucket home ≡ true
  bucket_passes home all = ⊎_elim (λ none. ap (test home) none ∙ empty home) (λ passes. passes) (bucket_of pages home all)

  pub each_bucket : is_bucket_count b ≡ true → list_all of_bucket (range_with_len 0 b) ≡ list_all of_page pages
  each_bucket count =
      both_ways (list_all of_bucket (range_with_len 0 b)) (list_all of_page pages)
      (λ all. each of_page pages (λ page. in_range of_bucket 0 b (home_of b page) all (omega arith) (omega (arith, home_below b page count))))
      (λ all. buckets 0 b all)
    where
      buckets : (first n : ℕ) → list_all of_page pages ≡ true → list_all of_bucket (range_with_len first n) ≡ true
      buckets first n all = each of_bucket (range_with_len first n) (λ home. bucket_passes home all)

-- ---- no bucket with more than four
none_past : (b home : ℕ) (pages : List Place) → is_bucket_count b ≡ true → b ≤ home → homes_at b home pages ≡ 0
none_past b home [] count past = refl
none_past b home (page ∷ pages) count past =
    let apart : home_of b page < b = home_below b page count in
    let other : (home_of b page == home) ≡ false = grind (arith, nat_tests) in
    sum_by-cons (λ place. cond (home_of b place == home) 1 0) page pages ∙ ap (λ t. cond t 1 0 + homes_at b home pages) other ∙ omega (arith, none_past b home pages count past)

-- what was tested of each bucket holds of each number
pub four_everywhere : (b : ℕ) (pages : List Place) (home : ℕ) → is_bucket_count b ≡ true → list_all (λ h. leb (homes_at b h pages) 4) (range_with_len 0 b) ≡ true → homes_at b home pages ≤ 4
four_everywhere b pages home count all = ⊎_elim
    (λ below. let passes : leb (homes_at b home pages) 4 ≡ true = in_range (λ h. leb (homes_at b h pages) 4) 0 b home all (omega arith) (omega (arith, below)) in grind (arith, nat_tests))
    (λ past. omega (arith, none_past b home pages count past))
    (cases_lt home b)
