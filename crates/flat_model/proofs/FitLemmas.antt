-- Where a range fits: tests over mapped and held places, and over the pages of a range.
use Rattle.std.proofs.Common.{◌≡◌, ℕ, zero, suc, ◌+◌, ◌-◌, ◌<◌, ◌≤◌, ◌==◌, ◌||◌, ◌&&◌, leb, Bool, true, false, cond, List, [], ◌∷◌, map, refl, sym, ap, ◌∙◌, arith}
use Rattle.std.specs.List.{list_any, list_all, count_by, range_with_len}
use Rattle.std.specs.Ordering.{eq_by_cmp}
use Rattle.std.proofs.lemmas.List.Folds.{list_any-append}
use Rattle.std.proofs.lemmas.List.Sums.{sum_by-append, sum_by-cons}
use Rattle.cl_types.specs.Places.{Place, place_cmp, home_of, homes_at, is_bucket_count}
use Rattle.std.proofs.lemmas.Bool.Decides.{nat_tests}
use Rattle.flat_model.specs.Rows.{AreFourAtMost, has_room_at}
use Rattle.flat_model.proofs.BucketLemmas.{each_bucket}
use Rattle.flat_model.specs.State.{FlatState, Page, is_mapped, load, places, places_of}

any_mapped : {A B : Type 0} (f : A → B) (test : B → Bool) (xs : List A) → list_any test (map f xs) ≡ list_any (λ x. test (f x)) xs
any_mapped f test [] = refl
any_mapped f test (x ∷ xs) = ap (λ b. test (f x) || b) (any_mapped f test xs)

count_mapped : {A B : Type 0} (f : A → B) (test : B → Bool) (xs : List A) → count_by test (map f xs) ≡ count_by (λ x. test (f x)) xs
count_mapped f test [] = refl
count_mapped f test (x ∷ xs) =
    sum_by-cons (λ y. cond (test y) 1 0) (f x) (map f xs) ∙ ap (λ n. cond (test (f x)) 1 0 + n) (count_mapped f test xs)
    ∙ sym (sum_by-cons (λ y. cond (test (f y)) 1 0) x xs)

-- a place is mapped or held
pub mapped_either : (s : FlatState) (place : Place) → is_mapped (places s) place ≡ (list_any (λ entry. eq_by_cmp place_cmp place entry.0) s.map || list_any (eq_by_cmp place_cmp place) s.held)
mapped_either s place =
    list_any-append (eq_by_cmp place_cmp place) (map (λ entry. entry.0) s.map) s.held
    ∙ ap (λ b. b || list_any (eq_by_cmp place_cmp place) s.held) (any_mapped (λ (entry : Place × Page). entry.0) (eq_by_cmp place_cmp place) s.map)

pub load_is : (s : FlatState) (home : ℕ) → load s home ≡ count_by (λ entry. home_of s.buckets entry.0 == home) s.map + homes_at s.buckets home s.held
load_is s home =
    sum_by-append (λ place. cond (home_of s.buckets place == home) 1 0) (map (λ entry. entry.0) s.map) s.held
    ∙ ap (λ n. n + homes_at s.buckets home s.held) (count_mapped (λ (entry : Place × Page). entry.0) (λ place. home_of s.buckets place == home) s.map)

-- ---- one page or bucket after another
pub range_next : (first left : ℕ) → 0 < left → range_with_len first left ≡ first ∷ range_with_len (first + 1) (left - 1)
range_next first zero some = absurd (omega (arith, some))
range_next first (suc left) some = ap (λ k. first ∷ range_with_len (first + 1) k) (omega arith)

places_next : (pid start n i : ℕ) → i < n → places_of pid (start + i) (n - i) ≡ (pid, start + i) ∷ places_of pid (start + (i + 1)) (n - (i + 1))
places_next pid start n i below =
    ap (map (λ page. (pid, page))) (range_next (start + i) (n - i) (omega (arith, below)))
    ∙ (λ j. (pid, start + i) ∷ map (λ page. (pid, page)) (range_with_len (later j) (fewer j)))
  where
    later : start + i + 1 ≡ start + (i + 1)
    later = omega arith

    fewer : n - i - 1 ≡ n - (i + 1)
    fewer = omega arith

-- how many pages of a range have a home, where one more was looked at
pub homes_next : (buckets home pid start n i found one total : ℕ) → i < n → found + homes_at buckets home (places_of pid (start + i) (n - i)) ≡ total
    → one ≡ cond (home_of buckets (pid, start + i) == home) 1 0
    → found + one + homes_at buckets home (places_of pid (start + (i + 1)) (n - (i + 1))) ≡ total
homes_next buckets home pid start n i found one total below sum is =
    let next : homes_at buckets home (places_of pid (start + i) (n - i))
    ≡ cond (home_of buckets (pid, start + i) == home) 1 0 + homes_at buckets home (places_of pid (start + (i + 1)) (n - (i + 1))) =
    ap (homes_at buckets home) (places_next pid start n i below)
    ∙ sum_by-cons (λ place. cond (home_of buckets place == home) 1 0) (pid, start + i) (places_of pid (start + (i + 1)) (n - (i + 1))) in
    omega (arith, sum, next, is)

-- a test of every page or bucket, where the first passes or fails
all_first : {A : Type 0} (test : A → Bool) (x : A) (xs all : List A) → all ≡ x ∷ xs → test x ≡ true → list_all test all ≡ list_all test xs
all_first test x xs all is passes = ap (list_all test) is ∙ ap (λ b. b && list_all test xs) passes

all_fails : {A : Type 0} (test : A → Bool) (x : A) (xs all : List A) → all ≡ x ∷ xs → test x ≡ false → list_all test all ≡ false
all_fails test x xs all is fails = ap (list_all test) is ∙ ap (λ b. b && list_all test xs) fails

module _ (test : Place → Bool) (pid start n i : ℕ) (below : i < n) where
  pub all_places_next : test (pid, start + i) ≡ true → list_all test (places_of pid (start + i) (n - i)) ≡ list_all test (places_of pid (start + (i + 1)) (n - (i + 1)))
  all_places_next passes = all_first test _ _ _ (places_next pid start n i below) passes

  pub all_places_fail : test (pid, start + i) ≡ false → list_all test (places_of pid (start + i) (n - i)) ≡ false
  all_places_fail fails = all_fails test _ _ _ (places_next pid start n i below) fails

module _ (test : ℕ → Bool) (n i : ℕ) (below : i < n) where
  pub numbers_next : range_with_len i (n - i) ≡ i ∷ range_with_len (i + 1) (n - (i + 1))
  numbers_next = range_next i (n - i) (omega (arith, below)) ∙ ap (λ k. i ∷ range_with_len (i + 1) k) (omega arith)

  pub all_numbers_next : test i ≡ true → list_all test (range_with_len i (n - i)) ≡ list_all test (range_with_len (i + 1) (n - (i + 1)))
  all_numbers_next passes = all_first test _ _ _ numbers_next passes

  pub all_numbers_fail : test i ≡ false → list_all test (range_with_len i (n - i)) ≡ false
  all_numbers_fail fails = all_fails test _ _ _ numbers_next fails

-- ---- the buckets of the new pages are enough
-- the bucket has room for so many more pages
abbrev has_room_more : FlatState → ℕ → ℕ → Bool
has_room_more s home more = leb (load s home + more) 4

pub buckets_of_pages : (s : FlatState) (pages : List Place) → is_bucket_count s.buckets ≡ true → AreFourAtMost s.buckets (places s)
    → list_all (has_room_at s pages) pages ≡ list_all (λ home. leb (load s home + homes_at s.buckets home pages) 4) (range_with_len 0 s.buckets)
buckets_of_pages s pages count four = sym (each_bucket s.buckets (has_room_more s) empty pages count) where
  empty : (home : ℕ) → has_room_more s home 0 ≡ true
  empty home = let few : load s home ≤ 4 = four home in grind (arith, nat_tests)

-- the bucket of a page, by what was counted there
pub room_is : (s : FlatState) (pages : List Place) (page : Place) (bucket mapped held more : ℕ) (result : Bool) → bucket ≡ home_of s.buckets page
    → mapped ≡ count_by (λ entry. home_of s.buckets entry.0 == bucket) s.map → held ≡ homes_at s.buckets bucket s.held → more ≡ homes_at s.buckets bucket pages
    → result ≡ leb (mapped + held + more) 4 → result ≡ has_room_at s pages page
room_is s pages page bucket mapped held more result home a b c is =
    let all : mapped + held + more ≡ load s bucket + homes_at s.buckets bucket pages = omega (arith, a, b, c, load_is s bucket) in
    is ∙ ap (λ n. leb n 4) all ∙ ap (λ h. leb (load s h + homes_at s.buckets h pages) 4) home
