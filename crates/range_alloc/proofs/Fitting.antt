-- Where a range fits, by what holds of each page and of each bucket.
use Rattle.std.proofs.Common.{◌≡◌, inl, inr, ℕ, zero, suc, ◌+◌, ◌-◌, ◌<◌, ◌≤◌, ◌==◌, ◌&&◌, leb, Bool, true, false, not, cond, length, is_some, nat_lt, refl, sym, ap, ◌∙◌, arith}
use Rattle.std.specs.List.{list_all, range_with_len}
use Rattle.std.specs.FinMap.Entries.{is_some-find}
use Rattle.std.proofs.lemmas.Bool.{cases_Bool}
use Rattle.std.proofs.lemmas.Bool.Decides.{nat_tests}
use Rattle.std.proofs.lemmas.List.Folds.{list_all_at}
use Rattle.std.proofs.lemmas.List.FromFn.{length-range_with_len, length-map-range_with_len, get_or-range_with_len, get_or-map-range_with_len, sum_by-map-range_with_len_more}
use Rattle.std.proofs.lemmas.List.Sums.{sum_by-cons}
use Rattle.cl_types.specs.Places.{Place, place_cmp, home_of, homes_at, is_bucket_count}
use Rattle.hash_buckets.specs.PageMap.{PageMap, IsValid, entry_of, load}
use Rattle.cl_types.specs.Ranges.{is_page_count}
use Rattle.flat_model.specs.Rows.{keys}
use Rattle.flat_model.specs.State.{fits, is_mapped, places_of}
use Rattle.flat_model.proofs.BucketLemmas.{home_below}
use Rattle.range_alloc.specs.Joins.{can_join}

-- a page is among the keys of a table where the table says something of it
mapped_key : (table : PageMap) (place : Place) → is_mapped (keys table.entries) place ≡ is_some (entry_of table place)
mapped_key table place = sym (is_some-find place_cmp place table.entries)

-- a range has a page
pub some_pages : (n : ℕ) → is_page_count n ≡ true → 0 < n
some_pages n count = grind (arith, nat_tests)

-- ---- how many pages of a range have a home
-- what a page adds at a home
abbrev pub one_at : ℕ → ℕ → Place → ℕ
one_at buckets home place = cond (home_of buckets place == home) 1 0

-- by its first page
pub homes_first : (buckets home space start n : ℕ) → homes_at buckets home (places_of space start (suc n)) ≡ one_at buckets home (space, start) + homes_at buckets home (places_of space (start + 1) n)
homes_first buckets home space start n = sum_by-cons (one_at buckets home) (space, start) (places_of space (start + 1) n)

-- by its last page
pub homes_more : (buckets home space start n : ℕ) → homes_at buckets home (places_of space start (n + 1)) ≡ homes_at buckets home (places_of space start n) + one_at buckets home (space, start + n)
homes_more buckets home space start n = sum_by-map-range_with_len_more (one_at buckets home) (λ page. (space, page)) start n (start + n) refl

-- a longer range has no fewer pages at a home
pub homes_rise : (buckets home space start n more : ℕ) → homes_at buckets home (places_of space start n) ≤ homes_at buckets home (places_of space start (n + more))
homes_rise buckets home space start n zero = let same : n + 0 ≡ n = omega arith in rw same (omega arith)
homes_rise buckets home space start n (suc more) =
    let same : n + suc more ≡ n + more + 1 = omega arith in
    rw same (omega (arith, homes_more buckets home space start (n + more), homes_rise buckets home space start n more))

-- ---- a range fits
-- a test that each page passes, and one that each bucket passes
all_pages : (test : Place → Bool) (space start n : ℕ) → ((page : ℕ) → start ≤ page → page < start + n → test (space, page) ≡ true) → list_all test (places_of space start n) ≡ true
all_pages test space start zero passes = refl
all_pages test space start (suc n) passes =
    ap (λ b. b && list_all test (places_of space (start + 1) n)) (passes start (omega arith) (omega arith))
    ∙ all_pages test space (start + 1) n (λ page low high. passes page (omega (arith, low)) (omega (arith, high)))

all_homes : (test : ℕ → Bool) (first n : ℕ) → ((home : ℕ) → test home ≡ true) → list_all test (range_with_len first n) ≡ true
all_homes test first zero passes = refl
all_homes test first (suc n) passes = ap (λ b. b && list_all test (range_with_len (first + 1) n)) (passes first) ∙ all_homes test (first + 1) n passes

all_four : (a b c d : Bool) → a ≡ true → b ≡ true → c ≡ true → d ≡ true → (a && b && c && d) ≡ true
all_four a b c d p q r s = grind arith

-- a page of the space that is free and can't join has a home with no room
pub third : (a b c : Bool) → a ≡ true → b ≡ false → (a && not b && c) ≡ false → c ≡ false
third a b c p q r = grind arith

pub at_least : (m : ℕ) → nat_lt m 4 ≡ false → 4 ≤ m
at_least m is = grind (arith, nat_tests)

module _ (table : PageMap) (space start n : ℕ) where
  -- what has to hold of each page and of each bucket
  pub record Fits : Type 0 where
    pub low : 1 ≤ start
    pub high : start + n ≤ 65536
    pub unmapped : (page : ℕ) → start ≤ page → page < start + n → is_some (entry_of table (space, page)) ≡ false
    pub four : (home : ℕ) → load table home + homes_at table.buckets home (places_of space start n) ≤ 4

  -- then the range fits
  pub fits-true : Fits → fits table.buckets (keys table.entries) space start n ≡ true
  fits-true holds =
      let low : leb 1 start ≡ true = let le = holds.low in grind (arith, nat_tests) in
      let high : leb (start + n) 65536 ≡ true = let le = holds.high in grind (arith, nat_tests) in
      all_four _ _ _ _ low high
      (all_pages (λ place. not (is_mapped (keys table.entries) place)) space start n (λ page first last. ap not (mapped_key table (space, page) ∙ holds.unmapped page first last)))
      (all_homes (λ home. leb (load table home + homes_at table.buckets home (places_of space start n)) 4) 0 table.buckets (λ home. let le = holds.four home in grind (arith, nat_tests)))

  -- ---- a range doesn't fit
  -- it doesn't end with the space
  pub too_far : 65536 < start + n → fits table.buckets (keys table.entries) space start n ≡ false
  too_far past = let far : leb (start + n) 65536 ≡ false = grind (arith, nat_tests) in grind arith

  -- one of its pages is mapped
  pub page_mapped : (i : ℕ) → i < n → is_some (entry_of table (space, start + i)) ≡ true → fits table.buckets (keys table.entries) space start n ≡ false
  page_mapped i below mapped =
      let test : Place → Bool = λ place. not (is_mapped (keys table.entries) place) in
      let here : test (space, start + i) ≡ false = ap not (mapped_key table (space, start + i) ∙ mapped) in
      let inside : i < length (places_of space start n) = omega (arith, length-map-range_with_len {X = Place} (λ page. (space, page)) start n, below) in
      let fails : list_all test (places_of space start n) ≡ false =
      list_all_at test (places_of space start n) i (space, 0) inside (ap test (get_or-map-range_with_len {X = Place} (λ page. (space, page)) start n i (start + i) (space, 0) below refl) ∙ here) in
      grind arith

  -- a bucket would have more than four
  pub bucket_full : (home : ℕ) → home < table.buckets → 4 < load table home + homes_at table.buckets home (places_of space start n) → fits table.buckets (keys table.entries) space start n ≡ false
  bucket_full home below full =
      let test : ℕ → Bool = λ home. leb (load table home + homes_at table.buckets home (places_of space start n)) 4 in
      let here : test home ≡ false = grind (arith, nat_tests) in
      let same : 0 + home ≡ home = omega arith in
      let inside : home < length (range_with_len 0 table.buckets) = omega (arith, length-range_with_len 0 table.buckets, below) in
      let fails : list_all test (range_with_len 0 table.buckets) ≡ false =
      list_all_at test (range_with_len 0 table.buckets) home 0 inside (ap test (get_or-range_with_len 0 table.buckets home 0 below ∙ same) ∙ here) in
      grind arith

  -- with the pages before it in the home of a page, that home has no room for the page
  pub home_full : (i : ℕ) → i < n → is_bucket_count table.buckets ≡ true
      → 4 ≤ load table (home_of table.buckets (space, start + i)) + homes_at table.buckets (home_of table.buckets (space, start + i)) (places_of space start i)
      → fits table.buckets (keys table.entries) space start n ≡ false
  home_full i below counted full =
      let home : ℕ = home_of table.buckets (space, start + i) in
      let one : one_at table.buckets home (space, start + i) ≡ 1 = adds_one home in
      let longer : i + 1 + (n - (i + 1)) ≡ n = omega arith in
      let more : homes_at table.buckets home (places_of space start (i + 1 + (n - (i + 1)))) ≡ homes_at table.buckets home (places_of space start n) = ap (λ k. homes_at table.buckets home (places_of space start k)) longer in
      bucket_full home (home_below table.buckets (space, start + i) counted)
      (omega (arith, full, one, homes_more table.buckets home space start i, homes_rise table.buckets home space start (i + 1) (n - (i + 1)), more))
    where
      adds_one : (h : ℕ) → ◌≡◌ {A = ℕ} (cond (h == h) 1 0) 1
      adds_one h = grind (arith, nat_tests)

  -- one of its pages can't join
  pub page_blocked : (i : ℕ) → i < n → IsValid table → can_join table space (start + i) ≡ false → fits table.buckets (keys table.entries) space start n ≡ false
  page_blocked i below valid cannot = elim (cases_Bool (nat_lt (start + i) 65536)) [
    | inr past ↦ too_far (let beyond : 65536 ≤ start + i = grind (arith, nat_tests) in omega (arith, beyond, below))
    | inl inside ↦ elim (cases_Bool (is_some (entry_of table (space, start + i)))) [
      | inl mapped ↦ page_mapped i below mapped
      | inr free ↦ home_full i below valid.counted (let full = at_least _ (third _ _ _ inside free cannot) in omega (arith, full))
    ]
  ]
