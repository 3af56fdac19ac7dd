-- What a store means when all ranges of a process have left it.
use Rattle.std.proofs.Common.{T, ◌≡◌, inl, inr, ℕ, ◌<◌, ◌==◌, Bool, true, false, not, cond, is_some, List, [], ◌∷◌, length, Option, Some, None, option_map, slice_get, ◌⊎◌, IsTrue, refl, sym, ap, subst, ◌∙◌, arith}
use Rattle.std.specs.FinMap.Entries.{find, where_key, is_sorted, find-where_key, is_sorted-where_key, same_entries, length_without}
use Rattle.std.specs.Ordering.{eq_by_cmp}
use Rattle.std.proofs.Math.Logic.{∥∥₁_elim}
use Rattle.std.proofs.lemmas.Bool.{cases_Bool, eq-eqb}
use Rattle.std.proofs.lemmas.Bool.Decides.{nat_tests}
use Rattle.cl_types.specs.declared.page.Pte.{Pte}
use Rattle.cl_types.specs.Places.{Place, place_cmp, is_process}
use Rattle.cl_types.specs.Ranges.{is_page_count}
use Rattle.cl_types.proofs.PlaceLemmas.{place_total, place_exact, same_place, split_place}
use Rattle.flat_model.specs.State.{FlatState}
use Rattle.flat_model.specs.Step.{is_among, unmapped}
use Rattle.hash_buckets.specs.PageMap.{entry_of}
use Rattle.range_alloc.specs.RangeSets.{ranges_in}
use Rattle.range_alloc.specs.Ranges.{span_at}
use Rattle.range_alloc.proofs.Entries.{sorted_table, span_in}
use Rattle.data_path.specs.declared.store.PageStore.{PageStore}
use Rattle.data_path.specs.Exiting.{exited}
use Rattle.data_path.specs.Listing.{pages_listed}
use Rattle.data_path.specs.Store.{memory_of, pages_in, spans_in, IsWhole}
use Rattle.data_path.proofs.Listing.{counted}
use Rattle.data_path.proofs.Ranging.{pages_in-where}
use Rattle.data_path.proofs.Spans.{span_of, sorted_spans, find-spans_in}

-- ---- entries that a test leaves
-- what the narrower test leaves is the same, whatever the wider one took out before
where_narrow : {X : Type 0} (narrow wide : Place → Bool) → ((q : Place) → narrow q ≡ true → wide q ≡ true) → (es : List (Place × X))
    → where_key place_cmp narrow (where_key place_cmp wide es) ≡ where_key place_cmp narrow es
where_narrow narrow wide implies [] = refl
where_narrow narrow wide implies (e ∷ es) = elim (cases_Bool (narrow e.0)) [
  | inl stays ↦ rw (implies e.0 stays) (rw stays (ap (λ l. e ∷ l) (where_narrow narrow wide implies es)))
  | inr leaves ↦ elim (cases_Bool (wide e.0)) [
    | inl passes ↦ rw passes (rw leaves (where_narrow narrow wide implies es))
    | inr fails ↦ rw (fails, leaves) (where_narrow narrow wide implies es)
  ]
]

-- entries of which none is the process's all stay
none_leaves : {X : Type 0} (space : ℕ) (es : List (Place × X)) → T (is_sorted place_cmp es) → ((page : ℕ) → find place_cmp (space, page) es ≡ None) → where_key place_cmp (λ place. not (place.0 == space)) es ≡ es
none_leaves {X} space es sorted none =
    same_entries place_cmp place_total place_exact (where_key place_cmp (λ place. not (place.0 == space)) es) es (is_sorted-where_key place_cmp (λ place. not (place.0 == space)) es sorted) sorted (λ q.
    find-where_key place_cmp (λ place. not (place.0 == space)) q (λ x equal. ap (λ (y : Place). not (y.0 == space)) (sym (place_exact q x equal))) es ∙ at q (cases_Bool (q.0 == space)))
  where
    at : (q : Place) → ((q.0 == space) ≡ true) ⊎ ((q.0 == space) ≡ false) → cond (not (q.0 == space)) (find place_cmp q es) None ≡ find place_cmp q es
    at q (inl mine) =
        let same : q.0 ≡ space = grind (arith, nat_tests) in
        rw mine (sym (ap (λ k. let place : Place = (k, q.1) in find place_cmp place es) same ∙ none q.1))
    at q (inr other) = rw other refl

-- ---- a range of the process leaves
pub exited-unmapped : (m : FlatState) (space start n : ℕ) → exited (unmapped m space start n) space ≡ exited m space
exited-unmapped m space start n = λ i. record (exited m space) {
  map = where_narrow (λ place. not (place.0 == space)) (λ place. not (is_among space start n place)) apart m.map i;
  ranges = where_narrow (λ place. not (place.0 == space)) (λ place. not (eq_by_cmp place_cmp (space, start) place)) elsewhere m.ranges i;
}
  where
    apart : (q : Place) → not (q.0 == space) ≡ true → not (is_among space start n q) ≡ true
    apart q other = elim (cases_Bool (q.0 == space)) [
      | inl mine ↦ absurd (let fails = rw mine at other in cc)
      | inr ne ↦ rw (ne, is_among) refl
    ]

    elsewhere : (q : Place) → not (q.0 == space) ≡ true → not (same_place (space, start) q) ≡ true
    elsewhere q other = elim (split_place (space, start) q) [
      | inl one ↦ absurd (let mine : (q.0 == space) ≡ true = let same = ap (λ (p : Place). p.0) one.0 in grind (arith, nat_tests) in let fails = rw mine at other in cc)
      | inr two ↦ rw two.1 refl
    ]

-- ---- what a list says of the table
pub none_first : (rs : List (ℕ × ℕ)) → None ≡ option_map (λ (range : ℕ × ℕ). range.0) (slice_get rs 0) → rs ≡ []
none_first [] is = refl
none_first (r ∷ rs) is = absurd cc

module _ (s : PageStore) (whole : IsWhole s) (space : ℕ) (process : is_process space ≡ true) where
  sorted : T (is_sorted place_cmp s.table.entries)
  sorted = sorted_table s.table whole.fit.valid

  named : (start : ℕ) → pages_listed start (ranges_in s.ranges space) ≡ span_of (entry_of s.table (space, start))
  named start = whole.listed.named space start process ∙ find-spans_in s.table.entries (space, start) sorted

  -- where none is listed no page of the process is mapped
  pub none_left : ranges_in s.ranges space ≡ [] → exited (memory_of s) space ≡ memory_of s
  none_left empty = λ i. record (memory_of s) { map = pages i; ranges = ranges i }
    where
      unlisted : (start : ℕ) → span_of (entry_of s.table (space, start)) ≡ None
      unlisted start = sym (named start) ∙ ap (pages_listed start) empty

      no_span : (start : ℕ) → span_at s.table (space, start) ≡ 0
      no_span start = by (entry_of s.table (space, start)) (unlisted start)
        where
          by : (o : Option Pte) → span_of o ≡ None → span_in o ≡ 0
          by None none = refl
          by (Some pte) none = elim (cases_Bool (pte.span == 0)) [
            | inl t ↦ grind (arith, nat_tests)
            | inr f ↦ absurd (let some = rw f at none in cc)
          ]

      none : (page : ℕ) → entry_of s.table (space, page) ≡ None
      none page = by (entry_of s.table (space, page)) refl
        where
          by : (o : Option Pte) → entry_of s.table (space, page) ≡ o → o ≡ None
          by None there = refl
          by (Some pte) there = absurd (∥∥₁_elim {P = ⊥} (whole.fit.ranges.covered space page (ap is_some there)) (λ x y. absurd x) (λ range. let zero = no_span range.0 in omega (arith, range.1.0, range.1.1, zero)))

      entries : where_key place_cmp (λ place. not (place.0 == space)) s.table.entries ≡ s.table.entries
      entries = none_leaves space s.table.entries sorted none

      pages : where_key place_cmp (λ place. not (place.0 == space)) (pages_in s.arena s.table.entries) ≡ pages_in s.arena s.table.entries
      pages = sym (pages_in-where s.arena (λ place. not (place.0 == space)) s.table.entries) ∙ ap (pages_in s.arena) entries

      ranges : where_key place_cmp (λ place. not (place.0 == space)) (spans_in s.table.entries) ≡ spans_in s.table.entries
      ranges = none_leaves space (spans_in s.table.entries) (sorted_spans s.table.entries sorted) (λ page. find-spans_in s.table.entries (space, page) sorted ∙ unlisted page)

  -- the range that is listed first stands
  pub record IsFirst (start : ℕ) : Type 0 where
    pub listed : pages_listed start (ranges_in s.ranges space) ≡ Some (span_at s.table (space, start))
    pub count : IsTrue (is_page_count (span_at s.table (space, start)))

  pub first_stands : (start : ℕ) → Some start ≡ option_map (λ (range : ℕ × ℕ). range.0) (slice_get (ranges_in s.ranges space) 0) → IsFirst start
  first_stands start is = by (ranges_in s.ranges space) refl is
    where
      span_is : (o : Option Pte) (n : ℕ) → span_of o ≡ Some n → n ≡ span_in o
      span_is None n is = absurd cc
      span_is (Some pte) n is = elim (cases_Bool (pte.span == 0)) [
        | inl t ↦ absurd (let none = rw t at is in cc)
        | inr f ↦ let some : Some pte.span ≡ Some n = rw f at is in let value : pte.span ≡ n = cc in sym value
      ]

      by : (rs : List (ℕ × ℕ)) → ranges_in s.ranges space ≡ rs → Some start ≡ option_map (λ (range : ℕ × ℕ). range.0) (slice_get rs 0) → IsFirst start
      by [] are is = absurd cc
      by (r ∷ rs) are is =
          let begins : r.0 ≡ start = cc in
          let found : pages_listed start (ranges_in s.ranges space) ≡ Some r.1 = ap (pages_listed start) are ∙ rw (eq-eqb r.0 start begins) refl in
          let spans : span_of (entry_of s.table (space, start)) ≡ Some r.1 = sym (named start) ∙ found in
          let same : r.1 ≡ span_at s.table (space, start) = span_is (entry_of s.table (space, start)) r.1 spans in
          record {
            listed = found ∙ ap (λ (n : ℕ). Some n) same;
            count = subst (λ (n : ℕ). IsTrue (is_page_count n)) same (counted start r.1 (ranges_in s.ranges space) (whole.listed.apart space process) found);
          }

  -- without it there is one range less
  pub one_fewer : (start n : ℕ) → pages_listed start (ranges_in s.ranges space) ≡ Some n → length (unmapped (memory_of s) space start n).ranges < length (memory_of s).ranges
  one_fewer start n there =
      let found = sym (whole.listed.named space start process) ∙ there in
      let less = length_without place_cmp place_total (space, start) (spans_in s.table.entries) (sorted_spans s.table.entries sorted) in
      let one = ap {B = ℕ} (λ (o : Option ℕ). cond (is_some o) 1 0) found in
      omega (arith, less, one)
