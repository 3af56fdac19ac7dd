-- How the lists of a store go on naming the ranges of the processes.
use Rattle.std.proofs.Common.{T, ◌≡◌, ◌≢◌, inl, inr, ℕ, Bool, zero, suc, ◌+◌, ◌*◌, ◌<◌, ◌≤◌, ◌==◌, true, false, not, cond, is_some, List, [], ◌∷◌, ◌++◌, map, length, Option, Some, None, IsTrue, nat_lt, count_by, refl, sym, ap, subst, ◌∙◌, arith}
use Rattle.std.specs.FinMap.Entries.{find, put, where_key, is_sorted, find-put, find-where_key, length-put, length_without}
use Rattle.std.specs.Ordering.{eq_by_cmp}
use Rattle.std.proofs.lemmas.Bool.{cases_Bool, eq-eqb, ne_eqb}
use Rattle.std.proofs.lemmas.Bool.Decides.{nat_tests}
use Rattle.std.proofs.lemmas.List.Sums.{sum_by-cons}
use Rattle.cl_types.specs.Places.{Place, place_cmp, is_process, home_of, homes_at, is_bucket_count}
use Rattle.cl_types.specs.Ranges.{is_page_count}
use Rattle.cl_types.proofs.PlaceLemmas.{place_total, place_exact, same_place, split_place}
use Rattle.index_lists.proofs.Linking.{split_eq}
use Rattle.range_alloc.specs.RangeSets.{RangeSets, drop_start, has_start, ranges_in}
use Rattle.range_alloc.specs.declared.lists.TheConstants.{SPACES}
use Rattle.hash_buckets.specs.PageMap.{PageMap, IsValid}
use Rattle.flat_model.proofs.BucketLemmas.{home_below}
use Rattle.std.proofs.lemmas.List.{length-map}
use Rattle.cl_types.specs.declared.page.Pte.{Pte}
use Rattle.data_path.specs.Store.{spans_in}
use Rattle.data_path.specs.Listing.{AreApart, AreListed, pages_listed}

-- ---- a list of ranges
-- none begins here where none is listed
pub none_begins : (start : ℕ) (rs : List (ℕ × ℕ)) → pages_listed start rs ≡ None → has_start start rs ≡ false
none_begins start [] none = refl
none_begins start (r ∷ rs) none = elim (split_eq r.0 start) [
  | inl same ↦ absurd (let some = rw same.1 at none in cc)
  | inr other ↦ rw other.1 (none_begins start rs (rw other.1 at none))
]

none_listed : (start : ℕ) (rs : List (ℕ × ℕ)) → has_start start rs ≡ false → pages_listed start rs ≡ None
none_listed start [] none = refl
none_listed start (r ∷ rs) none = elim (split_eq r.0 start) [
  | inl same ↦ absurd (let some = rw same.1 at none in cc)
  | inr other ↦ rw other.1 (none_listed start rs (rw other.1 at none))
]

pub some_begins : (start n : ℕ) (rs : List (ℕ × ℕ)) → pages_listed start rs ≡ Some n → has_start start rs ≡ true
some_begins start n [] some = absurd cc
some_begins start n (r ∷ rs) some = elim (split_eq r.0 start) [
  | inl same ↦ rw same.1 refl
  | inr other ↦ rw other.1 (some_begins start n rs (rw other.1 at some))
]

-- a range that is listed has 1 to 1,024 pages
pub counted : (start n : ℕ) (rs : List (ℕ × ℕ)) → AreApart rs → pages_listed start rs ≡ Some n → IsTrue (is_page_count n)
counted start n [] apart some = absurd cc
counted start n (r ∷ rs) apart some = elim (split_eq r.0 start) [
  | inl same ↦ let found : Some r.1 ≡ Some n = rw same.1 at some in let value : r.1 ≡ n = cc in subst (λ k. IsTrue (is_page_count k)) value apart.1
  | inr other ↦ counted start n rs apart.2 (rw other.1 at some)
]

-- a range joins
listed-append : (start : ℕ) (range : ℕ × ℕ) (rs : List (ℕ × ℕ)) → has_start range.0 rs ≡ false
    → pages_listed start (rs ++ range ∷ []) ≡ cond (range.0 == start) (Some range.1) (pages_listed start rs)
listed-append start range [] none = refl
listed-append start range (r ∷ rs) none = elim (split_eq r.0 range.0) [
  | inl same ↦ absurd (let some = rw same.1 at none in cc)
  | inr apart ↦ elim (split_eq r.0 start) [
    | inl same ↦ rw (same.1, ne_eqb range.0 start (λ e. apart.0 (same.0 ∙ sym e))) refl
    | inr other ↦ rw other.1 (listed-append start range rs (rw apart.1 at none))
  ]
]

starts-append : (start : ℕ) (range : ℕ × ℕ) (rs : List (ℕ × ℕ)) → has_start start rs ≡ false → range.0 ≢ start → has_start start (rs ++ range ∷ []) ≡ false
starts-append start range [] none ne = rw (ne_eqb range.0 start ne) refl
starts-append start range (r ∷ rs) none ne = elim (split_eq r.0 start) [
  | inl same ↦ absurd (let some = rw same.1 at none in cc)
  | inr other ↦ rw other.1 (starts-append start range rs (rw other.1 at none) ne)
]

apart-append : (range : ℕ × ℕ) (rs : List (ℕ × ℕ)) → has_start range.0 rs ≡ false → IsTrue (is_page_count range.1) → AreApart rs → AreApart (rs ++ range ∷ [])
apart-append range [] none count apart = (refl, count, tt)
apart-append range (r ∷ rs) none count apart = elim (split_eq r.0 range.0) [
  | inl same ↦ absurd (let some = rw same.1 at none in cc)
  | inr other ↦ (starts-append r.0 range rs apart.0 (λ e. other.0 (sym e)), apart.1, apart-append range rs (rw other.1 at none) count apart.2)
]

-- a range leaves
starts-drop : (start other : ℕ) (rs : List (ℕ × ℕ)) → has_start other rs ≡ false → has_start other (drop_start start rs) ≡ false
starts-drop start other [] none = refl
starts-drop start other (r ∷ rs) none = elim (split_eq r.0 other) [
  | inl same ↦ absurd (let some = rw same.1 at none in cc)
  | inr apart ↦ elim (split_eq r.0 start) [
    | inl same ↦ rw same.1 (rw apart.1 at none)
    | inr ne ↦ rw ne.1 (rw apart.1 (starts-drop start other rs (rw apart.1 at none)))
  ]
]

apart-drop : (start : ℕ) (rs : List (ℕ × ℕ)) → AreApart rs → AreApart (drop_start start rs)
apart-drop start [] apart = tt
apart-drop start (r ∷ rs) apart = elim (split_eq r.0 start) [
  | inl same ↦ rw same.1 apart.2
  | inr other ↦ rw other.1 (starts-drop start r.0 rs apart.0, apart.1, apart-drop start rs apart.2)
]

listed-drop : (start other : ℕ) (rs : List (ℕ × ℕ)) → AreApart rs → pages_listed other (drop_start start rs) ≡ cond (start == other) None (pages_listed other rs)
listed-drop start other [] apart = elim (cases_Bool (start == other)) [ inl t ↦ rw t refl | inr f ↦ rw f refl ]
listed-drop start other (r ∷ rs) apart = elim (split_eq r.0 start) [
  | inl first ↦ elim (split_eq start other) [
    | inl same ↦ rw (first.1, same.1) (none_listed other rs (subst (λ k. has_start k rs ≡ false) (first.0 ∙ same.0) apart.0))
    | inr ne ↦ rw (first.1, ne.1, ne_eqb r.0 other (λ e. ne.0 (sym first.0 ∙ e))) refl
  ]
  | inr later ↦ elim (split_eq r.0 other) [
    | inl here ↦ rw (later.1, ne_eqb start other (λ e. later.0 (here.0 ∙ sym e))) (rw here.1 refl)
    | inr ne ↦ rw later.1 (rw ne.1 (listed-drop start other rs apart.2))
  ]
]

pub length_drop : (start : ℕ) (rs : List (ℕ × ℕ)) → has_start start rs ≡ true → length (drop_start start rs) + 1 ≡ length rs
length_drop start [] there = absurd cc
length_drop start (r ∷ rs) there = elim (split_eq r.0 start) [
  | inl same ↦ rw same.1 (omega arith)
  | inr other ↦ rw other.1 (let rest = length_drop start rs (rw other.1 at there) in omega (arith, rest))
]

-- ---- the lists of a store
-- a process's space is one that has a list
pub listed_space : (space : ℕ) → is_process space ≡ true → space < SPACES
listed_space space process = grind (arith, nat_tests)

-- none is listed, and none stands
pub listed_none : (lists : RangeSets) (ranges : List (Place × ℕ)) (buckets : ℕ) → lists.count ≡ 0 → lists.nodes ≡ 4 * buckets
    → ((space : ℕ) → space < SPACES → ranges_in lists space ≡ []) → ((space start : ℕ) → is_process space ≡ true → find place_cmp (space, start) ranges ≡ None)
    → AreListed lists ranges buckets
listed_none lists ranges buckets count nodes empty none = record {
  named = λ space start process. ap (pages_listed start) (empty space (listed_space space process)) ∙ sym (none space start process);
  apart = λ space process. subst AreApart (sym (empty space (listed_space space process))) tt;
  few = omega (arith, count);
  nodes = nodes;
}

-- none is listed, and those that stand are of no process
pub listed_others : (lists : RangeSets) (ranges : List (Place × ℕ)) (buckets : ℕ) → AreListed lists [] buckets → ((space start : ℕ) → is_process space ≡ true → find place_cmp (space, start) ranges ≡ None)
    → AreListed lists ranges buckets
listed_others lists ranges buckets listed none = record {
  named = λ space start process. listed.named space start process ∙ sym (none space start process);
  apart = listed.apart;
  few = omega (arith, listed.few);
  nodes = listed.nodes;
}

module _ (old new : RangeSets) (ranges : List (Place × ℕ)) (buckets space start n : ℕ) (listed : AreListed old ranges buckets) (process : is_process space ≡ true)
    (sorted : T (is_sorted place_cmp ranges)) (others : (other : ℕ) → other < SPACES → other ≢ space → ranges_in new other ≡ ranges_in old other) (nodes : new.nodes ≡ old.nodes) where
  -- a range joins
  pub listed_joined : ranges_in new space ≡ ranges_in old space ++ (start, n) ∷ [] → new.count ≡ old.count + 1 → IsTrue (is_page_count n) → find place_cmp (space, start) ranges ≡ None
      → AreListed new (put place_cmp (space, start) n ranges) buckets
  listed_joined last count pages none = record {
    named = named;
    apart = λ other is. elim (split_eq other space) [
      | inl same ↦ subst AreApart (sym last ∙ ap (ranges_in new) (sym same.0)) (apart-append (start, n) (ranges_in old space) absent pages (listed.apart space process))
      | inr ne ↦ subst AreApart (sym (others other (listed_space other is) ne.0)) (listed.apart other is)
    ];
    few = let long = length-put place_cmp place_total (space, start) n ranges sorted in
        let more = ap (λ (o : Option ℕ). cond (is_some o) (length ranges) (length ranges + 1)) none in omega (arith, long, more, count, listed.few);
    nodes = nodes ∙ listed.nodes;
  }
    where
      absent : has_start start (ranges_in old space) ≡ false
      absent = none_begins start (ranges_in old space) (listed.named space start process ∙ none)

      by_start : (from : ℕ) → (start == from) ≡ same_place (space, from) (space, start)
      by_start from = elim (split_eq start from) [
        | inl same ↦ same.1 ∙ elim (split_place (space, from) (space, start)) [
          | inl one ↦ sym one.1
          | inr two ↦ absurd (two.0 (λ i. (space, sym same.0 i)))
        ]
        | inr ne ↦ ne.1 ∙ elim (split_place (space, from) (space, start)) [
          | inl one ↦ absurd (ne.0 (sym (ap (λ (p : Place). p.1) one.0)))
          | inr two ↦ sym two.1
        ]
      ]

      apart : (other from : ℕ) → other ≢ space → same_place (other, from) (space, start) ≡ false
      apart other from ne = elim (split_place (other, from) (space, start)) [
        | inl one ↦ absurd (ne (ap (λ (p : Place). p.0) one.0))
        | inr two ↦ two.1
      ]

      named : (other from : ℕ) → is_process other ≡ true → pages_listed from (ranges_in new other) ≡ find place_cmp (other, from) (put place_cmp (space, start) n ranges)
      named other from is = elim (split_eq other space) [
        | inl same ↦
            ap (λ k. pages_listed from (ranges_in new k)) same.0 ∙ ap (pages_listed from) last ∙ listed-append from (start, n) (ranges_in old space) absent
            ∙ ap (cond (start == from) (Some n)) (listed.named space from process)
            ∙ ap (λ b. cond b (Some n) (find place_cmp (space, from) ranges)) (by_start from)
            ∙ sym (find-put place_cmp place_total (space, from) (space, start) n ranges)
            ∙ ap (λ k. find place_cmp (k, from) (put place_cmp (space, start) n ranges)) (sym same.0)
        | inr ne ↦
            ap (pages_listed from) (others other (listed_space other is) ne.0) ∙ listed.named other from is
            ∙ sym (find-put place_cmp place_total (other, from) (space, start) n ranges ∙ ap (λ b. cond b (Some n) (find place_cmp (other, from) ranges)) (apart other from ne.0))
      ]

  -- a range leaves
  pub listed_left : ranges_in new space ≡ drop_start start (ranges_in old space) → new.count + 1 ≡ old.count → find place_cmp (space, start) ranges ≡ Some n
      → AreListed new (where_key place_cmp (λ place. not (eq_by_cmp place_cmp (space, start) place)) ranges) buckets
  listed_left gone count there = record {
    named = named;
    apart = λ other is. elim (split_eq other space) [
      | inl same ↦ subst AreApart (sym gone ∙ ap (ranges_in new) (sym same.0)) (apart-drop start (ranges_in old space) (listed.apart space process))
      | inr ne ↦ subst AreApart (sym (others other (listed_space other is) ne.0)) (listed.apart other is)
    ];
    few = let fewer = length_without place_cmp place_total (space, start) ranges sorted in
        let one = ap {B = ℕ} (λ (o : Option ℕ). cond (is_some o) 1 0) there in omega (arith, fewer, one, count, listed.few);
    nodes = nodes ∙ listed.nodes;
  }
    where
      kept : (q : Place) → find place_cmp q (where_key place_cmp (λ place. not (same_place (space, start) place)) ranges) ≡ cond (not (same_place (space, start) q)) (find place_cmp q ranges) None
      kept q = find-where_key place_cmp (λ place. not (same_place (space, start) place)) q (λ x equal. ap (λ y. not (same_place (space, start) y)) (sym (place_exact q x equal))) ranges

      by_start : (from : ℕ) → cond (start == from) None (find place_cmp (space, from) ranges) ≡ cond (not (same_place (space, start) (space, from))) (find place_cmp (space, from) ranges) None
      by_start from = elim (split_place (space, start) (space, from)) [
        | inl one ↦ rw (one.1, eq-eqb start from (ap (λ (p : Place). p.1) one.0)) refl
        | inr two ↦ rw (two.1, ne_eqb start from (λ e. two.0 (λ i. (space, e i)))) refl
      ]

      apart : (other from : ℕ) → other ≢ space → same_place (space, start) (other, from) ≡ false
      apart other from ne = elim (split_place (space, start) (other, from)) [
        | inl one ↦ absurd (ne (sym (ap (λ (p : Place). p.0) one.0)))
        | inr two ↦ two.1
      ]

      named : (other from : ℕ) → is_process other ≡ true → pages_listed from (ranges_in new other) ≡ find place_cmp (other, from) (where_key place_cmp (λ place. not (same_place (space, start) place)) ranges)
      named other from is = elim (split_eq other space) [
        | inl same ↦
            ap (λ k. pages_listed from (ranges_in new k)) same.0 ∙ ap (pages_listed from) gone
            ∙ listed-drop start from (ranges_in old space) (listed.apart space process)
            ∙ ap (cond (start == from) None) (listed.named space from process)
            ∙ by_start from
            ∙ sym (kept (space, from))
            ∙ ap (λ k. find place_cmp (k, from) (where_key place_cmp (λ place. not (same_place (space, start) place)) ranges)) (sym same.0)
        | inr ne ↦
            ap (pages_listed from) (others other (listed_space other is) ne.0) ∙ listed.named other from is
            ∙ sym (kept (other, from) ∙ ap (λ b. cond (not b) (find place_cmp (other, from) ranges) None) (apart other from ne.0))
      ]

-- ---- as many entries as the buckets have room for
-- how many of these pages have a home below this one
abbrev homes_below : ℕ → ℕ → List Place → ℕ
homes_below buckets home places = count_by (λ place. nat_lt (home_of buckets place) home) places

below-next : (buckets home : ℕ) (places : List Place) → homes_below buckets (home + 1) places ≡ homes_below buckets home places + homes_at buckets home places
below-next buckets home [] = refl
below-next buckets home (place ∷ places) =
    let next = sum_by-cons (λ p. cond (nat_lt (home_of buckets p) (home + 1)) 1 0) place places in
    let now = sum_by-cons (λ p. cond (nat_lt (home_of buckets p) home) 1 0) place places in
    let at = sum_by-cons (λ p. cond (home_of buckets p == home) 1 0) place places in
    omega (arith, next, now, at, below-next buckets home places, one (home_of buckets place))
  where
    one : (h : ℕ) → cond (nat_lt h (home + 1)) 1 0 ≡ cond (nat_lt h home) 1 0 + cond (h == home) 1 0
    one h = grind (arith, nat_tests)

below-four : (buckets home : ℕ) (places : List Place) → ((h : ℕ) → homes_at buckets h places ≤ 4) → homes_below buckets home places ≤ 4 * home
below-four buckets zero places four = let all = none places in omega (arith, all)
  where
    none : (ps : List Place) → homes_below buckets 0 ps ≤ 0
    none [] = omega arith
    none (p ∷ ps) = let this = sum_by-cons (λ p. cond (nat_lt (home_of buckets p) 0) 1 0) p ps in let b : nat_lt (home_of buckets p) 0 ≡ false = grind (arith, nat_tests) in
        let zero' = ap {B = ℕ} (λ (b : Bool). cond b 1 0) b in omega (arith, this, zero', none ps)
below-four buckets (suc home) places four =
    subst (λ n. homes_below buckets n places ≤ 4 * n) (let e : home + 1 ≡ suc home = omega arith in e) (let next = below-next buckets home places in omega (arith, next, four home, below-four buckets home places four))

below-all : (buckets : ℕ) (places : List Place) → is_bucket_count buckets ≡ true → homes_below buckets buckets places ≡ length places
below-all buckets [] count = refl
below-all buckets (p ∷ ps) count =
    let this = sum_by-cons (λ p. cond (nat_lt (home_of buckets p) buckets) 1 0) p ps in
    let low : nat_lt (home_of buckets p) buckets ≡ true = let h = home_below buckets p count in grind (arith, nat_tests) in
    let one = ap {B = ℕ} (λ (b : Bool). cond b 1 0) low in
    omega (arith, this, one, below-all buckets ps count)

-- a table has at most four entries a bucket
pub few_entries : (table : PageMap) → IsValid table → length table.entries ≤ 4 * table.buckets
few_entries table valid =
    let places = map (λ (e : Place × Pte). e.0) table.entries in
    let all = below-all table.buckets places valid.counted in
    let four = below-four table.buckets table.buckets places valid.four in
    omega (arith, all, four, length-map table.entries (λ (e : Place × Pte). e.0))

pub few_spans : (es : List (Place × Pte)) → length (spans_in es) ≤ length es
few_spans [] = omega arith
few_spans (e ∷ es) = elim (cases_Bool (e.1.span == 0)) [ inl t ↦ rw t (let rest = few_spans es in omega (arith, rest)) | inr f ↦ rw f (let rest = few_spans es in omega (arith, rest)) ]

-- where a range joined the table the lists have room for it
pub room_joined : (lists : RangeSets) (ranges : List (Place × ℕ)) (table : PageMap) (buckets space start n : ℕ) → AreListed lists ranges buckets → T (is_sorted place_cmp ranges) → find place_cmp (space, start) ranges ≡ None
    → spans_in table.entries ≡ put place_cmp (space, start) n ranges → table.buckets ≡ buckets → IsValid table → lists.count < lists.nodes
room_joined lists ranges table buckets space start n listed sorted none joined same valid =
    let long = length-put place_cmp place_total (space, start) n ranges sorted in
    let more = ap (λ (o : Option ℕ). cond (is_some o) (length ranges) (length ranges + 1)) none in
    let entries = few_entries table valid in
    let spans = few_spans table.entries in
    let is = ap length joined in
    omega (arith, long, more, entries, spans, is, same, listed.few, listed.nodes)
