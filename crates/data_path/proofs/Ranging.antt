-- How a store stays whole, and what it means, after a range joined or left.
use Rattle.std.proofs.Common.{T, ◌≡◌, ◌≢◌, inl, inr, ℕ, zero, suc, ◌+◌, ◌-◌, ◌<◌, ◌==◌, if◌then◌else◌, Bool, true, false, not, cond, eqb, is_some, List, [], ◌∷◌, ◌++◌, map, length, length-append, append-nil, Option, Some, None, option_map, refl, sym, ap, ◌∙◌, subst, arith}
use Rattle.std.specs.List.{cons_option, filter_map}
use Rattle.std.specs.Ordering.{eq_by_cmp}
use Rattle.std.specs.FinMap.Entries.{find, put, where_key, is_sorted, find-put, is_sorted-put, find-where_key, is_sorted-where_key, same_entries}
use Rattle.std.proofs.lemmas.Bool.{cases_Bool}
use Rattle.std.proofs.lemmas.Bool.Decides.{nat_tests}
use Rattle.std.proofs.lemmas.List.Elements.{filter_map-append}
use Rattle.std.proofs.lemmas.List.FromFn.{map-range_with_len_more}
use Rattle.cl_types.specs.declared.call.Perm.{Perm}
use Rattle.cl_types.specs.declared.numbers.PageNo.{PageNo}
use Rattle.cl_types.specs.declared.page.Pte.{Pte}
use Rattle.cl_types.specs.Places.{Place, place_cmp, is_process}
use Rattle.cl_types.proofs.PlaceLemmas.{place_total, place_exact, same_place, same_place-self, same_place-sym, split_place}
use Rattle.hash_buckets.specs.PageMap.{PageMap, entry_of, without_page, IsValid}
use Rattle.hash_buckets.proofs.Tables.{find-without_page}
use Rattle.index_lists.specs.NodeLists.{has}
use Rattle.page_arena.specs.Arena.{page_at as arena_page}
use Rattle.page_pool.specs.PoolPages.{PoolPages, free_list, free_pages, AreZero}
use Rattle.range_alloc.specs.Ranges.{AreRanges, AreTaken, IsIn, frame_at, frames_of, new_page, span_at, with_pages, with_range, without_range}
use Rattle.range_alloc.proofs.Among.{among-true, among-page, among-none, among-rest, among-more}
use Rattle.range_alloc.proofs.Entries.{entry-with_range, entry-without, entry-without_range, frame_in, page_in as range_page, sorted_table, sorted-with_range, sorted-with_pages}
use Rattle.range_alloc.proofs.Fitting.{page_mapped}
use Rattle.range_alloc.proofs.Frames.{taken_same}
use Rattle.translate_cache.specs.Cached.{Cached}
use Rattle.translate_cache.specs.Cached.{entry_of as cached_entry}
use Rattle.flat_model.proofs.LeastLemmas.{least_start_is_the_least}
use Rattle.flat_model.specs.Rows.{keys}
use Rattle.flat_model.specs.State.{Page, least, places, places_of}
use Rattle.flat_model.specs.Step.{alloc, alloc_at, has_pages, is_among, is_range, mapped, unmapped, with_fresh}
use Rattle.range_alloc.specs.RangeSets.{RangeSets}
use Rattle.data_path.specs.declared.store.PageStore.{PageStore}
use Rattle.data_path.specs.Listing.{AreListed}
use Rattle.data_path.specs.Store.{page_in, pages_in, spans_in, backed, memory_of, IsFit, IsWhole}
use Rattle.data_path.proofs.Keyed.{around_new}
use Rattle.data_path.proofs.Pages.{pages_in-put, pages_in-other, backed-append}
use Rattle.data_path.proofs.Spans.{span_of, sorted_spans, find-spans_in}

-- ---- what the machine sees of a store
-- the places are the table's
pub places_are : (s : PageStore) → places (memory_of s) ≡ keys s.table.entries
places_are s = append-nil (map (λ (e : Place × Page). e.0) (pages_in s.arena s.table.entries)) ∙ each s.table.entries
  where
    each : (es : List (Place × Pte)) → map (λ (e : Place × Page). e.0) (pages_in s.arena es) ≡ keys es
    each [] = refl
    each (e ∷ es) = ap (λ l. e.0 ∷ l) (each es)

pub alloc_is : (s : PageStore) (space n : ℕ) (perm : Perm) (start : Option ℕ) → start ≡ least s.table.buckets (keys s.table.entries) space n
    → alloc (memory_of s) space n perm ≡ alloc_at (memory_of s) space n perm start
alloc_is s space n perm start is = ap (alloc_at (memory_of s) space n perm) (ap (λ ps. least s.table.buckets ps space n) (places_are s) ∙ sym is)

-- ---- frames of entries that join or leave
-- one for an entry with a frame
abbrev pub one_in : Option Pte → ℕ
one_in None = 0
one_in (Some pte) = if is_some pte.frame then 1 else 0

backed-put_new : (k : Place) (v : Pte) (es : List (Place × Pte)) → find place_cmp k es ≡ None → backed (put place_cmp k v es) ≡ backed es + one_in (Some v)
backed-put_new k v es new =
    let r = around_new place_cmp place_total place_exact k es new in
    omega (arith, ap backed (r.puts v) ∙ backed-append r.before ((k, v) ∷ r.after), ap backed r.is ∙ backed-append r.before r.after)

-- the entries are those but a page's, and that
backed-without : (k : Place) (es : List (Place × Pte)) → T (is_sorted place_cmp es) → backed es ≡ backed (without_page k es) + one_in (find place_cmp k es)
backed-without k es sorted = step (find place_cmp k es) refl
  where
    rest : List (Place × Pte)
    rest = without_page k es

    sorted' : T (is_sorted place_cmp (without_page k es))
    sorted' = is_sorted-where_key place_cmp (λ q. not (same_place k q)) es sorted

    absent : find place_cmp k (without_page k es) ≡ None
    absent = find-without_page es k k ∙ rw (same_place-self k) refl

    step : (o : Option Pte) → find place_cmp k es ≡ o → backed es ≡ backed (without_page k es) + one_in o
    step None is =
        let same : es ≡ without_page k es = same_entries place_cmp place_total place_exact es (without_page k es) sorted sorted' (λ q. elim (split_place q k) [
          | inl t ↦ ap (λ x. find place_cmp x es) t.0 ∙ is ∙ sym (find-without_page es k q ∙ rw t.1 refl)
          | inr f ↦ sym (find-without_page es k q ∙ rw f.1 refl)
        ]) in
        omega (arith, ap backed same)
    step (Some v) is =
        let whole : es ≡ put place_cmp k v (without_page k es) = same_entries place_cmp place_total place_exact es (put place_cmp k v (without_page k es)) sorted (is_sorted-put place_cmp place_total k v (without_page k es) sorted') (λ q. elim (split_place q k) [
          | inl t ↦ ap (λ x. find place_cmp x es) t.0 ∙ is ∙ sym (find-put place_cmp place_total q k v (without_page k es) ∙ rw t.1 refl)
          | inr f ↦ sym (find-put place_cmp place_total q k v (without_page k es) ∙ rw f.1 (find-without_page es k q ∙ rw f.1 refl))
        ]) in
        ap backed whole ∙ backed-put_new k v (without_page k es) absent

-- ---- pages outside of a process's range
-- a page of an offload isn't among a process's
pub offload_outside : (space start n : ℕ) (place : Place) → is_process space ≡ true → is_process place.0 ≡ false → is_among space start n place ≡ false
offload_outside space start n place process offload = elim (cases_Bool (is_among space start n place)) [
  | inl is ↦ absurd (let there = (among-true space start n place is).there in let both = sym process ∙ ap is_process (sym there) ∙ offload in cc)
  | inr isnt ↦ isnt
]

-- the offloads' entries are the same in two tables that say the same of them
pub offloads_same : (t u : PageMap) → T (is_sorted place_cmp t.entries) → T (is_sorted place_cmp u.entries) → ((q : Place) → is_process q.0 ≡ false → entry_of u q ≡ entry_of t q)
    → where_key place_cmp (λ place. not (is_process place.0)) u.entries ≡ where_key place_cmp (λ place. not (is_process place.0)) t.entries
offloads_same t u left right same =
    same_entries place_cmp place_total place_exact (where_key place_cmp test u.entries) (where_key place_cmp test t.entries)
    (is_sorted-where_key place_cmp test u.entries right) (is_sorted-where_key place_cmp test t.entries left) (λ q.
    found u q ∙ at q (is_process q.0) refl ∙ sym (found t q))
  where
    test : Place → Bool
    test place = not (is_process place.0)

    found : (table : PageMap) (q : Place) → find place_cmp q (where_key place_cmp (λ place. not (is_process place.0)) table.entries) ≡ cond (not (is_process q.0)) (entry_of table q) None
    found table q = find-where_key place_cmp (λ place. not (is_process place.0)) q (λ x equal. ap (λ (y : Place). not (is_process y.0)) (sym (place_exact q x equal))) table.entries

    at : (q : Place) (b : Bool) → is_process q.0 ≡ b → cond (not (is_process q.0)) (entry_of u q) None ≡ cond (not (is_process q.0)) (entry_of t q) None
    at q true is = rw is refl
    at q false is = rw is (same q is)

-- ---- a range joins
module _ (s : PageStore) (space start n : ℕ) (perm : Perm) (whole : IsFit s) (some : 0 < n)
    (found : Some start ≡ least s.table.buckets (keys s.table.entries) space n) where
  abbrev pub joined : PageMap
  joined = with_range s.table space start n perm

  -- no page of the range was mapped
  unmapped_page : (q : Place) → is_among space start n q ≡ true → entry_of s.table q ≡ None
  unmapped_page q is = none_of (entry_of s.table q) refl
    where
      none_of : (o : Option Pte) → entry_of s.table q ≡ o → o ≡ None
      none_of None there = refl
      none_of (Some pte) there =
          let among = among-true space start n q is in
          let i = q.1 - start in
          let here : q ≡ (space, start + i) = λ k. (among.there k, (let e : q.1 ≡ start + i = omega (arith, among.low) in e) k) in
          let there' : is_some (entry_of s.table (space, start + i)) ≡ true = ap (λ p. is_some (entry_of s.table p)) (sym here) ∙ ap is_some there in
          let fails = page_mapped s.table space start n i (omega (arith, among.low, among.high)) there' in
          let passes = (least_start_is_the_least s.table.buckets (keys s.table.entries) space n start (sym found)).fitting in
          absurd (let both = sym passes ∙ fails in cc)

  outside : (q : Place) → is_among space start n q ≡ false → entry_of joined q ≡ entry_of s.table q
  outside q isnt = entry-with_range s.table space start n perm q ∙ rw isnt refl

  sorted : T (is_sorted place_cmp s.table.entries)
  sorted = sorted_table s.table whole.valid

-- an entry that isn't among the new pages and wasn't there isn't there
find-new : (perm : Perm) (span space start n : ℕ) (es : List (Place × Pte)) (q : Place) → is_among space start n q ≡ false → find place_cmp q es ≡ None
    → find place_cmp q (with_pages perm span (places_of space start n) es) ≡ None
find-new perm span space start zero es q isnt none = none
find-new perm span space start (suc n) es q isnt none = elim (split_place q (space, start)) [
  | inl t ↦ absurd (let is = ap (is_among space start (suc n)) t.0 ∙ among-page space start (suc n) start (omega arith) (omega arith) in let both = sym isnt ∙ is in cc)
  | inr f ↦
      find-put place_cmp place_total q (space, start) (new_page perm span) (with_pages perm 0 (places_of space (start + 1) n) es)
      ∙ rw f.1 (find-new perm 0 space (start + 1) n es q (sym (among-rest space start n q f.0) ∙ isnt) none)
]

-- the new pages have no frame
backed-new : (perm : Perm) (span space start n : ℕ) (es : List (Place × Pte)) → ((q : Place) → is_among space start n q ≡ true → find place_cmp q es ≡ None)
    → backed (with_pages perm span (places_of space start n) es) ≡ backed es
backed-new perm span space start zero es none = refl
backed-new perm span space start (suc n) es none =
    let first : is_among space (start + 1) n (space, start) ≡ false = grind (arith, nat_tests) in
    let here : is_among space start (suc n) (space, start) ≡ true = among-page space start (suc n) start (omega arith) (omega arith) in
    let absent = find-new perm 0 space (start + 1) n es (space, start) first (none (space, start) here) in
    let rest = backed-new perm 0 space (start + 1) n es (λ q is. let among = among-true space (start + 1) n q is in
    none q (let a = among.low in let b = among.high in let c = among.there in let d : is_among space start (suc n) q ≡ true = grind (arith, nat_tests) in d)) in
    omega (arith, backed-put_new (space, start) (new_page perm span) (with_pages perm 0 (places_of space (start + 1) n) es) absent, rest)

-- they are fresh
pages_in-new : (arena : List (List ℕ)) (perm : Perm) (span : ℕ) (places : List Place) (es : List (Place × Pte)) → T (is_sorted place_cmp es)
    → pages_in arena (with_pages perm span places es) ≡ with_fresh perm places (pages_in arena es)
pages_in-new arena perm span [] es before = refl
pages_in-new arena perm span (place ∷ places) es before =
    pages_in-put arena place (new_page perm span) (with_pages perm 0 places es) (sorted-with_pages perm 0 places es before)
    ∙ ap (put place_cmp place (record { perm = perm; bytes = None })) (pages_in-new arena perm 0 places es before)

module _ (s : PageStore) (space start n : ℕ) (perm : Perm) (whole : IsFit s) (some : 0 < n)
    (found : Some start ≡ least s.table.buckets (keys s.table.entries) space n) where
  abbrev new : PageMap
  new = with_range s.table space start n perm

  -- and make one range
  -- no range began there
  pub start_new : find place_cmp (space, start) (spans_in s.table.entries) ≡ None
  start_new =
      find-spans_in s.table.entries (space, start) (sorted s space start n perm whole some found)
      ∙ ap span_of (unmapped_page s space start n perm whole some found (space, start) (among-page space start n start (omega arith) (omega (arith, some))))

  pub spans_joined : spans_in new.entries ≡ put place_cmp (space, start) n (spans_in s.table.entries)
  spans_joined =
      let before = sorted s space start n perm whole some found in
      let after = sorted-with_range s.table space start n perm whole.valid in
      same_entries place_cmp place_total place_exact (spans_in new.entries) (put place_cmp (space, start) n (spans_in s.table.entries)) (sorted_spans new.entries after) (is_sorted-put place_cmp place_total (space, start) n (spans_in s.table.entries) (sorted_spans s.table.entries before)) (λ q.
      find-spans_in new.entries q after ∙ ap span_of (entry-with_range s.table space start n perm q) ∙ at q
      ∙ sym (find-put place_cmp place_total q (space, start) n (spans_in s.table.entries) ∙ ap (cond (same_place q (space, start)) (Some n)) (find-spans_in s.table.entries q before)))
    where
      at : (q : Place) → span_of (cond (is_among space start n q) (Some (range_page perm n (space, start) q)) (entry_of s.table q)) ≡ cond (same_place q (space, start)) (Some n) (span_of (entry_of s.table q))
      at q = elim (split_place q (space, start)) [
        | inl t ↦
            let here : is_among space start n q ≡ true = ap (is_among space start n) t.0 ∙ among-page space start n start (omega arith) (omega (arith, some)) in
            let one : eqb n 0 ≡ false = grind (arith, nat_tests) in
            rw (here, t.1) (rw one refl)
        | inr f ↦ elim (cases_Bool (is_among space start n q)) [
          | inl is ↦ rw (is, f.1) (sym (ap span_of (unmapped_page s space start n perm whole some found q is)))
          | inr isnt ↦ rw (isnt, f.1) refl
        ]
      ]

  pub memory_joined : memory_of (record s { table = with_range s.table space start n perm }) ≡ mapped (memory_of s) space start n perm
  memory_joined = λ i. record (memory_of s) {
    map = pages_in-new s.arena perm n (places_of space start n) s.table.entries (sorted s space start n perm whole some found) i;
    ranges = spans_joined i;
  }

  pub fit_joined : IsValid new → AreRanges new → ((q : Place) → frame_at new q ≡ frame_at s.table q) → IsFit (record s { table = with_range s.table space start n perm })
  fit_joined valid ranges frames = record {
    valid = valid;
    ranges = ranges;
    taken = taken_same s.table new s.pool whole.taken frames;
    named = omega (arith, backed-new perm n space start n s.table.entries (unmapped_page s space start n perm whole some found), whole.named);
    arena = whole.arena;
    sized = λ q frame named. whole.sized q frame (sym (frames q) ∙ named);
    zero = whole.zero;
    cached = λ q pte noted. elim (cases_Bool (is_among space start n q)) [
      | inl is ↦ absurd (let none = unmapped_page s space start n perm whole some found q is in let both = sym none ∙ whole.cached q pte noted in cc)
      | inr isnt ↦ outside s space start n perm whole some found q isnt ∙ whole.cached q pte noted
    ];
  }

-- the lists may change
fit_listed : (s : PageStore) (lists : RangeSets) → IsFit s → IsFit (record s { ranges = lists })
fit_listed s lists fit = record {
  valid = fit.valid;
  ranges = fit.ranges;
  taken = fit.taken;
  named = fit.named;
  arena = fit.arena;
  sized = fit.sized;
  zero = fit.zero;
  cached = fit.cached;
}

-- a range of a process leaves the offloads' pages
pub whole_joined : (s : PageStore) (space start n : ℕ) (perm : Perm) → IsWhole s → 0 < n → is_process space ≡ true → Some start ≡ least s.table.buckets (keys s.table.entries) space n
    → IsFit (record s { table = with_range s.table space start n perm }) → (lists : RangeSets) → AreListed lists (put place_cmp (space, start) n (spans_in s.table.entries)) s.table.buckets
    → IsWhole (record s { table = with_range s.table space start n perm; ranges = lists })
whole_joined s space start n perm whole some process found fit lists listed =
    let new : PageMap = with_range s.table space start n perm in
    let away : (q : Place) → is_process q.0 ≡ false → entry_of new q ≡ entry_of s.table q = λ q offload.
    outside s space start n perm whole.fit some found q (offload_outside space start n q process offload) in
    record {
      fit = fit_listed (record s { table = new }) lists fit;
      keys = ap keys (offloads_same s.table new (sorted s space start n perm whole.fit some found) (sorted-with_range s.table space start n perm whole.fit.valid) away) ∙ whole.keys;
      held = λ q pte offload there. whole.held q pte offload (sym (away q offload) ∙ there);
      listed = subst (λ (spans : List (Place × ℕ)). AreListed lists spans s.table.buckets) (sym (spans_joined s space start n perm whole.fit some found)) listed;
    }

-- ---- a range leaves
module _ (table : PageMap) (space start : ℕ) (sorted : T (is_sorted place_cmp table.entries)) where
  sorted-left : (n : ℕ) → T (is_sorted place_cmp (without_range table space start n).entries)
  sorted-left n = is_sorted-where_key place_cmp (λ place. not (is_among space start n place)) table.entries sorted

  -- one page more
  left_more : (n : ℕ) → (without_range table space start (n + 1)).entries ≡ without_page (space, start + n) (without_range table space start n).entries
  left_more n =
      let part = without_range table space start n in
      same_entries place_cmp place_total place_exact (without_range table space start (n + 1)).entries (without_page (space, start + n) part.entries)
      (sorted-left (n + 1)) (is_sorted-where_key place_cmp (λ q. not (same_place (space, start + n) q)) part.entries (sorted-left n)) (λ q.
      entry-without_range table space start (n + 1) q ∙ at q
      ∙ sym (entry-without part (space, start + n) q ∙ ap (cond (same_place q (space, start + n)) None) (entry-without_range table space start n q)))
    where
      at : (q : Place) → cond (is_among space start (n + 1) q) None (entry_of table q) ≡ cond (same_place q (space, start + n)) None (cond (is_among space start n q) None (entry_of table q))
      at q = elim (split_place q (space, start + n)) [
        | inl t ↦
            let here : is_among space start (n + 1) q ≡ true = ap (is_among space start (n + 1)) t.0 ∙ among-page space start (n + 1) (start + n) (omega arith) (omega arith) in
            rw (here, t.1) refl
        | inr f ↦ rw (f.1, among-more space start n q f.0) refl
      ]

  -- none yet
  left_none : (without_range table space start 0).entries ≡ table.entries
  left_none = same_entries place_cmp place_total place_exact (without_range table space start 0).entries table.entries (sorted-left 0) sorted (λ q. entry-without_range table space start 0 q ∙ rw (among-none space start q) refl)

  -- the entries that left had these frames
  pub backed-left : (n : ℕ) → backed (without_range table space start n).entries + length (frames_of table space start n) ≡ backed table.entries
  backed-left zero = omega (arith, ap backed left_none)
  backed-left (suc n) =
      let more : suc n ≡ n + 1 = omega arith in
      let part = without_range table space start n in
      let next : is_among space start n (space, start + n) ≡ false = grind (arith, nat_tests) in
      let entry : entry_of part (space, start + n) ≡ entry_of table (space, start + n) = entry-without_range table space start n (space, start + n) ∙ rw next refl in
      let cut = backed-without (space, start + n) part.entries (sorted-left n) in
      let frames : frames_of table space start (n + 1) ≡ frames_of table space start n ++ cons_option (frame_at table (space, start + n)) [] =
      ap (filter_map (frame_at table)) (map-range_with_len_more (λ (page : ℕ). let place : Place = (space, page) in place) start n (start + n) refl)
      ∙ filter_map-append (frame_at table) (places_of space start n) ((space, start + n) ∷ []) in
      let counted : length (cons_option (frame_at table (space, start + n)) []) ≡ one_in (entry_of part (space, start + n)) = one (entry_of table (space, start + n)) ∙ ap one_in (sym entry) in
      subst (λ k. backed (without_range table space start k).entries + length (frames_of table space start k) ≡ backed table.entries) (sym more) (omega (arith, backed-left n, cut, ap backed (left_more n), counted, ap length frames, length-append (frames_of table space start n) (cons_option (frame_at table (space, start + n)) [])))
    where
      framed : (o : Option PageNo) → length (cons_option (option_map (λ (f : PageNo). f.0) o) []) ≡ (if is_some o then 1 else 0)
      framed None = refl
      framed (Some f) = refl

      one : (o : Option Pte) → length (cons_option (frame_in o) []) ≡ one_in o
      one None = refl
      one (Some pte) = framed pte.frame

pub pages_in-where : (arena : List (List ℕ)) (test : Place → Bool) (es : List (Place × Pte)) → pages_in arena (where_key place_cmp test es) ≡ where_key place_cmp test (pages_in arena es)
pages_in-where arena test [] = refl
pages_in-where arena test (e ∷ es) = elim (cases_Bool (test e.0)) [
  | inl t ↦ rw t (ap (λ l. (e.0, page_in arena e.1) ∷ l) (pages_in-where arena test es))
  | inr f ↦ rw f (pages_in-where arena test es)
]

-- the range stands where the span at its start says so
pub range_is : (s : PageStore) (space start n : ℕ) → IsFit s → 0 < n → is_range (memory_of s) space start n ≡ (span_at s.table (space, start) == n)
range_is s space start n whole some = ap (λ o. has_pages o n) (find-spans_in s.table.entries (space, start) (sorted_table s.table whole.valid)) ∙ by (entry_of s.table (space, start))
  where
    none : (0 == n) ≡ false
    none = grind (arith, nat_tests)

    by : (o : Option Pte) → has_pages (span_of o) n ≡ ((elim o [ None ↦ 0 | Some pte ↦ pte.span ]) == n)
    by None = sym none
    by (Some pte) = elim (cases_Bool (eqb pte.span 0)) [
      | inl t ↦ let zero : pte.span ≡ 0 = grind (arith, nat_tests) in rw t (sym none ∙ ap (λ k. k == n) (sym zero))
      | inr f ↦ rw f refl
    ]

-- a range that stands begins where the table says
pub span_found : (s : PageStore) (space start n : ℕ) → IsFit s → 0 < n → span_at s.table (space, start) ≡ n → find place_cmp (space, start) (spans_in s.table.entries) ≡ Some n
span_found s space start n whole some stands = find-spans_in s.table.entries (space, start) (sorted_table s.table whole.valid) ∙ by (entry_of s.table (space, start)) stands
  where
    by : (o : Option Pte) → (elim o [ None ↦ 0 | Some pte ↦ pte.span ]) ≡ n → span_of o ≡ Some n
    by None is = absurd (omega (arith, is, some))
    by (Some pte) is = elim (cases_Bool (eqb pte.span 0)) [
      | inl t ↦ absurd (let zero : pte.span ≡ 0 = grind (arith, nat_tests) in omega (arith, zero, is, some))
      | inr f ↦ rw f (ap (λ (k : ℕ). Some k) is)
    ]

module _ (s : PageStore) (space start n : ℕ) (whole : IsWhole s) (some : 0 < n) (process : is_process space ≡ true) (stands : span_at s.table (space, start) ≡ n)
    (one two : PoolPages) (arena : List (List ℕ)) (cache : Cached) (lists : RangeSets) where
  abbrev pub cut : PageMap
  cut = without_range s.table space start n

  -- what the calls of the parts gave
  pub record Freed : Type 0 where
    pub valid : IsValid cut
    pub ranges : AreRanges cut
    pub taken : AreTaken cut one
    pub released : one ≡ record s.pool { dirty = s.pool.dirty ++ frames_of s.table space start n }
    pub free : free_list two ≡ free_list one
    pub kept : two.pages ≡ one.pages
    pub long : length arena ≡ length s.arena
    pub others : (p : ℕ) → has (free_list one) p ≡ false → arena_page arena p ≡ arena_page s.arena p
    pub zero : AreZero arena (two.ring ++ two.clean)
    pub gone : (q : Place) → is_among space start n q ≡ true → cached_entry cache q ≡ None
    pub stays : (q : Place) → is_among space start n q ≡ false → cached_entry cache q ≡ cached_entry s.cache q
    pub listed : AreListed lists (where_key place_cmp (λ place. not (eq_by_cmp place_cmp (space, start) place)) (spans_in s.table.entries)) s.table.buckets

  module _ (f : Freed) where
    abbrev pub freed_store : PageStore
    freed_store = record { table = cut; pool = two; arena = arena; cache = cache; spaces = s.spaces; ranges = lists }

    before : T (is_sorted place_cmp s.table.entries)
    before = sorted_table s.table whole.fit.valid

    after : T (is_sorted place_cmp cut.entries)
    after = sorted-left s.table space start before n

    pages : two.pages ≡ s.pool.pages
    pages = f.kept ∙ ap (λ (v : PoolPages). v.pages) f.released

    away : (q : Place) → is_among space start n q ≡ false → entry_of cut q ≡ entry_of s.table q
    away q isnt = entry-without_range s.table space start n q ∙ rw isnt refl

    offloads : (q : Place) → is_process q.0 ≡ false → entry_of cut q ≡ entry_of s.table q
    offloads q offload = away q (offload_outside space start n q process offload)

    -- a frame that is named still was named by its page
    was_named : (q : Place) (frame : ℕ) → frame_at cut q ≡ Some frame → frame_at s.table q ≡ Some frame
    was_named q frame named = elim (cases_Bool (is_among space start n q)) [
      | inl is ↦
          let none : entry_of cut q ≡ None = entry-without_range s.table space start n q ∙ rw is refl in
          absurd (let both = sym (ap frame_in none) ∙ named in cc)
      | inr isnt ↦ ap frame_in (sym (away q isnt)) ∙ named
    ]

    same_bytes : (q : Place) (frame : ℕ) → frame_at cut q ≡ Some frame → arena_page arena frame ≡ arena_page s.arena frame
    same_bytes q frame named = f.others frame (f.taken.taken q frame named).not_free

    free_is : (v : PoolPages) → length (free_list v) ≡ free_pages v
    free_is v = omega (arith, length-append v.ring (v.clean ++ v.dirty), length-append v.clean v.dirty)

    more_free : free_pages one ≡ free_pages s.pool + length (frames_of s.table space start n)
    more_free = ap free_pages f.released ∙ omega (arith, length-append s.pool.dirty (frames_of s.table space start n))

    fit_freed : IsFit freed_store
    fit_freed = record {
      valid = f.valid;
      ranges = f.ranges;
      taken = record {
        taken = λ q frame named. let t = f.taken.taken q frame named in record { in_range = omega (arith, t.in_range, f.kept); not_free = ap (λ l. has l frame) f.free ∙ t.not_free };
        once = f.taken.once;
      };
      named = omega (arith, whole.fit.named, backed-left s.table space start before n, more_free, free_is one, free_is two, ap length f.free, pages);
      arena = f.long ∙ whole.fit.arena ∙ sym pages;
      sized = λ q frame named. ap length (same_bytes q frame named) ∙ whole.fit.sized q frame (was_named q frame named);
      zero = f.zero;
      cached = λ q pte noted. elim (cases_Bool (is_among space start n q)) [
        | inl is ↦ absurd (let both = sym (f.gone q is) ∙ noted in cc)
        | inr isnt ↦ away q isnt ∙ whole.fit.cached q pte (sym (f.stays q isnt) ∙ noted)
      ];
    }

    map_left : pages_in arena cut.entries ≡ where_key place_cmp (λ place. not (is_among space start n place)) (pages_in s.arena s.table.entries)
    map_left =
        pages_in-other s.arena arena cut.entries after (λ q pte frame there framed. same_bytes q frame.0 (ap frame_in there ∙ ap (option_map (λ (f : PageNo). f.0)) framed))
        ∙ pages_in-where s.arena (λ place. not (is_among space start n place)) s.table.entries

    spans_left : spans_in cut.entries ≡ where_key place_cmp (λ place. not (eq_by_cmp place_cmp (space, start) place)) (spans_in s.table.entries)
    spans_left =
        same_entries place_cmp place_total place_exact (spans_in cut.entries) (where_key place_cmp (λ place. not (same_place (space, start) place)) (spans_in s.table.entries))
        (sorted_spans cut.entries after) (is_sorted-where_key place_cmp (λ place. not (same_place (space, start) place)) (spans_in s.table.entries) (sorted_spans s.table.entries before)) (λ q.
        find-spans_in cut.entries q after ∙ ap span_of (entry-without_range s.table space start n q) ∙ at q
        ∙ sym (find-where_key place_cmp (λ place. not (same_place (space, start) place)) q (λ x equal. ap (λ y. not (same_place (space, start) y)) (sym (place_exact q x equal))) (spans_in s.table.entries)
        ∙ ap (λ o. cond (not (same_place (space, start) q)) o None) (find-spans_in s.table.entries q before)))
      where
        -- a page within the range begins none
        no_span : (q : Place) → q ≢ (space, start) → is_among space start n q ≡ true → (o : Option Pte) → entry_of s.table q ≡ o → span_of o ≡ None
        no_span q other is None there = refl
        no_span q other is (Some pte) there = elim (cases_Bool (eqb pte.span 0)) [
          | inl t ↦ rw t refl
          | inr positive ↦
              let among = among-true space start n q is in
              let span : span_at s.table (q.0, q.1) ≡ pte.span = ap (λ (o : Option Pte). elim o [ None ↦ 0 | Some pte ↦ pte.span ]) there in
              let nonzero : 0 < pte.span = grind (arith, nat_tests) in
              let mine : IsIn s.table q.0 q.1 q.1 = (omega arith, omega (arith, span, nonzero)) in
              let range : IsIn s.table q.0 start q.1 = (among.low, omega (arith, among.high, ap (λ x. span_at s.table (x, start)) among.there, stands)) in
              let same = whole.fit.ranges.once q.0 q.1 start q.1 mine range in
              absurd (other (λ i. (among.there i, same i)))
        ]

        at : (q : Place) → span_of (cond (is_among space start n q) None (entry_of s.table q)) ≡ cond (not (same_place (space, start) q)) (span_of (entry_of s.table q)) None
        at q = elim (split_place q (space, start)) [
          | inl t ↦
              let here : is_among space start n q ≡ true = ap (is_among space start n) t.0 ∙ among-page space start n start (omega arith) (omega (arith, some)) in
              let self : same_place (space, start) q ≡ true = same_place-sym (space, start) q ∙ t.1 in
              rw (here, self) refl
          | inr o ↦
              let another : same_place (space, start) q ≡ false = same_place-sym (space, start) q ∙ o.1 in
              elim (cases_Bool (is_among space start n q)) [
                | inl is ↦ rw (is, another) (sym (no_span q o.0 is (entry_of s.table q) refl))
                | inr isnt ↦ rw (isnt, another) refl
              ]
        ]

    pub whole_freed : IsWhole freed_store
    whole_freed = record {
      fit = fit_freed;
      keys = ap keys (offloads_same s.table cut before after offloads) ∙ whole.keys;
      held = λ q pte offload there. whole.held q pte offload (sym (offloads q offload) ∙ there);
      listed = subst (λ (spans : List (Place × ℕ)). AreListed lists spans s.table.buckets) (sym spans_left) f.listed;
    }

    pub memory_freed : memory_of freed_store ≡ unmapped (memory_of s) space start n
    memory_freed = λ i. record (memory_of s) { map = map_left i; ranges = spans_left i; pages = pages i }
