-- The memory of a whole store, and what comes of a request of a process to it.
use Rattle.std.proofs.Common.{◌≡◌, ℕ, ◌<◌, ◌≤◌, ◌*◌, ◌==◌, Bool, true, false, List, [], ◌∷◌, Option, Some, None, option_map, is_some, refl, sym, ap, ◌∙◌, subst, arith, IfSome, slice_get, ◌+◌, ◌-◌}
use Rattle.std.specs.Prelude.{if◌then◌else◌}
use Rattle.std.specs.FinMap.Entries.{is_sorted, below_all}
use Rattle.std.specs.Ordering.{is_lt}
use Rattle.std.proofs.lemmas.Bool.Decides.{nat_tests}
use Rattle.cl_types.specs.declared.config.OffloadConfig.{OffloadConfig}
use Rattle.cl_types.specs.declared.page.Pte.{Pte}
use Rattle.cl_types.specs.declared.numbers.Addr.{Addr}
use Rattle.cl_types.specs.declared.numbers.PageNo.{PageNo}
use Rattle.page_arena.specs.Arena.{page_at as arena_page}
use Rattle.cl_types.specs.declared.call.Perm.{Perm}
use Rattle.cl_types.specs.declared.reply.Refusal.TheVariants.{NoOffload}
use Rattle.cl_types.specs.declared.reply.Reply.TheVariants as reply
use Rattle.cl_types.specs.declared.request.Request.{Request}
use Rattle.cl_types.specs.declared.request.Request.TheVariants as request
use Rattle.cl_types.specs.Places.{Place, place_cmp, is_process}
use Rattle.data_path.specs.declared.store.PageStore.{PageStore}
use Rattle.data_path.specs.Spaces.{contents_of}
use Rattle.data_path.specs.Store.{IsWhole, backed, flat_of, memory_of, page_in, spans_in}
use Rattle.data_path.proofs.Accesses.{page_there}
use Rattle.data_path.proofs.Framing.{used_is}
use Rattle.data_path.proofs.Pages.{find-pages_in, sorted_pages}
use Rattle.flat_model.proofs.ExecuteLemmas.{start_fits, start_small}
use Rattle.flat_model.proofs.LeastLemmas.{fits_within}
use Rattle.frame_model.specs.Frames.{is_range_start}
use Rattle.flat_model.specs.Objects.{Object}
use Rattle.flat_model.specs.State.{FlatState, Page, least, page_at, places, used}
use Rattle.flat_model.specs.Step.{alloc, alloc_at, on_object, outcome, refused}
use Rattle.cl_types.specs.Ranges.{is_page_count}
use Rattle.hash_buckets.specs.PageMap.{entry_of}
use Rattle.page_pool.specs.PoolPages.{free_pages}
use Rattle.node_core.specs.Parted.{IsMemory, flat_outcome}
use Rattle.node_core.specs.Placed.{is_offload}
use Rattle.node_core.specs.Keeping.{IsHeldIn, LieIn}
use Rattle.node_core.specs.Stores.{objects_in, state_in}
use Rattle.node_core.proofs.ObjectLists.{held_from}
use Rattle.node_core.proofs.Parted.{alloc-flat, atomic-flat, free-flat, page_at-flat, read-flat, used-flat, write-flat}
use Rattle.std.proofs.lemmas.Bool.{and_parts}

-- ---- a whole store's memory
-- what stands below all entries stands below all spans
below-spans : (k : Place) (es : List (Place × Pte)) → below_all place_cmp k es ≡ true → below_all place_cmp k (spans_in es) ≡ true
below-spans k [] below = refl
below-spans k (e ∷ es) below = step (e.1.span == 0) (below-spans k es (and_parts (is_lt (place_cmp k e.0)) (below_all place_cmp k es) below).1)
  where
    step : (b : Bool) → below_all place_cmp k (spans_in es) ≡ true → below_all place_cmp k (if b then spans_in es else (e.0, e.1.span) ∷ spans_in es) ≡ true
    step true rest = rest
    step false rest = rw (and_parts (is_lt (place_cmp k e.0)) (below_all place_cmp k es) below).0 rest

sorted-spans : (es : List (Place × Pte)) → is_sorted place_cmp es ≡ true → is_sorted place_cmp (spans_in es) ≡ true
sorted-spans [] sorted = refl
sorted-spans (e ∷ es) sorted =
    step (e.1.span == 0) (sorted-spans es (and_parts (below_all place_cmp e.0 es) (is_sorted place_cmp es) sorted).1)
  where
    step : (b : Bool) → is_sorted place_cmp (spans_in es) ≡ true → is_sorted place_cmp (if b then spans_in es else (e.0, e.1.span) ∷ spans_in es) ≡ true
    step true rest = rest
    step false rest = rw (below-spans e.0 es (and_parts (below_all place_cmp e.0 es) (is_sorted place_cmp es) sorted).0) rest

pub memory_in_order : (s : PageStore) → IsWhole s → IsMemory (memory_of s)
memory_in_order s whole = record {
  mapped = sorted_pages s.arena s.table.entries ∙ whole.fit.valid.sorted;
  allocated = sorted-spans s.table.entries whole.fit.valid.sorted;
  none_held = refl;
  filled = λ place page outside there. filled place page outside (entry_of s.table place) refl (sym (find-pages_in s.arena s.table.entries place) ∙ there);
}
  where
    filled : (place : Place) (page : Page) → is_process place.0 ≡ false → (o : Option Pte) → entry_of s.table place ≡ o
        → option_map (page_in s.arena) o ≡ Some page → is_some page.bytes ≡ true
    filled place page outside None is there = absurd cc
    filled place page outside (Some pte) is there =
        let same : page_in s.arena pte ≡ page = cc in
        let framed : is_some pte.frame ≡ true = whole.held place pte outside is in
        sym (ap (λ (p : Page). is_some p.bytes) same) ∙ has pte.frame framed
      where
        has : (o : Option PageNo) → is_some o ≡ true → is_some (option_map (λ (frame : PageNo). arena_page s.arena frame.0) o) ≡ true
        has None framed = absurd cc
        has (Some frame) framed = refl

-- ---- a request of a process
pub process_outcome : (objects : List Object) (m : FlatState) (pid : ℕ) (r : Request) → IsMemory m → is_process pid ≡ true → is_offload r ≡ false
    → outcome (flat_of objects m) pid r ≡ flat_outcome objects (outcome m pid r)
process_outcome objects m pid (request.Alloc n perm) is process pages = alloc-flat objects m pid n perm is process
process_outcome objects m pid (request.Free addr n) is process pages = free-flat objects m pid addr n process
process_outcome objects m pid (request.Read addr n) is process pages = read-flat objects m pid addr n process
process_outcome objects m pid (request.Write addr bytes) is process pages = write-flat objects m pid addr bytes is process
process_outcome objects m pid (request.Atomic addr op) is process pages = atomic-flat objects m pid addr op is process
process_outcome objects m pid (request.Offload number op out bytes) is process pages = absurd cc

-- the address that an Alloc gives is the start of a range
pub alloc_start : (m : FlatState) (pid n : ℕ) (perm : Perm) (addr : Addr) → 1 ≤ n → reply.At addr ≡ (alloc m pid n perm).reply → is_range_start addr.0 ≡ true
alloc_start m pid n perm addr some is = at (least m.buckets (places m) pid n) refl is
  where
    at : (o : Option ℕ) → least m.buckets (places m) pid n ≡ o → reply.At addr ≡ (alloc_at m pid n perm o).reply → is_range_start addr.0 ≡ true
    at None found is = absurd cc
    at (Some start) found is =
        let same : addr ≡ record { 0 = start * 4096 } = cc in
        let fitting = fits_within m.buckets (places m) pid start n (start_fits m.buckets (places m) pid n start found) in
        let small = start_small m.buckets (places m) pid n start some found in
        let low : 1 ≤ start = fitting.0 in
        let number : addr.0 ≡ start * 4096 = ap (λ (a : Addr). a.0) same in
        rw number (whole start low small)
      where
        whole : (start : ℕ) → 1 ≤ start → start < 65536 → is_range_start (start * 4096) ≡ true
        whole start low high = grind (arith, nat_tests)

pub some_pages : (n : ℕ) → is_page_count n ≡ true → 1 ≤ n
some_pages n is = grind (arith, nat_tests)

-- a request of a process leaves the number of physical pages
pub outcome_pages : (m : FlatState) (pid : ℕ) (r : Request) → (outcome m pid r).state.pages ≡ m.pages
outcome_pages m pid (request.Alloc n perm) = grind arith
outcome_pages m pid (request.Free addr n) = grind arith
outcome_pages m pid (request.Read addr n) = grind arith
outcome_pages m pid (request.Write addr bytes) = grind arith
outcome_pages m pid (request.Atomic addr op) = grind arith
outcome_pages m pid (request.Offload number op out bytes) = grind arith

-- where no object has the number, a request of one is refused
pub no_object : (s : FlatState) (pid number op out : ℕ) (bytes : List ℕ) → slice_get s.objects number ≡ None
    → outcome s pid (request.Offload number op out bytes) ≡ refused s NoOffload
no_object s pid number op out bytes none = ap (on_object s number op out bytes) none

-- ---- a store, and the flat state that contracts see
-- a page of the state by its entry
pub page_seen : (s : PageStore) (offloads : List OffloadConfig) (seen : FlatState) (pid number page vpn : ℕ) (o : Option Pte) → state_in offloads s ≡ seen
    → is_process pid ≡ true → number ≡ pid → vpn ≡ page → o ≡ entry_of s.table (number, vpn) → page_at seen pid page ≡ option_map (page_in s.arena) o
page_seen s offloads seen pid number page vpn o is process same_space same_page there =
    ap (λ (t : FlatState). page_at t pid page) (sym is) ∙ page_at-flat (objects_in offloads s) (memory_of s) pid page process
    ∙ page_there s pid page o ((λ i. entry_of s.table (sym same_space i, sym same_page i)) ∙ sym there)

-- how many physical pages are taken
pub used_seen : (s : PageStore) (offloads : List OffloadConfig) (seen : FlatState) (pages free : ℕ) → state_in offloads s ≡ seen → IsWhole s → s.pool.pages ≡ pages
    → free ≡ free_pages s.pool → pages - free ≡ used seen
used_seen s offloads seen pages free is whole count left =
    let taken : used seen ≡ backed s.table.entries = ap used (sym is) ∙ used-flat (objects_in offloads s) (memory_of s) (memory_in_order s whole) ∙ used_is s in
    omega (arith, taken, whole.fit.named, count, left)

-- the state's map, ranges and offloads' pages are those of the store
pub store_seen : (s : PageStore) (offloads : List OffloadConfig) (seen : FlatState) → state_in offloads s ≡ seen → flat_of seen.objects (memory_of s) ≡ seen
store_seen s offloads seen is = ap (λ (t : FlatState). flat_of t.objects (memory_of s)) (sym is) ∙ is

-- and its objects lie in the store's spaces
pub objects_seen : (s : PageStore) (offloads : List OffloadConfig) (seen : FlatState) → state_in offloads s ≡ seen → LieIn s seen.objects
objects_seen s offloads seen is =
    subst (λ (t : FlatState). LieIn s t.objects) is (λ n. let first : 0 + n ≡ n = omega arith in
    subst (λ m. IfSome (slice_get (objects_in offloads s) n) (IsHeldIn (contents_of m s))) first (held_from (λ k. contents_of k s) 0 offloads n))

pub process_of : (pid number : ℕ) → number ≡ pid → (0 < number) × (number ≤ 65279) → is_process pid ≡ true
process_of pid number same range = grind (arith, nat_tests)
