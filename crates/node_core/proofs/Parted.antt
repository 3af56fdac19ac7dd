-- A request of a process comes to the same of a memory and of the node's flat state over it.
use Rattle.std.proofs.Common.{◌≡◌, ℕ, zero, suc, ◌+◌, ◌==◌, ◌&&◌, leb, Bool, true, false, not, inl, inr, List, [], ◌∷◌, ◌++◌, length, Option, Some, None, is_some, is_none, refl, sym, ap, ◌∙◌, arith, append-nil}
use Rattle.std.specs.List.{list_any, list_all, range_with_len, AllByRecursion}
use Rattle.std.specs.FinMap.Entries.{find, put, is_sorted, below_all}
use Rattle.std.specs.Ordering.{eq_by_cmp, is_eq, is_lt}
use Rattle.std.specs.declared.cmp.Ordering.{Ordering}
use Rattle.std.specs.declared.cmp.Ordering.TheVariants.{Less, Equal, Greater}
use Rattle.std.proofs.lemmas.Bool.{cases_Bool, and_parts}
use Rattle.std.proofs.lemmas.Bool.Decides.{nat_tests}
use Rattle.cl_types.specs.declared.call.AtomicOp.{AtomicOp}
use Rattle.cl_types.specs.declared.call.Perm.{Perm}
use Rattle.cl_types.specs.declared.numbers.Addr.{Addr}
use Rattle.cl_types.specs.declared.reply.Reply.{Reply}
use Rattle.cl_types.specs.declared.limits.TheConstants.{BUCKET_PAGES, SPACE_PAGES}
use Rattle.cl_types.specs.Places.{Place, place_cmp, home_of, homes_at, is_process}
use Rattle.cl_types.proofs.PlaceLemmas.{same_place-self, split_place}
use Rattle.flat_model.specs.Objects.{Object}
use Rattle.cl_types.specs.Pages.{page_of}
use Rattle.flat_model.specs.Rows.{keys}
use Rattle.flat_model.specs.State.{FlatState, Page, fits, is_mapped, least, least_from, page_at, places, places_of, used}
use Rattle.flat_model.specs.Step.{Transition, alloc, alloc_at, atomic, free, free_if, has_pages, if_allowed, if_pages_last, is_among, is_out_of_pages, is_range, mapped, may_change, may_read, may_write, on_bytes, on_found, on_page, puts, read, unmapped, with_fresh, write, written}
use Rattle.flat_model.proofs.LeastLemmas.{least_is}
use Rattle.data_path.specs.Store.{flat_of}
use Rattle.node_core.specs.Parted.{IsMemory, flat_outcome}
use Rattle.node_core.proofs.Parts.{InOrder, any-parts, count-backed, count-parts, find-where, sorted-put, where-put, where-put_other, where-twice, where-within, where_place}

-- the page is a process's
abbrev pub of_process : Place → Bool
of_process place = is_process place.0

abbrev pub of_offload : Place → Bool
of_offload place = not (is_process place.0)

-- ---- what is looked at
pub page_at-flat : (objects : List Object) (m : FlatState) (pid page : ℕ) → is_process pid ≡ true → page_at (flat_of objects m) pid page ≡ page_at m pid page
page_at-flat objects m pid page process = find-where of_process (pid, page) m.map ∙ rw process refl

-- what stands below all entries isn't found
not_below : {V : Type 0} (x : Place) (es : List (Place × V)) (v : V) → below_all place_cmp x es ≡ true → find place_cmp x es ≡ Some v → ⊥
not_below x [] v below there = absurd cc
not_below {V} x (e ∷ es) v below there =
    step (place_cmp x e.0) refl (not_below x es v (and_parts (is_lt (place_cmp x e.0)) (below_all place_cmp x es) below).1)
  where
    step : (r : Ordering) → place_cmp x e.0 ≡ r → (find place_cmp x es ≡ Some v → ⊥) → ⊥
    step Less is rest = rest (rw (ap is_eq is) at there)
    step Equal is rest = absurd (let wrong : false ≡ true = sym (ap is_lt is) ∙ (and_parts (is_lt (place_cmp x e.0)) (below_all place_cmp x es) below).0 in cc)
    step Greater is rest = absurd (let wrong : false ≡ true = sym (ap is_lt is) ∙ (and_parts (is_lt (place_cmp x e.0)) (below_all place_cmp x es) below).0 in cc)

-- the entries of offloads have bytes, one by one
filled-each : (es : List (Place × Page)) → InOrder es
    → ((place : Place) (page : Page) → is_process place.0 ≡ false → find place_cmp place es ≡ Some page → is_some page.bytes ≡ true)
    → AllByRecursion (λ e. of_process e.0 ≡ false → is_some e.1.bytes ≡ true) es
filled-each [] sorted filled = tt
filled-each (e ∷ es) sorted filled =
    (λ outside. filled e.0 e.1 outside (rw (same_place-self e.0) refl), filled-each es (and_parts (below_all place_cmp e.0 es) (is_sorted place_cmp es) sorted).1 later)
  where
    later : (place : Place) (page : Page) → is_process place.0 ≡ false → find place_cmp place es ≡ Some page → is_some page.bytes ≡ true
    later place page outside there = elim (split_place place e.0) [
      | inl one ↦ absurd (not_below e.0 es page (and_parts (below_all place_cmp e.0 es) (is_sorted place_cmp es) sorted).0 (ap (λ k. find place_cmp k es) (sym one.0) ∙ there))
      | inr two ↦ filled place page outside (rw two.1 there)
    ]

pub used-flat : (objects : List Object) (m : FlatState) → IsMemory m → used (flat_of objects m) ≡ used m
used-flat objects m is =
    let none : length m.held ≡ 0 = ap length is.none_held in
    let parts = count-backed of_process (λ page. is_some page.bytes) m.map (filled-each m.map is.mapped is.filled) in
    omega (arith, parts)

places-flat : (objects : List Object) (m : FlatState) → places (flat_of objects m) ≡ keys (where_place of_process m.map) ++ keys (where_place of_offload m.map)
places-flat objects m = refl

places-memory : (m : FlatState) → IsMemory m → places m ≡ keys m.map
places-memory m is = ap (λ held. keys m.map ++ held) is.none_held ∙ append-nil (keys m.map)

-- ---- where a range fits
-- a range fits beside the same places in either list
fits-same : (buckets pid start n : ℕ) (ps qs : List Place) → ((place : Place) → is_mapped ps place ≡ is_mapped qs place)
    → ((home : ℕ) → homes_at buckets home ps ≡ homes_at buckets home qs) → fits buckets ps pid start n ≡ fits buckets qs pid start n
fits-same buckets pid start n ps qs mapped homes = λ i.
    leb 1 start && leb (start + n) SPACE_PAGES
    && list_all (λ place. not (mapped place i)) (places_of pid start n)
    && list_all (λ home. leb (homes home i + homes_at buckets home (places_of pid start n)) BUCKET_PAGES) (range_with_len 0 buckets)

least_from-same : (buckets pid n : ℕ) (ps qs : List Place) → ((start : ℕ) → fits buckets ps pid start n ≡ fits buckets qs pid start n)
    → (left start : ℕ) → least_from buckets ps pid n start left ≡ least_from buckets qs pid n start left
least_from-same buckets pid n ps qs same zero start = refl
least_from-same buckets pid n ps qs same (suc left) start = λ i.
    elim (same start i) [ true ↦ Some start | false ↦ least_from-same buckets pid n ps qs same left (start + 1) i ]

least-flat : (objects : List Object) (m : FlatState) (pid n : ℕ) → IsMemory m → least m.buckets (places (flat_of objects m)) pid n ≡ least m.buckets (places m) pid n
least-flat objects m pid n is =
    least_is m.buckets (places (flat_of objects m)) pid n
    ∙ least_from-same m.buckets pid n (places (flat_of objects m)) (places m) (λ start. fits-same m.buckets pid start n (places (flat_of objects m)) (places m)
    (λ place. any-parts of_process (eq_by_cmp place_cmp place) m.map ∙ ap (list_any (eq_by_cmp place_cmp place)) (sym (places-memory m is)))
    (λ home. count-parts of_process (λ place. home_of m.buckets place == home) m.map ∙ ap (homes_at m.buckets home) (sym (places-memory m is)))) 65535 1
    ∙ sym (least_is m.buckets (places m) pid n)

-- ---- what is changed
-- the other half of a put
not_process : (pid : ℕ) → is_process pid ≡ true → not (is_process pid) ≡ false
not_process pid process = ap not process

written-flat : (objects : List Object) (m : FlatState) (pid number : ℕ) (page : Page) (bytes : List ℕ) → IsMemory m → is_process pid ≡ true
    → written (flat_of objects m) pid number page bytes ≡ flat_of objects (written m pid number page bytes)
written-flat objects m pid number page bytes is process =
    let new : Page = record page { bytes = Some bytes } in
    let map_is = where-put of_process (pid, number) new m.map is.mapped process in
    let held_is = where-put_other of_offload (pid, number) new m.map is.mapped (not_process pid process) in
    λ i. record {
      map = sym map_is i;
      ranges = where_place of_process m.ranges;
      objects = objects;
      held = keys (sym held_is i);
      pages = m.pages;
      buckets = m.buckets;
    }

sorted-fresh : (perm : Perm) (ps : List Place) (es : List (Place × Page)) → InOrder es → InOrder (with_fresh perm ps es)
sorted-fresh perm [] es sorted = sorted
sorted-fresh perm (p ∷ ps) es sorted = sorted-put p (record { perm = perm; bytes = None }) (with_fresh perm ps es) (sorted-fresh perm ps es sorted)

where-fresh : (test : Place → Bool) (perm : Perm) (ps : List Place) (es : List (Place × Page)) → InOrder es → AllByRecursion (λ p. test p ≡ true) ps
    → where_place test (with_fresh perm ps es) ≡ with_fresh perm ps (where_place test es)
where-fresh test perm [] es sorted all = refl
where-fresh test perm (p ∷ ps) es sorted all =
    where-put test p (record { perm = perm; bytes = None }) (with_fresh perm ps es) (sorted-fresh perm ps es sorted) all.0
    ∙ ap (put place_cmp p (record { perm = perm; bytes = None })) (where-fresh test perm ps es sorted all.1)

where-fresh_other : (test : Place → Bool) (perm : Perm) (ps : List Place) (es : List (Place × Page)) → InOrder es → AllByRecursion (λ p. test p ≡ false) ps
    → where_place test (with_fresh perm ps es) ≡ where_place test es
where-fresh_other test perm [] es sorted all = refl
where-fresh_other test perm (p ∷ ps) es sorted all =
    where-put_other test p (record { perm = perm; bytes = None }) (with_fresh perm ps es) (sorted-fresh perm ps es sorted) all.0
    ∙ where-fresh_other test perm ps es sorted all.1

-- each page of a range is of the process
pub all-of : (test : ℕ → Bool) (answer : Bool) (pid n start : ℕ) → test pid ≡ answer → AllByRecursion (λ (p : Place). test p.0 ≡ answer) (places_of pid start n)
all-of test answer pid zero start is = tt
all-of test answer pid (suc n) start is = (is, all-of test answer pid n (start + 1) is)

mapped-flat : (objects : List Object) (m : FlatState) (pid start n : ℕ) (perm : Perm) → IsMemory m → is_process pid ≡ true
    → mapped (flat_of objects m) pid start n perm ≡ flat_of objects (mapped m pid start n perm)
mapped-flat objects m pid start n perm is process =
    let map_is = where-fresh of_process perm (places_of pid start n) m.map is.mapped (all-of is_process true pid n start process) in
    let held_is = where-fresh_other of_offload perm (places_of pid start n) m.map is.mapped (all-of (λ s. not (is_process s)) false pid n start (not_process pid process)) in
    let ranges_is = where-put of_process (pid, start) n m.ranges is.allocated process in
    λ i. record {
      map = sym map_is i;
      ranges = sym ranges_is i;
      objects = objects;
      held = keys (sym held_is i);
      pages = m.pages;
      buckets = m.buckets;
    }

-- a page of no process isn't among those of a process
pub not_among : (pid start n : ℕ) (place : Place) → is_process pid ≡ true → of_offload place ≡ true → not (is_among pid start n place) ≡ true
not_among pid start n place process outside = elim (cases_Bool (place.0 == pid)) [
  | inl one ↦ absurd (let same : place.0 ≡ pid = grind (arith, nat_tests) in let inside : is_process place.0 ≡ true = ap is_process same ∙ process in let wrong = rw inside at outside in cc)
  | inr two ↦ rw two refl
]

unmapped-flat : (objects : List Object) (m : FlatState) (pid start n : ℕ) → is_process pid ≡ true
    → unmapped (flat_of objects m) pid start n ≡ flat_of objects (unmapped m pid start n)
unmapped-flat objects m pid start n process =
    let gone : Place → Bool = λ place. not (is_among pid start n place) in
    let map_is = where-twice gone of_process m.map in
    let ranges_is = where-twice (λ place. not (eq_by_cmp place_cmp (pid, start) place)) of_process m.ranges in
    let held_is = where-within of_offload gone m.map (λ place outside. not_among pid start n place process outside) in
    λ i. record {
      map = map_is i;
      ranges = ranges_is i;
      objects = objects;
      held = keys (sym held_is i);
      pages = m.pages;
      buckets = m.buckets;
    }

-- ---- what comes of a request
-- a page that is found is gone on with in both alike
found-flat : (objects : List Object) (m : FlatState) (may : Perm → Bool) (go flat_go : Page → Transition) (o : Option Page)
    → ((page : Page) → flat_go page ≡ flat_outcome objects (go page))
    → on_found (flat_of objects m) may flat_go o ≡ flat_outcome objects (on_found m may go o)
found-flat objects m may go flat_go None same = refl
found-flat objects m may go flat_go (Some page) same = allowed (may page.perm)
  where
    allowed : (b : Bool) → if_allowed (flat_of objects m) b (flat_go page) ≡ flat_outcome objects (if_allowed m b (go page))
    allowed true = same page
    allowed false = refl

page-flat : (objects : List Object) (m : FlatState) (pid : ℕ) (addr : Addr) (may : Perm → Bool) (go flat_go : Page → Transition) → is_process pid ≡ true
    → ((page : Page) → flat_go page ≡ flat_outcome objects (go page))
    → on_page (flat_of objects m) pid addr may flat_go ≡ flat_outcome objects (on_page m pid addr may go)
page-flat objects m pid addr may go flat_go process same =
    ap (on_found (flat_of objects m) may flat_go) (page_at-flat objects m pid (page_of addr) process)
    ∙ found-flat objects m may go flat_go (page_at m pid (page_of addr)) same

bytes-flat : (objects : List Object) (m : FlatState) (pid : ℕ) (addr : Addr) (may : Perm → Bool) (go flat_go : Page → Transition) → IsMemory m
    → is_process pid ≡ true → ((page : Page) → flat_go page ≡ flat_outcome objects (go page))
    → on_bytes (flat_of objects m) pid addr may flat_go ≡ flat_outcome objects (on_bytes m pid addr may go)
bytes-flat objects m pid addr may go flat_go is process same =
    page-flat objects m pid addr may (λ page. if_pages_last m (is_out_of_pages m page) (go page))
    (λ page. if_pages_last (flat_of objects m) (is_out_of_pages (flat_of objects m) page) (flat_go page)) process
    (λ page. ap (λ n. if_pages_last (flat_of objects m) (is_none page.bytes && leb m.pages n) (flat_go page)) (used-flat objects m is)
    ∙ lacking page (is_out_of_pages m page))
  where
    lacking : (page : Page) (b : Bool) → if_pages_last (flat_of objects m) b (flat_go page) ≡ flat_outcome objects (if_pages_last m b (go page))
    lacking page true = refl
    lacking page false = same page

pub read-flat : (objects : List Object) (m : FlatState) (pid : ℕ) (addr : Addr) (n : ℕ) → is_process pid ≡ true
    → read (flat_of objects m) pid addr n ≡ flat_outcome objects (read m pid addr n)
read-flat objects m pid addr n process = page-flat objects m pid addr may_read _ _ process (λ page. refl)

puts-flat : (objects : List Object) (m : FlatState) (pid : ℕ) (addr : Addr) (page : Page) (bytes : List ℕ) (reply : Reply) → IsMemory m → is_process pid ≡ true
    → puts (flat_of objects m) pid addr page bytes reply ≡ flat_outcome objects (puts m pid addr page bytes reply)
puts-flat objects m pid addr page bytes reply is process =
    ap (λ (s : FlatState). record { reply = reply; state = s }) (written-flat objects m pid (page_of addr) page _ is process)

pub write-flat : (objects : List Object) (m : FlatState) (pid : ℕ) (addr : Addr) (bytes : List ℕ) → IsMemory m → is_process pid ≡ true
    → write (flat_of objects m) pid addr bytes ≡ flat_outcome objects (write m pid addr bytes)
write-flat objects m pid addr bytes is process =
    bytes-flat objects m pid addr may_write _ _ is process (λ page. puts-flat objects m pid addr page bytes _ is process)

pub atomic-flat : (objects : List Object) (m : FlatState) (pid : ℕ) (addr : Addr) (op : AtomicOp) → IsMemory m → is_process pid ≡ true
    → atomic (flat_of objects m) pid addr op ≡ flat_outcome objects (atomic m pid addr op)
atomic-flat objects m pid addr op is process =
    bytes-flat objects m pid addr may_change _ _ is process (λ page. puts-flat objects m pid addr page _ _ is process)

pub alloc-flat : (objects : List Object) (m : FlatState) (pid n : ℕ) (perm : Perm) → IsMemory m → is_process pid ≡ true
    → alloc (flat_of objects m) pid n perm ≡ flat_outcome objects (alloc m pid n perm)
alloc-flat objects m pid n perm is process =
    ap (alloc_at (flat_of objects m) pid n perm) (least-flat objects m pid n is) ∙ at (least m.buckets (places m) pid n)
  where
    at : (o : Option ℕ) → alloc_at (flat_of objects m) pid n perm o ≡ flat_outcome objects (alloc_at m pid n perm o)
    at None = refl
    at (Some start) = ap (λ (s : FlatState). record { reply = (alloc_at m pid n perm (Some start)).reply; state = s }) (mapped-flat objects m pid start n perm is process)

pub free-flat : (objects : List Object) (m : FlatState) (pid : ℕ) (addr : Addr) (n : ℕ) → is_process pid ≡ true
    → free (flat_of objects m) pid addr n ≡ flat_outcome objects (free m pid addr n)
free-flat objects m pid addr n process =
    let same : is_range (flat_of objects m) pid (page_of addr) n ≡ is_range m pid (page_of addr) n =
    ap (λ (o : Option ℕ). has_pages o n) (find-where of_process (pid, page_of addr) m.ranges ∙ rw process refl) in
    ap (free_if (flat_of objects m) pid (page_of addr) n) same ∙ at (is_range m pid (page_of addr) n)
  where
    at : (b : Bool) → free_if (flat_of objects m) pid (page_of addr) n b ≡ flat_outcome objects (free_if m pid (page_of addr) n b)
    at true = ap (λ (s : FlatState). record { reply = (free_if m pid (page_of addr) n true).reply; state = s }) (unmapped-flat objects m pid (page_of addr) n process)
    at false = refl
