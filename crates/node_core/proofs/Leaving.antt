-- A request of a process leaves the pages of the offloads.
use Rattle.std.proofs.Common.{◌≡◌, ℕ, ◌+◌, ◌*◌, Bool, true, false, not, inl, inr, List, [], ◌∷◌, Option, Some, None, refl, sym, ap, ◌∙◌}
use Rattle.std.specs.List.{AllByRecursion, flat_map, range_with_len}
use Rattle.std.specs.FinMap.Entries.{find, put, find-put}
use Rattle.std.specs.Prelude.{slice_index_or}
use Rattle.cl_types.specs.declared.call.Perm.{Perm}
use Rattle.cl_types.specs.declared.numbers.Addr.{Addr}
use Rattle.cl_types.specs.declared.request.Request.{Request}
use Rattle.cl_types.specs.declared.request.Request.TheVariants as request
use Rattle.cl_types.specs.Bytes.{over, zeros}
use Rattle.cl_types.specs.Places.{Place, place_cmp, is_process}
use Rattle.cl_types.proofs.PlaceLemmas.{place_total, split_place}
use Rattle.data_path.specs.declared.store.PageStore.{PageStore}
use Rattle.data_path.specs.Spaces.{bytes_or_none, contents_of}
use Rattle.data_path.specs.Store.{memory_of}
use Rattle.data_path.proofs.Offloads.{is_offload as offload_space}
use Rattle.cl_types.specs.Pages.{page_of}
use Rattle.flat_model.specs.State.{FlatState, Page, least, page_at, places, places_of}
use Rattle.flat_model.specs.Step.{Transition, alloc_at, free_if, if_allowed, if_pages_last, is_among, is_out_of_pages, is_range, may_change, may_read, may_write, on_bytes, on_found, outcome, with_fresh, written}
use Rattle.node_core.specs.Placed.{is_offload}
use Rattle.node_core.proofs.Parted.{all-of, not_among}
use Rattle.node_core.proofs.Parts.{find-where}

-- the pages of spaces that are no process's are as they were
abbrev pub LeavesOffloads : FlatState → FlatState → Type 0
LeavesOffloads old new = (space page : ℕ) → is_process space ≡ false → page_at new space page ≡ page_at old space page

-- what is put for a process is found for no other space
put_elsewhere : {V : Type 0} (k q : Place) (v : V) (es : List (Place × V)) → is_process k.0 ≡ true → is_process q.0 ≡ false
    → find place_cmp q (put place_cmp k v es) ≡ find place_cmp q es
put_elsewhere k q v es process outside = find-put place_cmp place_total q k v es ∙ elim (split_place q k) [
  | inl one ↦ absurd (let wrong : false ≡ true = sym outside ∙ ap (λ (p : Place). is_process p.0) one.0 ∙ process in cc)
  | inr two ↦ rw two.1 refl
]

fresh_elsewhere : (perm : Perm) (ps : List Place) (q : Place) (es : List (Place × Page)) → AllByRecursion (λ p. is_process p.0 ≡ true) ps → is_process q.0 ≡ false
    → find place_cmp q (with_fresh perm ps es) ≡ find place_cmp q es
fresh_elsewhere perm [] q es all outside = refl
fresh_elsewhere perm (p ∷ ps) q es all outside =
    put_elsewhere p q (record { perm = perm; bytes = None }) (with_fresh perm ps es) all.0 outside ∙ fresh_elsewhere perm ps q es all.1 outside

-- ---- the requests
alloc_leaves : (m : FlatState) (pid n : ℕ) (perm : Perm) (o : Option ℕ) → is_process pid ≡ true → LeavesOffloads m (alloc_at m pid n perm o).state
alloc_leaves m pid n perm None process space page outside = refl
alloc_leaves m pid n perm (Some start) process space page outside =
    fresh_elsewhere perm (places_of pid start n) (space, page) m.map (all-of is_process true pid n start process) outside

free_leaves : (m : FlatState) (pid start n : ℕ) (b : Bool) → is_process pid ≡ true → LeavesOffloads m (free_if m pid start n b).state
free_leaves m pid start n false process space page outside = refl
free_leaves m pid start n true process space page outside =
    let stays : not (is_among pid start n (space, page)) ≡ true = not_among pid start n (space, page) process (ap not outside) in
    find-where (λ place. not (is_among pid start n place)) (space, page) m.map ∙ rw stays refl

found_leaves : (m : FlatState) (may : Perm → Bool) (go : Page → Transition) (o : Option Page) → ((page : Page) → LeavesOffloads m (go page).state)
    → LeavesOffloads m (on_found m may go o).state
found_leaves m may go None each = λ space page outside. refl
found_leaves m may go (Some found) each = allowed (may found.perm)
  where
    allowed : (b : Bool) → LeavesOffloads m (if_allowed m b (go found)).state
    allowed true = each found
    allowed false = λ space page outside. refl

bytes_leaves : (m : FlatState) (pid : ℕ) (addr : Addr) (may : Perm → Bool) (go : Page → Transition) → ((page : Page) → LeavesOffloads m (go page).state)
    → LeavesOffloads m (on_bytes m pid addr may go).state
bytes_leaves m pid addr may go each =
    found_leaves m may (λ page. if_pages_last m (is_out_of_pages m page) (go page)) (page_at m pid (page_of addr)) (λ page. lacking page (is_out_of_pages m page))
  where
    lacking : (page : Page) (b : Bool) → LeavesOffloads m (if_pages_last m b (go page)).state
    lacking page true = λ space number outside. refl
    lacking page false = each page

written_leaves : (m : FlatState) (pid number : ℕ) (page : Page) (bytes : List ℕ) → is_process pid ≡ true → LeavesOffloads m (written m pid number page bytes)
written_leaves m pid number page bytes process space other outside =
    put_elsewhere (pid, number) (space, other) (record page { bytes = Some bytes }) m.map process outside

pub process_leaves : (m : FlatState) (pid : ℕ) (r : Request) → is_process pid ≡ true → is_offload r ≡ false → LeavesOffloads m (outcome m pid r).state
process_leaves m pid (request.Alloc n perm) process pages = alloc_leaves m pid n perm (least m.buckets (places m) pid n) process
process_leaves m pid (request.Free addr n) process pages = free_leaves m pid (page_of addr) n (is_range m pid (page_of addr) n) process
process_leaves m pid (request.Read addr n) process pages = found_leaves m may_read _ (page_at m pid (page_of addr)) (λ page space number outside. refl)
process_leaves m pid (request.Write addr bytes) process pages =
    bytes_leaves m pid addr may_write _ (λ page. written_leaves m pid (page_of addr) page _ process)
process_leaves m pid (request.Atomic addr op) process pages =
    bytes_leaves m pid addr may_change _ (λ page. written_leaves m pid (page_of addr) page _ process)
process_leaves m pid (request.Offload number op out bytes) process pages = absurd cc

-- ---- what the spaces hold
-- where the offloads' pages stay, so do the bytes of their spaces
pub contents_stay : (s t : PageStore) (k : ℕ) → t.spaces ≡ s.spaces → LeavesOffloads (memory_of s) (memory_of t) → contents_of k t ≡ contents_of k s
contents_stay s t k spaces leaves = λ i.
    over (zeros (slice_index_or (spaces i) k 0 * 4096))
    (flat_map (λ page. bytes_or_none (leaves (65280 + k) page (offload_space k) i)) (range_with_len 1 (slice_index_or (spaces i) k 0)))
