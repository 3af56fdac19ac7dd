-- How a store stays whole, and what it means, after bytes were written or a page got a frame.
use Rattle.std.proofs.Common.{Bool, true, false, T, ◌≡◌, ◌≢◌, ℕ, ◌+◌, ◌<◌, ◌≤◌, ◌&&◌, not, cond, if◌then◌else◌, eqb, leb, le-leb, is_none, is_some, IfSome, slice_get, length-append, drop, ◌⊎◌, inl, inr, List, [], ◌∷◌, ◌++◌, set, length, filter, count_by, Option, Some, None, option_map, refl, sym, ap, ◌∙◌, subst, arith}
use Rattle.std.specs.FinMap.Entries.{find, put, where_key, is_sorted, find-put, is_sorted-put, same_entries}
use Rattle.std.proofs.Math.Logic.{∥∥₁_map}
use Rattle.std.proofs.lemmas.Bool.{lt-leb, cases_Bool, cases_eq, eq-eqb}
use Rattle.std.proofs.lemmas.List.{get_or-set_same, get_or-set_other, length-set}
use Rattle.std.proofs.lemmas.List.Sums.{sum_by-cons}
use Rattle.std.proofs.lemmas.List.Elements.{filter-append}
use Rattle.cl_types.specs.declared.call.Perm.{Perm}
use Rattle.cl_types.specs.declared.page.Pte.{Pte}
use Rattle.cl_types.specs.declared.numbers.Addr.{Addr}
use Rattle.cl_types.specs.declared.numbers.PageNo.{PageNo}
use Rattle.cl_types.specs.Bytes.{with_bytes, fresh_bytes}
use Rattle.cl_types.specs.Places.{Place, place_cmp, is_process}
use Rattle.cl_types.proofs.PlaceLemmas.{place_total, place_exact, same_place, split_place}
use Rattle.hash_buckets.specs.PageMap.{PageMap, entry_of, with_entry, IsValid}
use Rattle.index_lists.specs.NodeLists.{has}
use Rattle.page_arena.specs.Arena.{page_at as arena_page}
use Rattle.page_pool.specs.PoolPages.{PoolPages, free_list, free_pages, IsTaken, AreZero}
use Rattle.index_lists.proofs.Members.{has-append_false}
use Rattle.range_alloc.specs.Ranges.{AreRanges, IsIn, frame_at, span_at}
use Rattle.range_alloc.proofs.Entries.{entry-with, frame_in, span_in, sorted_table}
use Rattle.translate_cache.specs.Cached.{Cached}
use Rattle.translate_cache.specs.Cached.{entry_of as cached_entry}
use Rattle.cl_types.specs.Pages.{page_of, offset_of}
use Rattle.flat_model.specs.Rows.{keys}
use Rattle.flat_model.specs.State.{Page, page_at, used, bytes_of}
use Rattle.flat_model.specs.Step.{written, is_out_of_pages}
use Rattle.data_path.specs.declared.store.PageStore.{PageStore}
use Rattle.data_path.specs.Listing.{AreListed}
use Rattle.data_path.specs.Store.{page_in, pages_in, backed, memory_of, IsCached, IsFit, IsWhole}
use Rattle.data_path.specs.Access.{IsFramed, IsOpen}
use Rattle.data_path.proofs.Accesses.{changed_open, page_there, bytes_framed, bytes_fresh}
use Rattle.data_path.proofs.Keyed.{around, put_same}
use Rattle.data_path.proofs.Pages.{find-pages_in, sorted_pages, backed-put, spans-put, pages_in-put, pages_in-other}
use Rattle.cl_types.proofs.PutBytes.{length-with_bytes}
use Rattle.flat_model.proofs.FreshLemmas.{length_fresh}

-- as many pages have bytes as entries have frames
pub used_is : (s : PageStore) → used (memory_of s) ≡ backed s.table.entries
used_is s = omega (arith, count s.table.entries)
  where
    count : (es : List (Place × Pte)) → count_by (λ (e : Place × Page). is_some e.1.bytes) (pages_in s.arena es) ≡ backed es
    count [] = refl
    count (e ∷ es) = sum_by-cons _ (e.0, page_in s.arena e.1) (pages_in s.arena es) ∙ one e.1.frame (count es)
      where
        one : (o : Option PageNo) → count_by (λ (e : Place × Page). is_some e.1.bytes) (pages_in s.arena es) ≡ backed es
            → cond (is_some (option_map (λ (frame : PageNo). arena_page s.arena frame.0) o)) 1 0 + count_by (λ (e : Place × Page). is_some e.1.bytes) (pages_in s.arena es) ≡ (if is_some o then 1 else 0) + backed es
        one None h = omega (arith, h)
        one (Some frame) h = omega (arith, h)

-- the frame of an entry is the page's
pub frame_named : (s : PageStore) (place : Place) (pte : Pte) (frame : PageNo) → entry_of s.table place ≡ Some pte → pte.frame ≡ Some frame → frame_at s.table place ≡ Some frame.0
frame_named s place pte frame there framed = ap frame_in there ∙ ap (option_map (λ (f : PageNo). f.0)) framed

-- it is a page of the arena
pub frame_within : (s : PageStore) → IsFit s → (place : Place) (pte : Pte) → entry_of s.table place ≡ Some pte → IfSome pte.frame (λ frame. frame.0 < length s.arena)
frame_within s fit place pte there = by pte.frame refl
  where
    by : (o : Option PageNo) → pte.frame ≡ o → IfSome o (λ frame. frame.0 < length s.arena)
    by None is = tt
    by (Some frame) is = omega (arith, (fit.taken.taken place frame.0 (frame_named s place pte frame there is)).in_range, fit.arena)

has_neither : (xs ys : List ℕ) (p : ℕ) → has xs p ≡ false → has ys p ≡ false → has (xs ++ ys) p ≡ false
has_neither [] ys p a b = b
has_neither (x ∷ xs) ys p a b = elim (cases_Bool (eqb p x)) [ inl t ↦ absurd (let e = rw t at a in cc) | inr f ↦ rw f (has_neither xs ys p (rw f at a) b) ]

-- a taken page is in no list
not_ready : (v : PoolPages) (p : ℕ) → has (free_list v) p ≡ false → has (v.ring ++ v.clean) p ≡ false
not_ready v p free =
    let a = has-append_false v.ring (v.clean ++ v.dirty) p free in
    let b = has-append_false v.clean v.dirty p a.1 in
    has_neither v.ring v.clean p a.0 b.0

pub not_dirty : (v : PoolPages) (p : ℕ) → has (free_list v) p ≡ false → has v.dirty p ≡ false
not_dirty v p free = (has-append_false v.clean v.dirty p (has-append_false v.ring (v.clean ++ v.dirty) p free).1).1

-- ---- bytes were written into a frame
page_other : (a b : List (List ℕ)) (pte : Pte) → ((frame : PageNo) → pte.frame ≡ Some frame → arena_page b frame.0 ≡ arena_page a frame.0) → page_in b pte ≡ page_in a pte
page_other a b pte h = λ i. record { perm = pte.perm; bytes = on pte.frame refl i }
  where
    on : (o : Option PageNo) → pte.frame ≡ o → option_map (λ (frame : PageNo). arena_page b frame.0) o ≡ option_map (λ (frame : PageNo). arena_page a frame.0) o
    on None is = refl
    on (Some frame) is = ap (λ (l : List ℕ). Some l) (h frame is)

module _ (s : PageStore) (place : Place) (pte : Pte) (frame : PageNo) (whole : IsFit s) (there : entry_of s.table place ≡ Some pte) (framed : pte.frame ≡ Some frame) where
  -- one page has changed
  wrote : (bytes : List ℕ) → memory_of (record s { arena = set s.arena frame.0 bytes }) ≡ written (memory_of s) place.0 place.1 (page_in s.arena pte) bytes
  wrote bytes =
      let es = s.table.entries in
      let a = s.arena in
      let b = set s.arena frame.0 bytes in
      let page : Page = record { perm = pte.perm; bytes = Some bytes } in
      let taken = whole.taken.taken place frame.0 (frame_named s place pte frame there framed) in
      let inside : frame.0 < length a = omega (arith, taken.in_range, whole.arena) in
      let sorted = sorted_table s.table whole.valid in
      let sorted_a : T (is_sorted place_cmp (pages_in a es)) = rw (sorted_pages a es) sorted in
      let sorted_b : T (is_sorted place_cmp (pages_in b es)) = rw (sorted_pages b es) sorted in
      let at : (q : Place) → option_map (page_in b) (find place_cmp q es) ≡ cond (same_place q place) (Some page) (option_map (page_in a) (find place_cmp q es)) = λ q.
      elim (split_place q place) [
        | inl t ↦
            let here : option_map (page_in b) (find place_cmp q es) ≡ Some (page_in b pte) = ap (λ k. option_map (page_in b) (find place_cmp k es)) t.0 ∙ ap (option_map (page_in b)) there in
            let new : page_in b pte ≡ page = λ i. record { perm = pte.perm; bytes = (ap (option_map (λ (f : PageNo). arena_page b f.0)) framed ∙ ap (λ (l : List ℕ). Some l) (get_or-set_same a frame.0 bytes [] inside)) i } in
            here ∙ ap (λ (p : Page). Some p) new ∙ rw t.1 refl
        | inr f ↦ rw f.1 (other q f.0 (find place_cmp q es) refl)
      ] in
      let pages : pages_in b es ≡ put place_cmp place page (pages_in a es) = same_entries place_cmp place_total place_exact (pages_in b es) (put place_cmp place page (pages_in a es)) sorted_b (is_sorted-put place_cmp place_total place page (pages_in a es) sorted_a) (λ q.
      find-pages_in b es q ∙ at q ∙ sym (find-put place_cmp place_total q place page (pages_in a es) ∙ ap (cond (same_place q place) (Some page)) (find-pages_in a es q))) in
      λ i. record (memory_of s) { map = pages i }
    where
      other : (q : Place) → q ≢ place → (o : Option Pte) → find place_cmp q s.table.entries ≡ o → option_map (page_in (set s.arena frame.0 bytes)) o ≡ option_map (page_in s.arena) o
      other q ne None is = refl
      other q ne (Some x) is = ap (λ (p : Page). Some p) (page_other s.arena (set s.arena frame.0 bytes) x (λ f has_it. get_or-set_other s.arena frame.0 f.0 bytes [] (λ e.
          ne (whole.taken.once q place frame.0 (frame_named s q x f is has_it ∙ ap (λ (n : ℕ). Some n) e) (frame_named s place pte frame there framed)))))

-- the page of an entry that names the frame, where there is one
pub wrote_named : (s : PageStore) (frame : PageNo) (at : ℕ) (bytes : List ℕ) (place : Place) → IsFit s → frame_at s.table place ≡ Some frame.0
    → IfSome (page_at (memory_of s) place.0 place.1) (λ page.
    memory_of (record s { arena = set s.arena frame.0 (with_bytes at bytes (arena_page s.arena frame.0)) }) ≡ written (memory_of s) place.0 place.1 page (with_bytes at bytes (bytes_of page)))
wrote_named s frame at bytes place whole named = by_entry (entry_of s.table place) refl
  where
    same_no : (o : Option PageNo) → option_map (λ (f : PageNo). f.0) o ≡ Some frame.0 → o ≡ Some frame
    same_no None is = absurd cc
    same_no (Some f) is = let same : f.0 ≡ frame.0 = cc in λ i. Some (record { 0 = same i })

    new : PageStore
    new = record s { arena = set s.arena frame.0 (with_bytes at bytes (arena_page s.arena frame.0)) }

    by_entry : (o : Option Pte) → entry_of s.table place ≡ o
        → IfSome (page_at (memory_of s) place.0 place.1) (λ page. memory_of (record s { arena = set s.arena frame.0 (with_bytes at bytes (arena_page s.arena frame.0)) }) ≡ written (memory_of s) place.0 place.1 page (with_bytes at bytes (bytes_of page)))
    by_entry None is = absurd (let none : frame_at s.table place ≡ None = ap frame_in is in cc (none, named))
    by_entry (Some pte) is =
        let framed = same_no pte.frame (sym (ap frame_in is) ∙ named) in
        let ws = with_bytes at bytes (arena_page s.arena frame.0) in
        let change = wrote s place pte frame whole is framed ws ∙ ap (λ b. written (memory_of s) place.0 place.1 (page_in s.arena pte) (with_bytes at bytes b)) (sym (bytes_framed s.arena pte frame framed)) in
        subst (λ (o : Option Page). IfSome o (λ page. memory_of (record s { arena = set s.arena frame.0 (with_bytes at bytes (arena_page s.arena frame.0)) }) ≡ written (memory_of s) place.0 place.1 page (with_bytes at bytes (bytes_of page))))
        (sym (page_there s place.0 place.1 (Some pte) is)) change

-- a taken frame's bytes changed
pub whole_wrote : (s : PageStore) (frame : PageNo) (at : ℕ) (bytes : List ℕ) → IsWhole s → IsTaken s.pool frame.0 → length (arena_page s.arena frame.0) ≡ 4096 → at + length bytes ≤ 4096
    → IsWhole (record s { arena = set s.arena frame.0 (with_bytes at bytes (arena_page s.arena frame.0)) })
whole_wrote s frame at bytes whole taken size within =
    let w = whole.fit in
    let ws = with_bytes at bytes (arena_page s.arena frame.0) in
    let inside : frame.0 < length s.arena = omega (arith, taken.in_range, w.arena) in
    let fit : IsFit (record s { arena = set s.arena frame.0 ws }) = record {
      valid = w.valid;
      ranges = w.ranges;
      taken = w.taken;
      named = w.named;
      arena = length-set s.arena frame.0 ws ∙ w.arena;
      sized = λ place f named. elim (cases_eq f frame.0) [
        | inl t ↦ rw (ap (arena_page (set s.arena frame.0 ws)) t ∙ get_or-set_same s.arena frame.0 ws [] inside) (length-with_bytes at bytes (arena_page s.arena frame.0) (omega (arith, size, within)) ∙ size)
        | inr n ↦ rw (get_or-set_other s.arena frame.0 f ws [] n) (w.sized place f named)
      ];
      zero = λ p h. elim (cases_eq p frame.0) [
        | inl t ↦ absurd (let e = sym h ∙ ap (has (s.pool.ring ++ s.pool.clean)) t ∙ not_ready s.pool frame.0 taken.not_free in cc)
        | inr f ↦ rw (get_or-set_other s.arena frame.0 p ws [] f) (w.zero p h)
      ];
      cached = w.cached;
    } in
    record { fit = fit; keys = whole.keys; held = whole.held; listed = whole.listed }

-- ---- a page that has a frame
pub framed_already : (s : PageStore) (place : Place) (pte : Pte) (frame : PageNo) → IsFit s → entry_of s.table place ≡ Some pte → pte.frame ≡ Some frame → IsFramed s s place pte frame
framed_already s place pte frame whole there framed =
    let page = page_in s.arena pte in
    let bytes : bytes_of page ≡ arena_page s.arena frame.0 = bytes_framed s.arena pte frame framed in
    let some : page.bytes ≡ Some (bytes_of page) = ap (option_map (λ (f : PageNo). arena_page s.arena f.0)) framed ∙ ap (λ (l : List ℕ). Some l) (sym bytes) in
    let sorted' : T (is_sorted place_cmp (pages_in s.arena s.table.entries)) = rw (sorted_pages s.arena s.table.entries) (sorted_table s.table whole.valid) in
    let same_map : put place_cmp place page (pages_in s.arena s.table.entries) ≡ pages_in s.arena s.table.entries =
    put_same place_cmp place_total place_exact place page (pages_in s.arena s.table.entries) sorted' (find-pages_in s.arena s.table.entries place ∙ ap (option_map (page_in s.arena)) there) in
    let with_it : put place_cmp place (record page { bytes = Some (bytes_of page) }) (pages_in s.arena s.table.entries) ≡ put place_cmp place page (pages_in s.arena s.table.entries) =
    λ i. put place_cmp place (record page { bytes = sym some i }) (pages_in s.arena s.table.entries) in
    record {
      room = ap (λ (f : Option PageNo). is_out_of_pages (memory_of s) (record { perm = pte.perm; bytes = option_map (λ (n : PageNo). arena_page s.arena n.0) f })) framed;
      table = λ i. record s.table { entries = (sym (put_same place_cmp place_total place_exact place pte s.table.entries (sorted_table s.table whole.valid) there) ∙ (λ j. put place_cmp place (record pte { frame = framed j }) s.table.entries)) i };
      memory = λ i. record (memory_of s) { map = sym (with_it ∙ same_map) i };
      bytes = sym bytes;
    }

-- ---- no page is free
pub out_of_pages : (s : PageStore) (pte : Pte) → IsFit s → pte.frame ≡ None → free_pages s.pool ≡ 0 → is_out_of_pages (memory_of s) (page_in s.arena pte) ≡ true
out_of_pages s pte whole fresh none =
    let all : leb s.pool.pages (used (memory_of s)) ≡ true = le-leb s.pool.pages (used (memory_of s)) (omega (arith, used_is s, whole.named, none)) in
    ap (λ (f : Option PageNo). is_out_of_pages (memory_of s) (record { perm = pte.perm; bytes = option_map (λ (n : PageNo). arena_page s.arena n.0) f })) fresh ∙ all

no_ring : (v : PoolPages) → free_pages v ≡ 0 → drop 1 v.ring ≡ v.ring
no_ring v h = at v.ring (omega (arith, h))
  where
    at : (xs : List ℕ) → length xs ≡ 0 → drop 1 xs ≡ xs
    at [] h = refl
    at (x ∷ xs) h = absurd (omega (arith, h))

-- then nothing was taken
pub not_taken : (s : PageStore) (pool : PoolPages) → pool ≡ record s.pool { ring = drop 1 s.pool.ring } → free_pages s.pool ≡ 0 → pool ≡ s.pool
not_taken s pool rest none = rest ∙ (λ i. record s.pool { ring = no_ring s.pool none i })

-- ---- a fresh page gets the first page of the ring
-- the keys stay
pub keys_put : (test : Place → Bool) (k : Place) (v w : Pte) (es : List (Place × Pte)) → T (is_sorted place_cmp es) → find place_cmp k es ≡ Some v
    → keys (where_key place_cmp test (put place_cmp k w es)) ≡ keys (where_key place_cmp test es)
keys_put test k v w es sorted there =
    let r = around place_cmp place_total place_exact k v es sorted there in
    let at : (Place × Pte) → Bool = λ e. test e.0 in
    ap (λ l. keys (filter at l)) (r.puts w)
    ∙ ap keys (filter-append at r.before ((k, w) ∷ r.after))
    ∙ keys_append (filter at r.before) (filter at ((k, w) ∷ r.after))
    ∙ ap (λ l. keys (filter at r.before) ++ l) (elim (cases_Bool (test k)) [ inl t ↦ rw t refl | inr n ↦ rw n refl ])
    ∙ sym (ap (λ l. keys (filter at l)) r.is ∙ ap keys (filter-append at r.before ((k, v) ∷ r.after)) ∙ keys_append (filter at r.before) (filter at ((k, v) ∷ r.after)))
  where
    keys_append : (xs ys : List (Place × Pte)) → keys (xs ++ ys) ≡ keys xs ++ keys ys
    keys_append [] ys = refl
    keys_append (x ∷ xs) ys = ap (λ l. x.0 ∷ l) (keys_append xs ys)

-- the pages of the free list are counted
free_is : (v : PoolPages) → length (free_list v) ≡ free_pages v
free_is v = omega (arith, length-append v.ring (v.clean ++ v.dirty), length-append v.clean v.dirty)

pub ring_first : (xs ys : List ℕ) (n : ℕ) → Some n ≡ slice_get xs 0 → has (xs ++ ys) n ≡ true
ring_first [] ys n h = absurd cc
ring_first (x ∷ xs) ys n h = let e : n ≡ x = cc in rw (eq-eqb n x e) refl

-- ranges stay where spans stay and the same pages are mapped
pub ranges_same : (t u : PageMap) → AreRanges t → ((q : Place) → span_at u q ≡ span_at t q) → ((q : Place) → is_some (entry_of u q) ≡ is_some (entry_of t q)) → AreRanges u
ranges_same t u ranges span some = record {
  covered = λ space page there. ∥∥₁_map (ranges.covered space page (sym (some (space, page)) ∙ there)) (λ old. (old.0, forth space old.0 page old.1));
  once = λ space a b page left right. ranges.once space a b page (back space a page left) (back space b page right);
  mapped = λ space start page inside. some (space, page) ∙ ranges.mapped space start page (back space start page inside);
  within = λ space page there. ranges.within space page (sym (some (space, page)) ∙ there);
}
  where
    back : (space start page : ℕ) → IsIn u space start page → IsIn t space start page
    back space start page inside = (inside.0, omega (arith, inside.1, span (space, start)))

    forth : (space start page : ℕ) → IsIn t space start page → IsIn u space start page
    forth space start page inside = (inside.0, omega (arith, inside.1, span (space, start)))

-- the table's entry of a page changed, and was noted
pub cached_put : (k : Place) (pte : Pte) (c d : Cached) (table : PageMap) → IsCached c table → IfSome (cached_entry d k) (λ found. found ≡ pte)
    → ((q : Place) → q ≢ k → IfSome (cached_entry d q) (λ found. cached_entry c q ≡ Some found)) → IsCached d (with_entry table k pte)
cached_put k pte c d table cached here others q x found = entry-with table k pte q ∙ elim (split_place q k) [
  | inl t ↦
      let noted : IfSome (Some x) (λ found. found ≡ pte) = subst (λ (o : Option Pte). IfSome o (λ found. found ≡ pte)) (sym (ap (cached_entry d) t.0) ∙ found) here in
      rw t.1 (ap (λ (y : Pte). Some y) (sym noted))
  | inr f ↦
      let noted : IfSome (Some x) (λ found. cached_entry c q ≡ Some found) = subst (λ (o : Option Pte). IfSome o (λ found. cached_entry c q ≡ Some found)) found (others q f.0) in
      rw f.1 (cached q x noted)
]

module _ (s : PageStore) (k : Place) (pte : Pte) (frame : PageNo) (one two : PoolPages) (arena : List (List ℕ)) (cache : Cached) where
  abbrev pub with_frame : Pte
  with_frame = record pte { frame = Some frame }

  abbrev pub framed_table : PageMap
  framed_table = with_entry s.table k with_frame

  abbrev pub framed_store : PageStore
  framed_store = record { table = framed_table; pool = two; arena = arena; cache = cache; spaces = s.spaces; ranges = s.ranges }

  -- what the calls of the parts gave
  pub record Given : Type 0 where
    pub whole : IsFit s
    pub there : entry_of s.table k ≡ Some pte
    pub fresh : pte.frame ≡ None
    pub front : free_list s.pool ≡ frame.0 ∷ free_list one
    pub taken : IsTaken one frame.0
    pub rest : one ≡ record s.pool { ring = drop 1 s.pool.ring }
    pub free : free_list two ≡ free_list one
    pub kept : two.pages ≡ one.pages
    pub long : length arena ≡ length s.arena
    pub others : (p : ℕ) → has one.dirty p ≡ false → arena_page arena p ≡ arena_page s.arena p
    pub zero : AreZero arena (two.ring ++ two.clean)
    pub first : has (s.pool.ring ++ s.pool.clean) frame.0 ≡ true
    pub valid : IsValid framed_table
    pub cached : IsCached cache framed_table

  module _ (g : Given) where
    sorted : T (is_sorted place_cmp s.table.entries)
    sorted = sorted_table s.table g.whole.valid

    pages : two.pages ≡ s.pool.pages
    pages = g.kept ∙ ap (λ (v : PoolPages). v.pages) g.rest

    is_free : has (free_list s.pool) frame.0 ≡ true
    is_free = ap (λ l. has l frame.0) g.front ∙ rw (eq-eqb frame.0 frame.0 refl) refl

    -- a page that another entry names stays taken
    still : (n : ℕ) → IsTaken s.pool n → IsTaken two n
    still n t = record {
      in_range = omega (arith, t.in_range, pages);
      not_free = ap (λ l. has l n) g.free ∙ later (ap (λ l. has l n) (sym g.front) ∙ t.not_free);
    }
      where
        later : has (frame.0 ∷ free_list one) n ≡ false → has (free_list one) n ≡ false
        later h = elim (cases_Bool (eqb n frame.0)) [ inl e ↦ absurd (let x = rw e at h in cc) | inr f ↦ rw f at h ]

    now_taken : IsTaken two frame.0
    now_taken = record { in_range = omega (arith, g.taken.in_range, g.kept); not_free = ap (λ l. has l frame.0) g.free ∙ g.taken.not_free }

    -- an entry's frame, before
    before : (q : Place) (f : ℕ) → frame_at framed_table q ≡ Some f → ((q ≡ k) × (f ≡ frame.0)) ⊎ ((q ≢ k) × (frame_at s.table q ≡ Some f))
    before q f h = elim (split_place q k) [
      | inl t ↦
          let here : entry_of framed_table q ≡ Some with_frame = entry-with s.table k with_frame q ∙ rw t.1 refl in
          let both : Some frame.0 ≡ Some f = sym (ap frame_in here) ∙ h in
          let same : frame.0 ≡ f = cc in
          inl (t.0, sym same)
      | inr n ↦
          let here : entry_of framed_table q ≡ entry_of s.table q = entry-with s.table k with_frame q ∙ rw n.1 refl in
          inr (n.0, sym (ap frame_in here) ∙ h)
    ]

    other_frame : (q : Place) (f : ℕ) → frame_at s.table q ≡ Some f → f ≢ frame.0
    other_frame q f h e = let t = (g.whole.taken.taken q f h).not_free in let x = sym is_free ∙ ap (λ (n : ℕ). has (free_list s.pool) n) (sym e) ∙ t in cc

    same_dirty : one.dirty ≡ s.pool.dirty
    same_dirty = ap (λ (v : PoolPages). v.dirty) g.rest

    -- a frame that was named has the same bytes
    same_bytes : (q : Place) (f : ℕ) → frame_at s.table q ≡ Some f → arena_page arena f ≡ arena_page s.arena f
    same_bytes q f h = g.others f (ap (λ l. has l f) same_dirty ∙ not_dirty s.pool f (g.whole.taken.taken q f h).not_free)

    -- the frame's bytes are zeros
    frame_zero : arena_page arena frame.0 ≡ fresh_bytes
    frame_zero = g.others frame.0 (not_dirty one frame.0 g.taken.not_free) ∙ g.whole.zero frame.0 g.first

    same_span : (q : Place) → span_at framed_table q ≡ span_at s.table q
    same_span q = ap span_in (entry-with s.table k with_frame q) ∙ elim (split_place q k) [
      | inl t ↦ rw t.1 (sym (ap span_in (ap (entry_of s.table) t.0 ∙ g.there)))
      | inr n ↦ rw n.1 refl
    ]

    same_mapped : (q : Place) → is_some (entry_of framed_table q) ≡ is_some (entry_of s.table q)
    same_mapped q = ap is_some (entry-with s.table k with_frame q) ∙ elim (split_place q k) [
      | inl t ↦ rw t.1 (sym (ap is_some (ap (entry_of s.table) t.0 ∙ g.there)))
      | inr n ↦ rw n.1 refl
    ]

    pub fit_framed : IsFit framed_store
    fit_framed = record {
      valid = g.valid;
      ranges = ranges_same s.table framed_table g.whole.ranges same_span same_mapped;
      taken = record {
        taken = λ q f h. elim (before q f h) [ inl t ↦ subst (λ (n : ℕ). IsTaken two n) (sym t.1) now_taken | inr u ↦ still f (g.whole.taken.taken q f u.1) ];
        once = λ p q f a b. elim (before p f a) [
          | inl t ↦ elim (before q f b) [ inl u ↦ t.0 ∙ sym u.0 | inr v ↦ absurd (other_frame q f v.1 t.1) ]
          | inr u ↦ elim (before q f b) [ inl t ↦ absurd (other_frame p f u.1 t.1) | inr v ↦ g.whole.taken.once p q f u.1 v.1 ]
        ];
      };
      named = omega (arith, backed-put k pte with_frame s.table.entries frame sorted g.there g.fresh refl, g.whole.named, free_is s.pool, free_is two, ap length g.front, ap length g.free, pages);
      arena = g.long ∙ g.whole.arena ∙ sym pages;
      sized = λ q f h. elim (before q f h) [
        | inl t ↦ ap length (ap (arena_page arena) t.1 ∙ frame_zero) ∙ length_fresh
        | inr u ↦ ap length (same_bytes q f u.1) ∙ g.whole.sized q f u.1
      ];
      zero = g.zero;
      cached = g.cached;
    }

    pub whole_framed : IsWhole s → IsWhole framed_store
    whole_framed whole = record {
      fit = fit_framed;
      keys = keys_put (λ place. not (is_process place.0)) k pte with_frame s.table.entries sorted g.there ∙ whole.keys;
      held = λ place p offload found. elim (split_place place k) [
        | inl t ↦ let e : Some with_frame ≡ Some p = sym (entry-with s.table k with_frame place ∙ rw t.1 refl) ∙ found in let x : with_frame ≡ p = cc in ap (λ (y : Pte). is_some y.frame) (sym x)
        | inr n ↦ whole.held place p offload (sym (entry-with s.table k with_frame place ∙ rw n.1 refl) ∙ found)
      ];
      listed = subst (λ (spans : List (Place × ℕ)). AreListed s.ranges spans s.table.buckets) (sym (spans-put k pte with_frame s.table.entries sorted g.there refl)) whole.listed;
    }

    zeroed : arena_page arena frame.0 ≡ bytes_of (page_in s.arena pte)
    zeroed = frame_zero ∙ sym (bytes_fresh s.arena pte g.fresh)

    map_is : pages_in arena framed_table.entries ≡ put place_cmp k (record (page_in s.arena pte) { bytes = Some (bytes_of (page_in s.arena pte)) }) (pages_in s.arena s.table.entries)
    map_is =
        let others : pages_in arena s.table.entries ≡ pages_in s.arena s.table.entries = pages_in-other s.arena arena s.table.entries sorted (λ q x f there framed. same_bytes q f.0 (frame_named s q x f there framed)) in
        pages_in-put arena k with_frame s.table.entries sorted ∙ (λ i. put place_cmp k (record { perm = pte.perm; bytes = Some (zeroed i) }) (others i))

    free_left : leb s.pool.pages (used (memory_of s)) ≡ false
    free_left = lt-leb s.pool.pages (used (memory_of s)) (omega (arith, used_is s, g.whole.named, free_is s.pool, ap length g.front))

    pub is_framed : IsFramed s framed_store k pte frame
    is_framed = record {
      room = ap (λ (b : Bool). is_none (option_map (λ (n : PageNo). arena_page s.arena n.0) pte.frame) && b) free_left ∙ no_more (is_none (option_map (λ (n : PageNo). arena_page s.arena n.0) pte.frame));
      table = refl;
      memory = λ i. record (memory_of s) { map = map_is i; ranges = spans-put k pte with_frame s.table.entries sorted g.there refl i; pages = pages i };
      bytes = zeroed;
    }
      where
        no_more : (b : Bool) → (b && false) ≡ false
        no_more true = refl
        no_more false = refl

-- ---- an open page
-- its entry names the frame
pub frame_open : (s t : PageStore) (space : ℕ) (addr : Addr) (may : Perm → Bool) (frame : PageNo) → IsOpen s t space addr may frame → frame_at t.table (space, page_of addr) ≡ Some frame.0
frame_open s t space addr may frame opened = frame_named t (space, page_of addr) opened.entry frame opened.found opened.framed

-- bytes that are put into it are a change of the page
pub changed_open_at : (s t new : PageStore) (space : ℕ) (addr : Addr) (may : Perm → Bool) (frame : PageNo) (at : ℕ) (bytes : List ℕ) → IsWhole s → (o : IsOpen s t space addr may frame) → at ≡ offset_of addr
    → IfSome (page_at (memory_of t) space (page_of addr)) (λ page. memory_of new ≡ written (memory_of t) space (page_of addr) page (with_bytes at bytes (bytes_of page)))
    → memory_of new ≡ written (memory_of s) space (page_of addr) o.page (with_bytes (offset_of addr) bytes (bytes_of o.page))
changed_open_at s t new space addr may frame at bytes whole opened is change =
    let sorted : T (is_sorted place_cmp (pages_in s.arena s.table.entries)) = rw (sorted_pages s.arena s.table.entries) (sorted_table s.table whole.fit.valid) in
    changed_open (memory_of s) (memory_of t) (memory_of new) space (page_of addr) opened.page at bytes sorted opened.memory change
    ∙ ap (λ n. written (memory_of s) space (page_of addr) opened.page (with_bytes n bytes (bytes_of opened.page))) is
