-- The pages of an offload in a whole store, and its bytes.
use Rattle.std.proofs.Common.{T, ◌≡◌, ◌≢◌, inl, inr, ℕ, zero, suc, ◌+◌, ◌*◌, ◌/◌, ◌%◌, ◌<◌, ◌≤◌, ◌==◌, Bool, true, false, not, cond, is_some, IfSome, List, [], ◌∷◌, ◌++◌, length, filter, get_or, Option, Some, None, refl, sym, ap, ◌∙◌, subst, arith}
use Rattle.std.specs.List.{flat_map, list_any, range_with_len}
use Rattle.std.specs.Ordering.{eq_by_cmp}
use Rattle.std.specs.FinMap.Entries.{find, put, where_key, is_sorted, find-put, find-where_key, is_some-find}
use Rattle.std.proofs.lemmas.Bool.{cases_Bool}
use Rattle.std.proofs.lemmas.Bool.Decides.{nat_tests}
use Rattle.std.proofs.lemmas.List.{length-replicate}
use Rattle.std.proofs.lemmas.List.Elements.{filter-append}
use Rattle.cl_types.specs.declared.numbers.PageNo.{PageNo}
use Rattle.cl_types.specs.declared.page.Pte.{Pte}
use Rattle.cl_types.specs.Bytes.{bytes_at, with_bytes, zeros}
use Rattle.cl_types.specs.Places.{Place, place_cmp, is_process, space_no}
use Rattle.cl_types.specs.Spaces.{IsInOnePage}
use Rattle.cl_types.proofs.PlaceLemmas.{place_total, place_exact, same_place, same_place-self, split_place}
use Rattle.hash_buckets.specs.PageMap.{entry_of}
use Rattle.page_arena.specs.Arena.{page_at as arena_page}
use Rattle.range_alloc.specs.Ranges.{frame_at}
use Rattle.flat_model.specs.State.{FlatState, Page, page_at, bytes_of, places_of}
use Rattle.flat_model.specs.Step.{written}
use Rattle.range_alloc.proofs.Entries.{sorted_table}
use Rattle.data_path.specs.declared.store.PageStore.{PageStore}
use Rattle.data_path.specs.Store.{page_in, pages_in, memory_of, held_places, IsWhole}
use Rattle.data_path.specs.Spaces.{bytes_or_none, bytes_from, contents_of, page_count, IsHonest}
use Rattle.data_path.proofs.Accesses.{page_there, bytes_framed}
use Rattle.data_path.proofs.Framing.{frame_named}
use Rattle.data_path.proofs.Keyed.{around}
use Rattle.data_path.proofs.Pages.{sorted_pages}
use Rattle.data_path.proofs.Pieces.{AreSized, length-pieces, piece_of, change_of, length-over, over_whole}

-- ---- the offloads' pages
any_left : (test : Place → Bool) (xs ys : List Place) → list_any test xs ≡ true → list_any test (xs ++ ys) ≡ true
any_left test [] ys h = absurd cc
any_left test (x ∷ xs) ys h = elim (cases_Bool (test x)) [ inl t ↦ rw t refl | inr f ↦ rw f (any_left test xs ys (rw f at h)) ]

any_right : (test : Place → Bool) (xs ys : List Place) → list_any test ys ≡ true → list_any test (xs ++ ys) ≡ true
any_right test [] ys h = h
any_right test (x ∷ xs) ys h = elim (cases_Bool (test x)) [ inl t ↦ rw t refl | inr f ↦ rw f (any_right test xs ys h) ]

among_places : (space start n page : ℕ) → start ≤ page → page < start + n → list_any (eq_by_cmp place_cmp (space, page)) (places_of space start n) ≡ true
among_places space start zero page low high = absurd (omega (arith, low, high))
among_places space start (suc n) page low high = elim (split_place (space, page) (space, start)) [
  | inl t ↦ rw t.1 refl
  | inr f ↦
      let other : page ≢ start = λ is. f.0 (λ i. (space, is i)) in
      let above : start + 1 ≤ page = let apart = other in grind (arith, nat_tests) in
      rw f.1 (among_places space (start + 1) n page above (omega (arith, high)))
]

among_held : (j : ℕ) (spaces : List ℕ) (i page : ℕ) → i < length spaces → 1 ≤ page → page < 1 + get_or spaces i 0 → list_any (eq_by_cmp place_cmp (65280 + (j + i), page)) (held_places j spaces) ≡ true
among_held j [] i page below low high = absurd (omega (arith, below))
among_held j (n ∷ spaces) zero page below low high =
    let same : j ≡ j + 0 = omega arith in
    subst (λ k. list_any (eq_by_cmp place_cmp (65280 + k, page)) (places_of (65280 + j) 1 n ++ held_places (j + 1) spaces) ≡ true) same
    (any_left (eq_by_cmp place_cmp (65280 + j, page)) (places_of (65280 + j) 1 n) (held_places (j + 1) spaces) (among_places (65280 + j) 1 n page low high))
among_held j (n ∷ spaces) (suc i) page below low high =
    let same : j + 1 + i ≡ j + suc i = omega arith in
    subst (λ k. list_any (eq_by_cmp place_cmp (65280 + k, page)) (places_of (65280 + j) 1 n ++ held_places (j + 1) spaces) ≡ true) same
    (any_right (eq_by_cmp place_cmp (65280 + (j + 1 + i), page)) (places_of (65280 + j) 1 n) (held_places (j + 1) spaces) (among_held (j + 1) spaces i page (omega (arith, below)) low high))

pub is_offload : (k : ℕ) → is_process (65280 + k) ≡ false
is_offload k = grind (arith, nat_tests)

-- a page of an offload, with its entry and its frame
pub record HeldPage (s : PageStore) (k page : ℕ) : Type 0 where
  pub pte : Pte
  pub frame : PageNo
  pub there : entry_of s.table (65280 + k, page) ≡ Some pte
  pub framed : pte.frame ≡ Some frame

pub held_page : (s : PageStore) (k page : ℕ) → IsWhole s → k < length s.spaces → 1 ≤ page → page < 1 + page_count s k → HeldPage s k page
held_page s k page whole exists low high = by (entry_of s.table (65280 + k, page)) refl
  where
    test : Place → Bool
    test place = not (is_process place.0)

    first : 0 + k ≡ k
    first = omega arith

    here : is_some (entry_of s.table (65280 + k, page)) ≡ true
    here =
        let found : find place_cmp (65280 + k, page) (where_key place_cmp (λ place. not (is_process place.0)) s.table.entries) ≡ entry_of s.table (65280 + k, page) =
        find-where_key place_cmp (λ place. not (is_process place.0)) (65280 + k, page) (λ x equal. ap (λ (y : Place). not (is_process y.0)) (sym (place_exact (65280 + k, page) x equal))) s.table.entries ∙ rw (is_offload k) refl in
        ap is_some (sym found) ∙ is_some-find place_cmp (65280 + k, page) (where_key place_cmp (λ place. not (is_process place.0)) s.table.entries)
        ∙ ap (list_any (eq_by_cmp place_cmp (65280 + k, page))) whole.keys
        ∙ subst (λ j. list_any (eq_by_cmp place_cmp (65280 + j, page)) (held_places 0 s.spaces) ≡ true) first (among_held 0 s.spaces k page exists low high)

    with_frame : (pte : Pte) (o : Option PageNo) → entry_of s.table (65280 + k, page) ≡ Some pte → pte.frame ≡ o → is_some o ≡ true → HeldPage s k page
    with_frame pte None there is some = absurd cc
    with_frame pte (Some frame) there is some = record { pte = pte; frame = frame; there = there; framed = is }

    by : (o : Option Pte) → entry_of s.table (65280 + k, page) ≡ o → HeldPage s k page
    by None is = absurd (let some = ap is_some (sym is) ∙ here in cc)
    by (Some pte) is = with_frame pte pte.frame is refl (whole.held (65280 + k, page) pte (is_offload k) is)

-- ---- its bytes
-- the bytes of a page of the space
abbrev pub bytes_at_page : FlatState → ℕ → ℕ → List ℕ
bytes_at_page memory k page = bytes_or_none (page_at memory (space_no k) page)

pub page_bytes : (s : PageStore) (k page : ℕ) (h : HeldPage s k page) → bytes_at_page (memory_of s) k page ≡ arena_page s.arena h.frame.0
page_bytes s k page h = ap bytes_or_none (page_there s (65280 + k) page (Some h.pte) h.there) ∙ bytes_framed s.arena h.pte h.frame h.framed

pub sized_pages : (s : PageStore) (k : ℕ) → IsWhole s → k < length s.spaces → AreSized (bytes_at_page (memory_of s) k) 1 (page_count s k)
sized_pages s k whole exists i below =
    let h = held_page s k (1 + i) whole exists (omega arith) (omega (arith, below)) in
    ap length (page_bytes s k (1 + i) h) ∙ whole.fit.sized (65280 + k, 1 + i) h.frame.0 (frame_named s (65280 + k, 1 + i) h.pte h.frame h.there h.framed)

pub contents_are : (s : PageStore) (k : ℕ) → IsWhole s → k < length s.spaces → contents_of k s ≡ flat_map (bytes_at_page (memory_of s) k) (range_with_len 1 (page_count s k))
contents_are s k whole exists = over_whole (page_count s k * 4096) _ (length-pieces (bytes_at_page (memory_of s) k) 1 (page_count s k) (sized_pages s k whole exists))

pub length-contents : (s : PageStore) (k : ℕ) → length (contents_of k s) ≡ page_count s k * 4096
length-contents s k = length-over (zeros (page_count s k * 4096)) (bytes_from (memory_of s) (space_no k) 1 (page_count s k)) ∙ length-replicate {A = ℕ} (page_count s k * 4096) 0

-- where an access lies
pub record Within (s : PageStore) (k at n : ℕ) : Type 0 where
  pub page : at / 4096 < page_count s k
  pub inside : at % 4096 + n ≤ 4096

pub is_within : (s : PageStore) (k at n : ℕ) → IsInOnePage at n (length (contents_of k s)) → Within s k at n
is_within s k at n within = record {
  page = omega (arith, within.1, within.2, within.4, length-contents s k);
  inside = omega (arith, within.1, within.2, within.3);
}

pub read_contents : (s : PageStore) (k at n frame : ℕ) → IsHonest s k → IsInOnePage at n (length (contents_of k s)) → frame_at s.table (65280 + k, at / 4096 + 1) ≡ Some frame
    → bytes_at (at % 4096) n (arena_page s.arena frame) ≡ bytes_at at n (contents_of k s)
read_contents s k at n frame honest within named =
    let w = is_within s k at n within in
    let f = bytes_at_page (memory_of s) k in
    let j = at / 4096 in
    let h = held_page s k (1 + j) honest.whole honest.exists (omega arith) (omega (arith, w.page)) in
    let turned : j + 1 ≡ 1 + j = omega arith in
    let mine : Some h.frame.0 ≡ Some frame = sym (frame_named s (65280 + k, 1 + j) h.pte h.frame h.there h.framed) ∙ ap (λ p. frame_at s.table (65280 + k, p)) (sym turned) ∙ named in
    let same : h.frame.0 ≡ frame = cc mine in
    let place : at ≡ j * 4096 + at % 4096 = omega arith in
    ap (λ m. bytes_at (at % 4096) n (arena_page s.arena m)) (sym same) ∙ ap (bytes_at (at % 4096) n) (sym (page_bytes s k (1 + j) h))
    ∙ sym (piece_of f 1 (page_count s k) j (at % 4096) n (sized_pages s k honest.whole honest.exists) w.page w.inside)
    ∙ ap (λ m. bytes_at m n (flat_map f (range_with_len 1 (page_count s k)))) (sym place)
    ∙ ap (bytes_at at n) (sym (contents_are s k honest.whole honest.exists))

-- ---- bytes are put into one of its pages
-- the entries that a test leaves out may change
where_put : {X : Type 0} (test : Place → Bool) (k : Place) (v w : X) (es : List (Place × X)) → test k ≡ false → T (is_sorted place_cmp es) → find place_cmp k es ≡ Some v
    → where_key place_cmp test (put place_cmp k w es) ≡ where_key place_cmp test es
where_put {X} test k v w es out sorted there =
    let r = around place_cmp place_total place_exact k v es sorted there in
    let at : (Place × X) → Bool = λ e. test e.0 in
    ap (filter at) (r.puts w) ∙ filter-append at r.before ((k, w) ∷ r.after)
    ∙ ap (λ l. filter at r.before ++ l) (rw out refl)
    ∙ sym (ap (filter at) r.is ∙ filter-append at r.before ((k, v) ∷ r.after))

module _ (s t : PageStore) (k at : ℕ) (bytes : List ℕ) (honest : IsHonest s k) (within : IsInOnePage at (length bytes) (length (contents_of k s))) (rest : t ≡ record s { arena = t.arena })
    (change : IfSome (page_at (memory_of s) (65280 + k) (at / 4096 + 1)) (λ page. memory_of t ≡ written (memory_of s) (65280 + k) (at / 4096 + 1) page (with_bytes (at % 4096) bytes (bytes_of page)))) where
  inside : Within s k at (length bytes)
  inside = is_within s k at (length bytes) within

  held : HeldPage s k (at / 4096 + 1)
  held = held_page s k (at / 4096 + 1) honest.whole honest.exists (omega arith) (omega (arith, inside.page))

  was : page_at (memory_of s) (65280 + k) (at / 4096 + 1) ≡ Some (page_in s.arena held.pte)
  was = page_there s (65280 + k) (at / 4096 + 1) (Some held.pte) held.there

  abbrev new_bytes : List ℕ
  new_bytes = with_bytes (at % 4096) bytes (bytes_of (page_in s.arena held.pte))

  is : memory_of t ≡ written (memory_of s) (65280 + k) (at / 4096 + 1) (page_in s.arena held.pte) new_bytes
  is = subst (λ (o : Option Page). IfSome o (λ page. memory_of t ≡ written (memory_of s) (65280 + k) (at / 4096 + 1) page (with_bytes (at % 4096) bytes (bytes_of page)))) was change

  found : (q : ℕ) → page_at (memory_of t) (65280 + k) q ≡ cond (same_place (65280 + k, q) (65280 + k, at / 4096 + 1)) (Some (record (page_in s.arena held.pte) { bytes = Some new_bytes })) (page_at (memory_of s) (65280 + k) q)
  found q = ap (λ (m : FlatState). page_at m (65280 + k) q) is ∙ find-put place_cmp place_total (65280 + k, q) (65280 + k, at / 4096 + 1) (record (page_in s.arena held.pte) { bytes = Some new_bytes }) (memory_of s).map

  pub write_contents : IsWhole t → contents_of k t ≡ with_bytes at bytes (contents_of k s)
  write_contents whole =
      let f = bytes_at_page (memory_of s) k in
      let g = bytes_at_page (memory_of t) k in
      let n = page_count s k in
      let j = at / 4096 in
      let turned : 1 + j ≡ j + 1 = omega arith in
      let place : j * 4096 + at % 4096 ≡ at = omega arith in
      let spaces : t.spaces ≡ s.spaces = ap (λ (x : PageStore). x.spaces) rest in
      let exists : k < length t.spaces = omega (arith, honest.exists, ap length spaces) in
      let count : page_count t k ≡ n = ap (λ (l : List ℕ). get_or l k 0) spaces in
      let changed : g (j + 1) ≡ new_bytes = ap bytes_or_none (found (j + 1)) ∙ rw (same_place-self (65280 + k, j + 1)) refl in
      let before : f (j + 1) ≡ bytes_of (page_in s.arena held.pte) = ap bytes_or_none was in
      let here : g (1 + j) ≡ with_bytes (at % 4096) bytes (f (1 + j)) = subst (λ p. g p ≡ with_bytes (at % 4096) bytes (f p)) (sym turned) (changed ∙ ap (with_bytes (at % 4096) bytes) (sym before)) in
      contents_are t k whole exists ∙ ap (λ m. flat_map g (range_with_len 1 m)) count
      ∙ sym (change_of f g 1 n j (at % 4096) bytes (sized_pages s k honest.whole honest.exists) inside.page inside.inside here (λ q other. ap bytes_or_none (found q) ∙ apart q other))
      ∙ ap (λ m. with_bytes m bytes (flat_map f (range_with_len 1 n))) place
      ∙ ap (with_bytes at bytes) (sym (contents_are s k honest.whole honest.exists))
    where
      apart : (q : ℕ) → q ≢ 1 + at / 4096
          → bytes_or_none (cond (same_place (65280 + k, q) (65280 + k, at / 4096 + 1)) (Some (record (page_in s.arena held.pte) { bytes = Some new_bytes })) (page_at (memory_of s) (65280 + k) q)) ≡ bytes_at_page (memory_of s) k q
      apart q other = elim (split_place (65280 + k, q) (65280 + k, at / 4096 + 1)) [
        | inl one ↦ absurd (other (let e : q ≡ at / 4096 + 1 = ap (λ (p : Place). p.1) one.0 in omega (arith, e)))
        | inr two ↦ rw two.1 refl
      ]

  -- the pages of the others stay
  pub other_pages : where_key place_cmp (λ place. not (place.0 == space_no k)) (memory_of t).map ≡ where_key place_cmp (λ place. not (place.0 == space_no k)) (memory_of s).map
  other_pages =
      let self : (65280 + k == 65280 + k) ≡ true = grind (arith, nat_tests) in
      let sorted : T (is_sorted place_cmp (pages_in s.arena s.table.entries)) = rw (sorted_pages s.arena s.table.entries) (sorted_table s.table honest.whole.fit.valid) in
      ap (λ (m : FlatState). where_key place_cmp (λ place. not (place.0 == space_no k)) m.map) is
      ∙ where_put (λ place. not (place.0 == space_no k)) (65280 + k, at / 4096 + 1) (page_in s.arena held.pte) (record (page_in s.arena held.pte) { bytes = Some new_bytes }) (memory_of s).map (ap not self) sorted was
