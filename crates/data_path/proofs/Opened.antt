-- A store whose offloads are mapped is whole, and means the memory at the opening.
use Rattle.std.proofs.Common.{◌≡◌, ◌≢◌, ℕ, zero, suc, ◌+◌, ◌-◌, ◌<◌, ◌≤◌, ◌==◌, ◌&&◌, if◌then◌else◌, Bool, true, false, not, cond, leb, inl, inr, is_some, List, [], ◌∷◌, ◌++◌, map, length, length-append, slice_get, Option, Some, None, refl, sym, ap, ◌∙◌, subst, arith}
use Rattle.std.specs.Option.{option_or}
use Rattle.std.specs.Map.{lookup}
use Rattle.std.specs.FinMap.Entries.{find, where_key, find-where_key}
use Rattle.std.proofs.lemmas.Bool.{cases_Bool, cases_eq}
use Rattle.std.proofs.lemmas.Bool.Decides.{nat_tests}
use Rattle.std.proofs.lemmas.List.{length-map}
use Rattle.std.proofs.lemmas.List.FromFn.{length-range_with_len}
use Rattle.cl_types.specs.declared.call.Perm.TheVariants.{ReadWrite}
use Rattle.cl_types.specs.declared.config.NodeConfig.{NodeConfig}
use Rattle.cl_types.specs.declared.config.OffloadConfig.{OffloadConfig}
use Rattle.cl_types.specs.declared.config.OffloadConfig.TheVariants.{Kv}
use Rattle.cl_types.specs.declared.page.Pte.{Pte}
use Rattle.cl_types.specs.Bytes.{fresh_bytes}
use Rattle.cl_types.specs.Config.{offload_pages}
use Rattle.cl_types.specs.Places.{Place, place_cmp, is_process}
use Rattle.cl_types.proofs.PlaceLemmas.{place_exact, same_place, same_place-true, split_place}
use Rattle.hash_buckets.specs.PageMap.{PageMap, entry_of}
use Rattle.index_lists.specs.NodeLists.{has}
use Rattle.page_arena.specs.Arena.{page_at as arena_page}
use Rattle.page_pool.specs.PoolPages.{free_list}
use Rattle.flat_model.specs.Objects.{empty_object}
use Rattle.flat_model.specs.Rows.{keys}
use Rattle.flat_model.specs.State.{held_from, opening, places_of}
use Rattle.flat_model.specs.Step.{is_among}
use Rattle.range_alloc.specs.Ranges.{AreRanges, IsIn, frame_at, span_at}
use Rattle.range_alloc.proofs.Among.{among-true, among-page, among-none, among-rest}
use Rattle.range_alloc.proofs.Entries.{frame_in, sorted_table, span_in}
use Rattle.translate_cache.specs.Cached.{Cached, is_place}
use Rattle.translate_cache.specs.Cached.{entry_of as cached_entry}
use Rattle.data_path.specs.declared.store.PageStore.{PageStore}
use Rattle.data_path.specs.Store.{pages_in, spans_in, backed, held_places, flat_of, memory_of, IsFit, IsWhole}
use Rattle.data_path.specs.Laying.{SpannedPage, rows_of, spanned, rows_from, numbered, IsLaid}
use Rattle.data_path.specs.Opened.{zeroed_page, ranges_from, opened_memory}
use Rattle.data_path.proofs.Listing.{listed_others}
use Rattle.data_path.proofs.Spans.{span_of, find-spans_in}
use Rattle.data_path.proofs.Laying.{entry_for, keys-rows, keys-rows_from, has-range}
use Rattle.flat_model.proofs.FreshLemmas.{length_fresh}

-- ---- frames by their numbers
-- the frame of a page tells its row
pub record NamedRow (first : ℕ) (rows : List SpannedPage) (place : Place) (frame : ℕ) : Type 0 where
  pub low : first ≤ frame
  pub below : frame < first + length rows
  pub at : slice_get (keys rows) (frame - first) ≡ Some place

named_row : (first : ℕ) (rows : List SpannedPage) (q : Place) (frame : ℕ) → frame_in (find place_cmp q (numbered first rows)) ≡ Some frame → NamedRow first rows q frame
named_row first [] q frame named = absurd cc
named_row first (row ∷ rows) q frame named = elim (cases_Bool (same_place q row.0)) [
  | inl t ↦
      let is : Some first ≡ Some frame = rw t at named in
      let same : first ≡ frame = cc in
      record {
        low = omega (arith, same);
        below = omega (arith, same);
        at = ap (slice_get (keys (row ∷ rows))) (let e : frame - first ≡ 0 = omega (arith, same) in e) ∙ ap (λ (p : Place). Some p) (sym (same_place-true q row.0 t));
      }
  | inr f ↦
      let r = named_row (first + 1) rows q frame (rw f at named) in
      record {
        low = omega (arith, r.low);
        below = omega (arith, r.below);
        at = ap (slice_get (keys (row ∷ rows))) (let e : frame - first ≡ suc (frame - (first + 1)) = omega (arith, r.low) in e) ∙ r.at;
      }
]

has_frame : (first : ℕ) (rows : List SpannedPage) (q : Place) (pte : Pte) → find place_cmp q (numbered first rows) ≡ Some pte → is_some pte.frame ≡ true
has_frame first [] q pte there = absurd cc
has_frame first (row ∷ rows) q pte there = elim (cases_Bool (same_place q row.0)) [
  | inl t ↦
      let is : Some (entry_for first row).1 ≡ Some pte = rw t at there in
      let same : (entry_for first row).1 ≡ pte = cc in
      ap (λ (p : Pte). is_some p.frame) (sym same)
  | inr f ↦ has_frame (first + 1) rows q pte (rw f at there)
]

backed-numbered : (first : ℕ) (rows : List SpannedPage) → backed (numbered first rows) ≡ length rows
backed-numbered first [] = refl
backed-numbered first (row ∷ rows) = omega (arith, backed-numbered (first + 1) rows)

-- ---- ranges by their rows
abbrev value_of : Option ℕ → ℕ
value_of o = elim o [ None ↦ 0 | Some n ↦ n ]

span-numbered : (first : ℕ) (rows : List SpannedPage) (q : Place) → span_in (find place_cmp q (numbered first rows)) ≡ value_of (find place_cmp q rows)
span-numbered first [] q = refl
span-numbered first (row ∷ rows) q = elim (cases_Bool (same_place q row.0)) [ inl t ↦ rw t refl | inr f ↦ rw f (span-numbered (first + 1) rows q) ]

some-numbered : (first : ℕ) (rows : List SpannedPage) (q : Place) → is_some (find place_cmp q (numbered first rows)) ≡ is_some (find place_cmp q rows)
some-numbered first [] q = refl
some-numbered first (row ∷ rows) q = elim (cases_Bool (same_place q row.0)) [ inl t ↦ rw t refl | inr f ↦ rw f (some-numbered (first + 1) rows q) ]

find-both : (xs ys : List SpannedPage) (q : Place) → find place_cmp q (xs ++ ys) ≡ option_or (find place_cmp q xs) (find place_cmp q ys)
find-both [] ys q = refl
find-both (x ∷ xs) ys q = elim (cases_Bool (same_place q x.0)) [ inl t ↦ rw t refl | inr f ↦ rw f (find-both xs ys q) ]

find-spanned : (span space start n : ℕ) (q : Place) → find place_cmp q (spanned span (places_of space start n)) ≡ cond (is_among space start n q) (Some (cond (same_place q (space, start)) span 0)) None
find-spanned span space start zero q = rw (among-none space start q) refl
find-spanned span space start (suc n) q = elim (split_place q (space, start)) [
  | inl one ↦
      let here : is_among space start (suc n) q ≡ true = rw one.0 (among-page space start (suc n) start (omega arith) (omega arith)) in
      rw (one.1, here) refl
  | inr two ↦
      rw (two.1, among-rest space start n q two.0)
      (find-spanned 0 space (start + 1) n q ∙ ap (λ (v : ℕ). cond (is_among space (start + 1) n q) (Some v) None) (both_zero (same_place q (space, start + 1))))
]
  where
    both_zero : (b : Bool) → ◌≡◌ {A = ℕ} (cond b 0 0) 0
    both_zero true = refl
    both_zero false = refl

-- how many pages the space has, of these offloads
abbrev count : ℕ → List ℕ → ℕ → ℕ
count k [] space = 0
count k (n ∷ spaces) space = if space == 65280 + k then n else count (k + 1) spaces space

count-below : (k : ℕ) (spaces : List ℕ) (space : ℕ) → space < 65280 + k → count k spaces space ≡ 0
count-below k [] space below = refl
count-below k (n ∷ spaces) space below =
    let other : (space == 65280 + k) ≡ false = grind (arith, nat_tests) in
    rw other (count-below (k + 1) spaces space (omega (arith, below)))

-- the row of a page of a space of n pages
abbrev row_at : ℕ → ℕ → Option ℕ
row_at n page = cond (leb 1 page && leb page n) (Some (cond (page == 1) n 0)) None

no_row : (page : ℕ) → row_at 0 page ≡ None
no_row page = let none : (leb 1 page && leb page 0) ≡ false = grind (arith, nat_tests) in ap (λ (b : Bool). cond b (Some (cond (page == 1) 0 0)) None) none

same_first : (q : Place) (space : ℕ) → q.0 ≡ space → same_place q (space, 1) ≡ (q.1 == 1)
same_first q space there = elim (split_place q (space, 1)) [
  | inl one ↦
      let first : q.1 ≡ 1 = ap (λ (p : Place). p.1) one.0 in
      let is : (q.1 == 1) ≡ true = grind (arith, nat_tests) in
      one.1 ∙ sym is
  | inr two ↦ elim (cases_Bool (q.1 == 1)) [
    | inl t ↦ let first : q.1 ≡ 1 = grind (arith, nat_tests) in absurd (two.0 (λ i. (there i, first i)))
    | inr f ↦ two.1 ∙ sym f
  ]
]

find-rows : (k : ℕ) (spaces : List ℕ) (q : Place) → find place_cmp q (rows_from k spaces) ≡ row_at (count k spaces q.0) q.1
find-rows k [] q = sym (no_row q.1)
find-rows k (n ∷ spaces) q =
    find-both (spanned n (places_of (65280 + k) 1 n)) (rows_from (k + 1) spaces) q
    ∙ ap (λ (o : Option ℕ). option_or o (find place_cmp q (rows_from (k + 1) spaces))) (find-spanned n (65280 + k) 1 n q)
    ∙ elim (cases_Bool (is_among (65280 + k) 1 n q)) [
      | inl is ↦
          let among = among-true (65280 + k) 1 n q is in
          let there = among.there in
          let low = among.low in
          let high = among.high in
          let space : (q.0 == 65280 + k) ≡ true = grind (arith, nat_tests) in
          let inside : (leb 1 q.1 && leb q.1 n) ≡ true = grind (arith, nat_tests) in
          let count_is : count k (n ∷ spaces) q.0 ≡ n = ap (λ (b : Bool). if b then n else count (k + 1) spaces q.0) space in
          ap (λ (b : Bool). option_or (cond b (Some (cond (same_place q (65280 + k, 1)) n 0)) None) (find place_cmp q (rows_from (k + 1) spaces))) is
          ∙ ap (λ (b : Bool). let o : Option ℕ = Some (cond b n 0) in o) (same_first q (65280 + k) there)
          ∙ sym (ap (λ (b : Bool). cond b (Some (cond (q.1 == 1) n 0)) None) inside)
          ∙ ap (λ (m : ℕ). row_at m q.1) (sym count_is)
      | inr isnt ↦
          ap (λ (b : Bool). option_or (cond b (Some (cond (same_place q (65280 + k, 1)) n 0)) None) (find place_cmp q (rows_from (k + 1) spaces))) isnt
          ∙ find-rows (k + 1) spaces q
          ∙ elim (cases_Bool (q.0 == 65280 + k)) [
            | inl same ↦
                let there : q.0 ≡ 65280 + k = grind (arith, nat_tests) in
                let outside : (leb 1 q.1 && leb q.1 n) ≡ false = grind (arith, nat_tests) in
                let count_is : count k (n ∷ spaces) q.0 ≡ n = ap (λ (b : Bool). if b then n else count (k + 1) spaces q.0) same in
                ap (λ (m : ℕ). row_at m q.1) (count-below (k + 1) spaces q.0 (omega (arith, there))) ∙ no_row q.1
                ∙ sym (ap (λ (b : Bool). cond b (Some (cond (q.1 == 1) n 0)) None) outside)
                ∙ ap (λ (m : ℕ). row_at m q.1) (sym count_is)
            | inr other ↦ ap (λ (m : ℕ). row_at m q.1) (sym (ap (λ (b : Bool). if b then n else count (k + 1) spaces q.0) other))
          ]
    ]

first_value : (n : ℕ) → value_of (row_at n 1) ≡ n
first_value n = elim (cases_Bool (leb 1 n)) [
  | inl t ↦ let inside : (leb 1 1 && leb 1 n) ≡ true = grind (arith, nat_tests) in ap (λ (b : Bool). value_of (cond b (Some (cond (1 == 1) n 0)) None)) inside
  | inr f ↦
      let outside : (leb 1 1 && leb 1 n) ≡ false = grind (arith, nat_tests) in
      let none : n ≡ 0 = grind (arith, nat_tests) in
      ap (λ (b : Bool). value_of (cond b (Some (cond (1 == 1) n 0)) None)) outside ∙ sym none
]

other_value : (n page : ℕ) → page ≢ 1 → value_of (row_at n page) ≡ 0
other_value n page other =
    let not_first : (page == 1) ≡ false = grind (arith, nat_tests) in
    ap (λ (b : Bool). value_of (cond (leb 1 page && leb page n) (Some (cond b n 0)) None)) not_first ∙ either (leb 1 page && leb page n)
  where
    either : (b : Bool) → value_of (cond b (Some 0) None) ≡ 0
    either true = refl
    either false = refl

some_row : (n page : ℕ) → is_some (row_at n page) ≡ (leb 1 page && leb page n)
some_row n page = by (leb 1 page && leb page n)
  where
    by : (b : Bool) → is_some (cond b (Some (cond (page == 1) n 0)) None) ≡ b
    by true = refl
    by false = refl

module _ (table : PageMap) (spaces : List ℕ) (is : table.entries ≡ numbered 0 (rows_from 0 spaces)) where
  span_is : (space page : ℕ) → span_at table (space, page) ≡ value_of (row_at (count 0 spaces space) page)
  span_is space page =
      ap (λ es. span_in (find place_cmp (space, page) es)) is ∙ span-numbered 0 (rows_from 0 spaces) (space, page) ∙ ap value_of (find-rows 0 spaces (space, page))

  some_is : (space page : ℕ) → is_some (entry_of table (space, page)) ≡ (leb 1 page && leb page (count 0 spaces space))
  some_is space page =
      ap (λ es. is_some (find place_cmp (space, page) es)) is ∙ some-numbered 0 (rows_from 0 spaces) (space, page)
      ∙ ap (λ (o : Option ℕ). is_some o) (find-rows 0 spaces (space, page)) ∙ some_row (count 0 spaces space) page

  -- a space has one range, and it begins with page 1
  starts : (space start page : ℕ) → IsIn table space start page → start ≡ 1
  starts space start page inside = elim (cases_eq start 1) [
    | inl same ↦ same
    | inr other ↦ absurd (omega (arith, inside.0, inside.1, span_is space start, other_value (count 0 spaces space) start other))
  ]

  first_span : (space : ℕ) → span_at table (space, 1) ≡ count 0 spaces space
  first_span space = span_is space 1 ∙ first_value (count 0 spaces space)

  pub ranges_laid : ((place : Place) → is_some (entry_of table place) ≡ true → place.1 < 65536) → AreRanges table
  ranges_laid good = record {
    covered = λ space page there.
        let n = count 0 spaces space in
        let inside : (leb 1 page && leb page n) ≡ true = sym (some_is space page) ∙ there in
        let low : 1 ≤ page = grind (arith, nat_tests) in
        let high : page ≤ n = grind (arith, nat_tests) in
        ∣ (1, (low, omega (arith, high, first_span space))) ∣₁;
    once = λ space a b page left right. starts space a page left ∙ sym (starts space b page right);
    mapped = λ space start page inside.
        let n = count 0 spaces space in
        let one : start ≡ 1 = starts space start page inside in
        let low : 1 ≤ page = omega (arith, inside.0, one) in
        let high : page ≤ n = omega (arith, inside.1, one, ap (λ m. span_at table (space, m)) one, first_span space) in
        let is : (leb 1 page && leb page n) ≡ true = grind (arith, nat_tests) in
        some_is space page ∙ is;
    within = λ space page there. good (space, page) there;
  }

-- ---- pages of offloads
-- each is in the space of an offload
abbrev pub AreHeld : List Place → Type 0
AreHeld [] = Unit {0}
AreHeld (place ∷ places) = (65279 < place.0) × AreHeld places

held_both : (ps qs : List Place) → AreHeld ps → AreHeld qs → AreHeld (ps ++ qs)
held_both [] qs left right = right
held_both (p ∷ ps) qs left right = (left.0, held_both ps qs left.1 right)

held_range : (space start n : ℕ) → 65279 < space → AreHeld (places_of space start n)
held_range space start zero high = tt
held_range space start (suc n) high = (high, held_range space (start + 1) n high)

are_held : (k : ℕ) (spaces : List ℕ) → AreHeld (held_places k spaces)
are_held k [] = tt
are_held k (n ∷ spaces) = held_both (places_of (65280 + k) 1 n) (held_places (k + 1) spaces) (held_range (65280 + k) 1 n (omega arith)) (are_held (k + 1) spaces)

no_process : (space : ℕ) → 65279 < space → is_process space ≡ false
no_process space high = grind (arith, nat_tests)

module _ {V : Type 0} where
  all_kept : (es : List (Place × V)) → AreHeld (keys es) → where_key place_cmp (λ place. not (is_process place.0)) es ≡ es
  all_kept [] held = refl
  all_kept (e ∷ es) held = rw (no_process e.0.0 held.0) (ap (λ l. e ∷ l) (all_kept es held.1))

  none_kept : (es : List (Place × V)) → AreHeld (keys es) → where_key place_cmp (λ place. is_process place.0) es ≡ []
  none_kept [] held = refl
  none_kept (e ∷ es) held = rw (no_process e.0.0 held.0) (none_kept es held.1)

pub held-map : (k : ℕ) (offloads : List OffloadConfig) → held_places k (map offload_pages offloads) ≡ held_from k offloads
held-map k [] = refl
held-map k (offload ∷ offloads) = ap (λ l. places_of (65280 + k) 1 (offload_pages offload) ++ l) (held-map (k + 1) offloads)

keys-zeroed : (ps : List Place) → keys (map (λ (place : Place). (place, zeroed_page)) ps) ≡ ps
keys-zeroed [] = refl
keys-zeroed (p ∷ ps) = ap (λ l. p ∷ l) (keys-zeroed ps)

ranges_held : (k : ℕ) (offloads : List OffloadConfig) → AreHeld (keys (ranges_from k offloads))
ranges_held k [] = tt
ranges_held k (offload ∷ offloads) = ((let high : 65279 < 65280 + k = omega arith in high), ranges_held (k + 1) offloads)

-- the memory at the opening is that of the flat machine
pub flat_opened : (c : NodeConfig) → flat_of (map empty_object c.offloads) (opened_memory c) ≡ opening c
flat_opened c =
    let pages = map (λ (place : Place). (place, zeroed_page)) (held_from 0 c.offloads) in
    let held : AreHeld (keys pages) = subst AreHeld (held-map 0 c.offloads ∙ sym (keys-zeroed (held_from 0 c.offloads))) (are_held 0 (map offload_pages c.offloads)) in
    λ i. record (opening c) {
      map = none_kept pages held i;
      ranges = none_kept (ranges_from 0 c.offloads) (ranges_held 0 c.offloads) i;
      held = (ap keys (all_kept pages held) ∙ keys-zeroed (held_from 0 c.offloads)) i;
    }

-- ---- what the entries mean
pages-numbered : (arena : List (List ℕ)) (first : ℕ) (rows : List SpannedPage) → ((frame : ℕ) → first ≤ frame → frame < first + length rows → arena_page arena frame ≡ fresh_bytes)
    → pages_in arena (numbered first rows) ≡ map (λ (place : Place). (place, zeroed_page)) (keys rows)
pages-numbered arena first [] zeros = refl
pages-numbered arena first (row ∷ rows) zeros =
    let here = zeros first (omega arith) (omega arith) in
    let rest = pages-numbered arena (first + 1) rows (λ frame low below. zeros frame (omega (arith, low)) (omega (arith, below))) in
    λ i. (row.0, record { perm = ReadWrite; bytes = Some (here i) }) ∷ rest i

-- the rows that begin a range
abbrev spans_of : List SpannedPage → List SpannedPage
spans_of [] = []
spans_of (row ∷ rows) = if row.1 == 0 then spans_of rows else row ∷ spans_of rows

spans-numbered : (first : ℕ) (rows : List SpannedPage) → spans_in (numbered first rows) ≡ spans_of rows
spans-numbered first [] = refl
spans-numbered first (row ∷ rows) = elim (cases_Bool (row.1 == 0)) [ inl t ↦ rw t (spans-numbered (first + 1) rows) | inr f ↦ rw f (ap (λ l. row ∷ l) (spans-numbered (first + 1) rows)) ]

spans-both : (xs ys : List SpannedPage) → spans_of (xs ++ ys) ≡ spans_of xs ++ spans_of ys
spans-both [] ys = refl
spans-both (x ∷ xs) ys = elim (cases_Bool (x.1 == 0)) [ inl t ↦ rw t (spans-both xs ys) | inr f ↦ rw f (ap (λ l. x ∷ l) (spans-both xs ys)) ]

spans_rest : (ps : List Place) → spans_of (spanned 0 ps) ≡ []
spans_rest [] = refl
spans_rest (p ∷ ps) = spans_rest ps

spans_range : (space n : ℕ) → 0 < n → spans_of (spanned n (places_of space 1 n)) ≡ ((space, 1), n) ∷ []
spans_range space zero some = absurd (omega (arith, some))
spans_range space (suc n) some =
    let not_zero : (suc n == 0) ≡ false = grind (arith, nat_tests) in
    rw not_zero (ap (λ l. ((space, 1), suc n) ∷ l) (spans_rest (places_of space 2 n)))

some_pages : (offload : OffloadConfig) → 0 < offload_pages offload
some_pages (Kv records) = omega arith

spans-rows : (k : ℕ) (offloads : List OffloadConfig) → spans_of (rows_from k (map offload_pages offloads)) ≡ ranges_from k offloads
spans-rows k [] = refl
spans-rows k (offload ∷ offloads) =
    let n = offload_pages offload in
    spans-both (spanned n (places_of (65280 + k) 1 n)) (rows_from (k + 1) (map offload_pages offloads))
    ∙ (λ i. spans_range (65280 + k) n (some_pages offload) i ++ spans-rows (k + 1) offloads i)

-- ---- the store whose offloads are mapped
module _ (s : PageStore) (laid : IsLaid s) (rows : rows_of s.table.entries ≡ rows_from 0 s.spaces) where
  entries_are : s.table.entries ≡ numbered 0 (rows_from 0 s.spaces)
  entries_are = laid.entries ∙ ap (numbered 0) rows

  keys_are : keys s.table.entries ≡ held_places 0 s.spaces
  keys_are = sym (keys-rows s.table.entries) ∙ ap keys rows ∙ keys-rows_from 0 s.spaces

  long : length (rows_from 0 s.spaces) ≡ length s.table.entries
  long = sym (ap length rows) ∙ length-map s.table.entries (λ (e : Place × Pte). (e.0, e.1.span))

  named : (place : Place) (frame : ℕ) → frame_at s.table place ≡ Some frame → NamedRow 0 (rows_from 0 s.spaces) place frame
  named place frame is = named_row 0 (rows_from 0 s.spaces) place frame (ap (λ es. frame_in (find place_cmp place es)) (sym entries_are) ∙ is)

  below : (place : Place) (frame : ℕ) → frame_at s.table place ≡ Some frame → frame < length s.table.entries
  below place frame is = omega (arith, (named place frame is).below, long)

  free_count : length (free_list s.pool) ≡ s.pool.pages - length s.table.entries
  free_count = ap length laid.free ∙ length-range_with_len (length s.table.entries) (s.pool.pages - length s.table.entries)

  fit : IsFit s
  fit = record {
    valid = laid.valid;
    ranges = ranges_laid s.table s.spaces entries_are laid.within;
    taken = record {
      taken = λ place frame is. record {
        in_range = omega (arith, below place frame is, laid.enough);
        not_free = ap (λ l. has l frame) laid.free ∙ has-range (length s.table.entries) (s.pool.pages - length s.table.entries) frame (below place frame is);
      };
      once = λ p q frame left right. let both : Some p ≡ Some q = sym (named p frame left).at ∙ (named q frame right).at in cc;
    };
    named = omega (
      arith,
      ap backed entries_are ∙ backed-numbered 0 (rows_from 0 s.spaces),
      long,
      free_count,
      laid.enough,
      length-append s.pool.ring (s.pool.clean ++ s.pool.dirty),
      length-append s.pool.clean s.pool.dirty,
    );
    arena = laid.arena;
    sized = λ place frame is. ap length (laid.zeroed frame (below place frame is)) ∙ length_fresh;
    zero = laid.zero;
    cached = λ place pte noted. absurd (let none : cached_entry s.cache place ≡ None = ap (λ (c : Cached). lookup (is_place place) c.entries) laid.uncached in let both = sym none ∙ noted in cc);
  }

  -- no entry is a process's
  only_offloads : where_key place_cmp (λ place. not (is_process place.0)) s.table.entries ≡ s.table.entries
  only_offloads = all_kept s.table.entries (subst AreHeld (sym keys_are) (are_held 0 s.spaces))

  no_entry : (q : Place) → is_process q.0 ≡ true → entry_of s.table q ≡ None
  no_entry q process =
      ap (find place_cmp q) (sym only_offloads)
      ∙ find-where_key place_cmp (λ place. not (is_process place.0)) q (λ x equal. ap (λ (y : Place). not (is_process y.0)) (sym (place_exact q x equal))) s.table.entries
      ∙ rw process refl

  none_begins : (space start : ℕ) → is_process space ≡ true → find place_cmp (space, start) (spans_in s.table.entries) ≡ None
  none_begins space start process =
      find-spans_in s.table.entries (space, start) (sorted_table s.table laid.valid) ∙ ap span_of (no_entry (space, start) process)

  pub whole_laid : IsWhole s
  whole_laid = record {
    fit = fit;
    keys = ap keys only_offloads ∙ keys_are;
    held = λ place pte offload there. has_frame 0 (rows_from 0 s.spaces) place pte (ap (find place_cmp place) (sym entries_are) ∙ there);
    listed = listed_others s.ranges (spans_in s.table.entries) s.table.buckets laid.unlisted none_begins;
  }

  pub memory_laid : (c : NodeConfig) → s.spaces ≡ map offload_pages c.offloads → s.table.buckets ≡ c.buckets → s.pool.pages ≡ c.pages → memory_of s ≡ opened_memory c
  memory_laid c spaces buckets pages =
      let zeros : (frame : ℕ) → 0 ≤ frame → frame < 0 + length (rows_from 0 s.spaces) → arena_page s.arena frame ≡ fresh_bytes = λ frame low high. laid.zeroed frame (omega (arith, high, long)) in
      let pages_are : pages_in s.arena s.table.entries ≡ map (λ (place : Place). (place, zeroed_page)) (held_from 0 c.offloads) =
      ap (pages_in s.arena) entries_are ∙ pages-numbered s.arena 0 (rows_from 0 s.spaces) zeros
      ∙ ap (map (λ (place : Place). (place, zeroed_page))) (keys-rows_from 0 s.spaces ∙ ap (held_places 0) spaces ∙ held-map 0 c.offloads) in
      let ranges_are : spans_in s.table.entries ≡ ranges_from 0 c.offloads =
      ap spans_in entries_are ∙ spans-numbered 0 (rows_from 0 s.spaces) ∙ ap (λ ns. spans_of (rows_from 0 ns)) spaces ∙ spans-rows 0 c.offloads in
      λ i. record (opened_memory c) { map = pages_are i; ranges = ranges_are i; pages = pages i; buckets = buckets i }
