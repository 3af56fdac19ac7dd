-- Pages that are mapped one behind the other, each with the next frame.
use Rattle.std.proofs.Common.{◌≡◌, ◌≢◌, ℕ, zero, suc, ◌+◌, ◌-◌, ◌*◌, ◌<◌, ◌≤◌, ◌==◌, nat_lt, if◌then◌else◌, Bool, true, false, cond, inl, inr, is_some, List, [], ◌∷◌, ◌++◌, length, length-append, append_assoc, append-nil, replicate, min, Some, None, refl, sym, ap, ◌∙◌, subst, arith}
use Rattle.std.specs.Cmp.{nat_cmp_is}
use Rattle.std.specs.List.{range_with_len}
use Rattle.std.specs.Ordering.{nat_cmp, ordering_then, is_eq}
use Rattle.std.specs.declared.cmp.Ordering.TheVariants.{Equal, Greater}
use Rattle.std.specs.FinMap.Entries.{find, put, by_order}
use Rattle.std.proofs.lemmas.Bool.{cases_Bool}
use Rattle.std.proofs.lemmas.Bool.Decides.{nat_tests}
use Rattle.std.proofs.lemmas.List.{length-map, length-replicate}
use Rattle.std.proofs.lemmas.List.FromFn.{length-range_with_len}
use Rattle.std.proofs.lemmas.List.Sums.{sum_by-append, sum_by-cons}
use Rattle.cl_types.specs.declared.call.Perm.TheVariants.{ReadWrite}
use Rattle.cl_types.specs.declared.numbers.PageNo.{PageNo}
use Rattle.cl_types.specs.declared.page.Pte.{Pte}
use Rattle.cl_types.specs.Bytes.{fresh_bytes}
use Rattle.cl_types.specs.Places.{Place, place_cmp, home_of, homes_at}
use Rattle.cl_types.proofs.PlaceLemmas.{split_place}
use Rattle.hash_buckets.specs.PageMap.{PageMap, entry_of, with_entry, load, IsValid}
use Rattle.index_lists.specs.NodeLists.{has}
use Rattle.page_arena.specs.Arena.{page_at, zero_page}
use Rattle.page_pool.specs.PoolPages.{PoolPages, free_list, free_pages, moved, AreZero, IsPartition, IsReady}
use Rattle.page_pool.proofs.Zeros.{AreZero-new}
use Rattle.flat_model.specs.Rows.{keys, AreFourAtMost}
use Rattle.flat_model.specs.State.{places_of}
use Rattle.range_alloc.proofs.Entries.{entry-with}
use Rattle.translate_cache.specs.Cached.{Cached}
use Rattle.data_path.specs.declared.store.PageStore.{PageStore}
use Rattle.range_alloc.specs.RangeSets.{RangeSets, ranges_in}
use Rattle.range_alloc.specs.declared.lists.TheConstants.{SPACES}
use Rattle.data_path.specs.Listing.{AreListed}
use Rattle.data_path.specs.Store.{held_places, no_entries}
use Rattle.data_path.proofs.Listing.{listed_none}
use Rattle.data_path.specs.Laying.{SpannedPage, rows_of, spanned, rows_from, numbered, IsBehind, IsLaid}
use Rattle.flat_model.proofs.FitLemmas.{range_next}
use Rattle.page_pool.proofs.Filling.{range_append}

-- ---- numbers one after another
-- a number below them is none of them
pub has-range : (t n page : ℕ) → page < t → has (range_with_len t n) page ≡ false
has-range t zero page below = refl
has-range t (suc n) page below =
    let other : (page == t) ≡ false = grind (arith, nat_tests) in
    rw other (has-range (t + 1) n page (omega (arith, below)))

first_same : (x y : ℕ) (xs ys : List ℕ) → x ∷ xs ≡ y ∷ ys → x ≡ y
first_same x y xs ys same = cc

rest_same : (x y : ℕ) (xs ys : List ℕ) → x ∷ xs ≡ y ∷ ys → xs ≡ ys
rest_same x y xs ys same = cc

-- the pages of a space, a page among them, and those behind it
places_split : (space start i n : ℕ) → i < n → places_of space start n ≡ places_of space start i ++ (space, start + i) ∷ places_of space (start + (i + 1)) (n - (i + 1))
places_split space start i zero inside = absurd (omega (arith, inside))
places_split space start zero (suc n) inside =
    λ k. (space, (let e : start ≡ start + 0 = omega arith in e) k) ∷ places_of space ((let e : start + 1 ≡ start + (0 + 1) = omega arith in e) k) ((let e : n ≡ suc n - (0 + 1) = omega arith in e) k)
places_split space start (suc i) (suc n) inside =
    ap (λ l. (space, start) ∷ l) (places_split space (start + 1) i n (omega (arith, inside)))
    ∙ (λ k. (space, start) ∷ (places_of space (start + 1) i ++ (space, (let e : (start + 1) + i ≡ start + suc i = omega arith in e) k) ∷ places_of space ((let e : (start + 1) + (i + 1) ≡ start + (suc i + 1) = omega arith in e) k) ((let e : n - (i + 1) ≡ suc n - (suc i + 1) = omega arith in e) k)))

places_next : (space start i : ℕ) → places_of space start (i + 1) ≡ places_of space start i ++ (space, start + i) ∷ []
places_next space start i =
    places_split space start i (i + 1) (omega arith)
    ∙ ap (λ n. places_of space start i ++ (space, start + i) ∷ places_of space (start + (i + 1)) n) (let e : (i + 1) - (i + 1) ≡ 0 = omega arith in e)

-- ---- rows
pub rows-numbered : (frame : ℕ) (rows : List SpannedPage) → rows_of (numbered frame rows) ≡ rows
rows-numbered frame [] = refl
rows-numbered frame (row ∷ rows) = ap (λ l. row ∷ l) (rows-numbered (frame + 1) rows)

rows-push : (es : List (Place × Pte)) (e : Place × Pte) → rows_of (es ++ e ∷ []) ≡ rows_of es ++ (e.0, e.1.span) ∷ []
rows-push [] e = refl
rows-push (x ∷ es) e = ap (λ l. (x.0, x.1.span) ∷ l) (rows-push es e)

pub keys-rows : (es : List (Place × Pte)) → keys (rows_of es) ≡ keys es
keys-rows [] = refl
keys-rows (e ∷ es) = ap (λ l. e.0 ∷ l) (keys-rows es)

pub keys-append : {V : Type 0} (xs ys : List (Place × V)) → keys (xs ++ ys) ≡ keys xs ++ keys ys
keys-append [] ys = refl
keys-append (x ∷ xs) ys = ap (λ l. x.0 ∷ l) (keys-append xs ys)

pub keys-spanned : (span : ℕ) (ps : List Place) → keys (spanned span ps) ≡ ps
keys-spanned span [] = refl
keys-spanned span (p ∷ ps) = ap (λ l. p ∷ l) (keys-spanned 0 ps)

pub keys-rows_from : (k : ℕ) (spaces : List ℕ) → keys (rows_from k spaces) ≡ held_places k spaces
keys-rows_from k [] = refl
keys-rows_from k (n ∷ spaces) =
    keys-append (spanned n (places_of (65280 + k) 1 n)) (rows_from (k + 1) spaces)
    ∙ (λ i. keys-spanned n (places_of (65280 + k) 1 n) i ++ keys-rows_from (k + 1) spaces i)

-- a page and its frame
abbrev pub entry_for : ℕ → SpannedPage → Place × Pte
entry_for frame row = (row.0, record { frame = Some (record { 0 = frame }); perm = ReadWrite; span = row.1 })

numbered-push : (frame : ℕ) (rows : List SpannedPage) (row : SpannedPage) → numbered frame (rows ++ row ∷ []) ≡ numbered frame rows ++ entry_for (frame + length rows) row ∷ []
numbered-push frame [] row = ap (λ n. entry_for n row ∷ []) (let e : frame ≡ frame + 0 = omega arith in e)
numbered-push frame (r ∷ rows) row =
    ap (λ l. entry_for frame r ∷ l) (numbered-push (frame + 1) rows row ∙ ap (λ n. numbered (frame + 1) rows ++ entry_for n row ∷ []) (let e : (frame + 1) + length rows ≡ frame + suc (length rows) = omega arith in e))

-- the rows of a range, one more
spanned-rest : (ps : List Place) (p : Place) → spanned 0 ps ++ (p, 0) ∷ [] ≡ spanned 0 (ps ++ p ∷ [])
spanned-rest [] p = refl
spanned-rest (x ∷ ps) p = ap (λ l. (x, 0) ∷ l) (spanned-rest ps p)

spanned-next : (n space i span : ℕ) → span ≡ (if i == 0 then n else 0) → spanned n (places_of space 1 i) ++ ((space, i + 1), span) ∷ [] ≡ spanned n (places_of space 1 (i + 1))
spanned-next n space zero span is = ap (λ s. ((space, 1), s) ∷ []) is
spanned-next n space (suc i) span is =
    let behind : places_of space 2 i ++ (space, suc i + 1) ∷ [] ≡ places_of space 2 (i + 1) = ap (λ k. places_of space 2 i ++ (space, k) ∷ []) (let e : suc i + 1 ≡ 2 + i = omega arith in e) ∙ sym (places_next space 2 i) in
    let zero : span ≡ 0 = is ∙ (let no : (suc i == 0) ≡ false = grind (arith, nat_tests) in ap (λ (b : Bool). if b then n else 0) no) in
    ap (λ s. ((space, 1), n) ∷ (spanned 0 (places_of space 2 i) ++ ((space, suc i + 1), s) ∷ [])) zero
    ∙ ap (λ l. ((space, 1), n) ∷ l) (spanned-rest (places_of space 2 i) (space, suc i + 1) ∙ ap (spanned 0) behind)
    ∙ ap (λ m. spanned n (places_of space 1 m)) (let e : suc (i + 1) ≡ suc i + 1 = omega arith in e)

-- one offload more
pub rows-more : (k : ℕ) (spaces : List ℕ) (n : ℕ) → rows_from k (spaces ++ n ∷ []) ≡ rows_from k spaces ++ spanned n (places_of (65280 + (k + length spaces)) 1 n)
rows-more k [] n = append-nil (spanned n (places_of (65280 + k) 1 n)) ∙ ap (λ m. spanned n (places_of (65280 + m) 1 n)) (let e : k ≡ k + 0 = omega arith in e)
rows-more k (x ∷ spaces) n =
    ap (λ l. spanned x (places_of (65280 + k) 1 x) ++ l) (rows-more (k + 1) spaces n)
    ∙ sym (append_assoc (spanned x (places_of (65280 + k) 1 x)) (rows_from (k + 1) spaces) (spanned n (places_of (65280 + ((k + 1) + length spaces)) 1 n)))
    ∙ ap (λ m. (spanned x (places_of (65280 + k) 1 x) ++ rows_from (k + 1) spaces) ++ spanned n (places_of (65280 + m) 1 n)) (let e : (k + 1) + length spaces ≡ k + suc (length spaces) = omega arith in e)

pub held-more : (k : ℕ) (spaces : List ℕ) (n : ℕ) → held_places k (spaces ++ n ∷ []) ≡ held_places k spaces ++ places_of (65280 + (k + length spaces)) 1 n
held-more k spaces n =
    sym (keys-rows_from k (spaces ++ n ∷ [])) ∙ ap keys (rows-more k spaces n)
    ∙ keys-append (rows_from k spaces) (spanned n (places_of (65280 + (k + length spaces)) 1 n))
    ∙ (λ i. keys-rows_from k spaces i ++ keys-spanned n (places_of (65280 + (k + length spaces)) 1 n) i)

-- ---- a page behind others
behind_space : (a b : Place) → b.0 < a.0 → place_cmp a b ≡ Greater
behind_space a b below = ap (λ o. ordering_then o (nat_cmp a.1 b.1)) (sym (nat_cmp_is a.0 b.0 Greater below))

behind_page : (a b : Place) → a.0 ≡ b.0 → b.1 < a.1 → place_cmp a b ≡ Greater
behind_page a b same below = ap (λ o. ordering_then o (nat_cmp a.1 b.1)) (sym (nat_cmp_is a.0 b.0 Equal same)) ∙ sym (nat_cmp_is a.1 b.1 Greater below)

behind_both : (place : Place) (ps qs : List Place) → IsBehind place ps → IsBehind place qs → IsBehind place (ps ++ qs)
behind_both place [] qs left right = right
behind_both place (p ∷ ps) qs left right = (left.0, behind_both place ps qs left.1 right)

behind_range : (place : Place) (space start n : ℕ) → space < place.0 → IsBehind place (places_of space start n)
behind_range place space start zero below = tt
behind_range place space start (suc n) below = (behind_space place (space, start) below, behind_range place space (start + 1) n below)

behind_start : (space page start n : ℕ) → start + n ≤ page → IsBehind (space, page) (places_of space start n)
behind_start space page start zero below = tt
behind_start space page start (suc n) below = (behind_page (space, page) (space, start) refl (omega (arith, below)), behind_start space page (start + 1) n (omega (arith, below)))

behind_held : (place : Place) (k : ℕ) (spaces : List ℕ) → 65280 + (k + length spaces) ≤ place.0 → IsBehind place (held_places k spaces)
behind_held place k [] below = tt
behind_held place k (n ∷ spaces) below =
    behind_both place (places_of (65280 + k) 1 n) (held_places (k + 1) spaces) (behind_range place (65280 + k) 1 n (omega (arith, below))) (behind_held place (k + 1) spaces (omega (arith, below)))

pub absent_behind : (place : Place) (es : List (Place × Pte)) → IsBehind place (keys es) → find place_cmp place es ≡ None
absent_behind place [] behind = refl
absent_behind place (e ∷ es) behind = ap (λ o. cond (is_eq o) (Some e.1) (find place_cmp place es)) behind.0 ∙ absent_behind place es behind.1

put_behind : (place : Place) (pte : Pte) (es : List (Place × Pte)) → IsBehind place (keys es) → put place_cmp place pte es ≡ es ++ (place, pte) ∷ []
put_behind place pte [] behind = refl
put_behind place pte (e ∷ es) behind =
    ap (λ o. by_order o ((place, pte) ∷ e ∷ es) ((e.0, pte) ∷ es) (e ∷ put place_cmp place pte es)) behind.0 ∙ ap (λ l. e ∷ l) (put_behind place pte es behind.1)

-- ---- one page more
-- a refill leaves the room of the ring
pub capacity_stays : (pool : PoolPages) → (moved pool).capacity ≡ pool.capacity
capacity_stays pool = either (nat_lt (length pool.ring) pool.capacity) refl pool.clean pool.dirty
  where
    either : (space : Bool) → nat_lt (length pool.ring) pool.capacity ≡ space → (clean dirty : List ℕ) → (moved (record pool { clean = clean; dirty = dirty })).capacity ≡ pool.capacity
    either true is [] [] = rw is refl
    either true is [] (page ∷ dirty) = rw is refl
    either true is (page ∷ clean) dirty = rw is refl
    either false is clean dirty = rw is refl

-- the pages that aren't taken, where so many have the first frames
pub has_free : (s : PageStore) → IsLaid s → length s.table.entries < s.pool.pages → 0 < free_pages s.pool
has_free s laid less =
    omega (arith, less, ap length laid.free, length-range_with_len (length s.table.entries) (s.pool.pages - length s.table.entries), length-append s.pool.ring (s.pool.clean ++ s.pool.dirty), length-append s.pool.clean s.pool.dirty)

module _ (s : PageStore) (place : Place) (span : ℕ) (frame : PageNo) (table : PageMap) (pool : PoolPages) (arena : List (List ℕ)) where
  abbrev pub placed_entry : Pte
  placed_entry = record { frame = Some frame; perm = ReadWrite; span = span }

  -- what the calls of the parts gave
  pub record Placed : Type 0 where
    pub laid : IsLaid s
    pub behind : IsBehind place (keys s.table.entries)
    pub less : length s.table.entries < s.pool.pages
    pub good : place.1 < 65536
    pub front : free_list s.pool ≡ frame.0 ∷ free_list pool
    pub kept : pool.pages ≡ s.pool.pages
    pub ready : IsReady pool
    pub long : length arena ≡ length s.arena
    pub zero : AreZero arena (pool.ring ++ pool.clean)
    pub zeros : page_at arena frame.0 ≡ fresh_bytes
    pub others : (page : ℕ) → has (free_list s.pool) page ≡ false → page_at arena page ≡ page_at s.arena page
    pub is : table ≡ with_entry s.table place placed_entry
    pub valid : IsValid table

  module _ (p : Placed) where
    count : ℕ
    count = length s.table.entries

    entries_are : table.entries ≡ s.table.entries ++ (place, placed_entry) ∷ []
    entries_are = ap (λ (t : PageMap). t.entries) p.is ∙ put_behind place placed_entry s.table.entries p.behind

    one_more : length table.entries ≡ length s.table.entries + 1
    one_more = ap length entries_are ∙ length-append s.table.entries ((place, placed_entry) ∷ [])

    free_now : length s.table.entries ∷ range_with_len (length s.table.entries + 1) (s.pool.pages - length s.table.entries - 1) ≡ frame.0 ∷ free_list pool
    free_now = sym (range_next (length s.table.entries) (s.pool.pages - length s.table.entries) (omega (arith, p.less))) ∙ sym p.laid.free ∙ p.front

    frame_is : frame.0 ≡ length s.table.entries
    frame_is = sym (first_same _ _ _ _ free_now)

    free_left : free_list pool ≡ range_with_len (length table.entries) (pool.pages - length table.entries)
    free_left =
        sym (rest_same _ _ _ _ free_now)
        ∙ (λ i. range_with_len (sym one_more i) ((let e : s.pool.pages - length s.table.entries - 1 ≡ pool.pages - length table.entries = omega (arith, one_more, p.kept) in e) i))

    pub rows_placed : rows_of table.entries ≡ rows_of s.table.entries ++ (place, span) ∷ []
    rows_placed = ap rows_of entries_are ∙ rows-push s.table.entries (place, placed_entry)

    long_rows : length (rows_of s.table.entries) ≡ length s.table.entries
    long_rows = length-map s.table.entries (λ (e : Place × Pte). (e.0, e.1.span))

    entry_is : (place, placed_entry) ≡ entry_for (0 + length (rows_of s.table.entries)) (place, span)
    entry_is = λ i. (place, record { frame = Some (record { 0 = (let e : frame.0 ≡ 0 + length (rows_of s.table.entries) = omega (arith, frame_is, long_rows) in e) i }); perm = ReadWrite; span = span })

    same_entries_placed : table.entries ≡ numbered 0 (rows_of table.entries)
    same_entries_placed =
        entries_are ∙ (λ i. p.laid.entries i ++ entry_is i ∷ [])
        ∙ sym (numbered-push 0 (rows_of s.table.entries) (place, span)) ∙ ap (numbered 0) (sym rows_placed)

    pub laid_placed : IsLaid (record s { table = table; pool = pool; arena = arena })
    laid_placed = record {
      valid = p.valid;
      entries = same_entries_placed;
      enough = omega (arith, one_more, p.less, p.kept);
      free = free_left;
      ready = p.ready;
      arena = p.long ∙ p.laid.arena ∙ sym p.kept;
      zero = p.zero;
      zeroed = λ n below. elim (cases_Bool (n == length s.table.entries)) [
        | inl t ↦ let same : n ≡ frame.0 = (let e : n ≡ length s.table.entries = grind (arith, nat_tests) in e ∙ sym frame_is) in ap (page_at arena) same ∙ p.zeros
        | inr f ↦
            let other : n ≢ length s.table.entries = (let e : n ≢ length s.table.entries = grind (arith, nat_tests) in e) in
            let before : n < length s.table.entries = omega (arith, below, one_more, other) in
            p.others n (ap (λ l. has l n) p.laid.free ∙ has-range (length s.table.entries) (s.pool.pages - length s.table.entries) n before) ∙ p.laid.zeroed n before
      ];
      within = λ q there. elim (split_place q place) [
        | inl t ↦ let same : q.1 ≡ place.1 = ap (λ (x : Place). x.1) t.0 in omega (arith, same, p.good)
        | inr n ↦ p.laid.within q (sym (ap is_some (ap (λ (t : PageMap). entry_of t q) p.is ∙ entry-with s.table place placed_entry q ∙ rw n.1 refl)) ∙ there)
      ];
      uncached = p.laid.uncached;
      unlisted = subst (AreListed s.ranges []) (sym (ap (λ (t : PageMap). t.buckets) p.is)) p.laid.unlisted;
    }

-- ---- the pages of one offload, so many of them
module _ (s : PageStore) (spaces : List ℕ) (space n i : ℕ) where
  -- the pages of these offloads are mapped, and then i of the n pages of the next
  pub record Between : Type 0 where
    pub rows : rows_of s.table.entries ≡ rows_from 0 spaces ++ spanned n (places_of space 1 i)
    pub there : space ≡ 65280 + length spaces
    pub next : i < n

  module _ (b : Between) where
    keys_are : keys s.table.entries ≡ held_places 0 spaces ++ places_of space 1 i
    keys_are =
        sym (keys-rows s.table.entries) ∙ ap keys b.rows ∙ keys-append (rows_from 0 spaces) (spanned n (places_of space 1 i))
        ∙ (λ k. keys-rows_from 0 spaces k ++ keys-spanned n (places_of space 1 i) k)

    pub behind_next : IsBehind (space, i + 1) (keys s.table.entries)
    behind_next =
        subst (IsBehind (space, i + 1)) (sym keys_are)
        (behind_both (space, i + 1) (held_places 0 spaces) (places_of space 1 i) (behind_held (space, i + 1) 0 spaces (omega (arith, b.there))) (behind_start space (i + 1) 1 i (omega arith)))

    abbrev rest : List Place
    rest = places_of space (1 + (i + 1)) (n - (i + 1))

    all_places : held_places 0 (spaces ++ n ∷ []) ≡ keys s.table.entries ++ (space, i + 1) ∷ places_of space (1 + (i + 1)) (n - (i + 1))
    all_places =
        held-more 0 spaces n
        ∙ ap (λ m. held_places 0 spaces ++ places_of m 1 n) (let e : 65280 + (0 + length spaces) ≡ space = omega (arith, b.there) in e)
        ∙ ap (λ l. held_places 0 spaces ++ l) (places_split space 1 i n b.next)
        ∙ (λ k. held_places 0 spaces ++ (places_of space 1 i ++ (space, (let e : 1 + i ≡ i + 1 = omega arith in e) k) ∷ rest))
        ∙ sym (append_assoc (held_places 0 spaces) (places_of space 1 i) ((space, i + 1) ∷ rest))
        ∙ ap (λ l. l ++ (space, i + 1) ∷ rest) (sym keys_are)

    pub room_next : (buckets : ℕ) → s.table.buckets ≡ buckets → AreFourAtMost buckets (held_places 0 (spaces ++ n ∷ [])) → load s.table (home_of s.table.buckets (space, i + 1)) < 4
    room_next buckets same four =
        let home = home_of s.table.buckets (space, i + 1) in
        let one : Place → ℕ = λ place. cond (home_of s.table.buckets place == home) 1 0 in
        let all : homes_at s.table.buckets home (held_places 0 (spaces ++ n ∷ [])) ≤ 4 = subst (λ (m : ℕ). AreFourAtMost m (held_places 0 (spaces ++ n ∷ []))) (sym same) four home in
        let self : (home == home) ≡ true = grind (arith, nat_tests) in
        let here : one (space, i + 1) ≡ 1 = ap (λ (b : Bool). cond b 1 0) self in
        omega (
          arith,
          all,
          here,
          ap (homes_at s.table.buckets home) all_places,
          sum_by-append one (keys s.table.entries) ((space, i + 1) ∷ rest),
          sum_by-cons one (space, i + 1) rest,
        )

    pub free_next : (pages : ℕ) → s.pool.pages ≡ pages → length (held_places 0 (spaces ++ n ∷ [])) ≤ pages → length s.table.entries < s.pool.pages
    free_next pages same enough =
        let count : length (keys s.table.entries) ≡ length s.table.entries = length-map s.table.entries (λ (e : Place × Pte). e.0) in
        omega (arith, enough, same, count, ap length all_places, length-append (keys s.table.entries) ((space, i + 1) ∷ rest))

    pub rows_next : (new : List SpannedPage) (span : ℕ) → span ≡ (if i == 0 then n else 0) → new ≡ rows_of s.table.entries ++ ((space, i + 1), span) ∷ []
        → new ≡ rows_from 0 spaces ++ spanned n (places_of space 1 (i + 1))
    rows_next new span first is =
        is ∙ ap (λ l. l ++ ((space, i + 1), span) ∷ []) b.rows
        ∙ append_assoc (rows_from 0 spaces) (spanned n (places_of space 1 i)) (((space, i + 1), span) ∷ [])
        ∙ ap (λ l. rows_from 0 spaces ++ l) (spanned-next n space i span first)

-- the pages of one offload more are mapped
pub rows_all : (spaces new : List ℕ) (space n i : ℕ) (rows : List SpannedPage) → i ≡ n → space ≡ 65280 + length spaces → new ≡ spaces ++ n ∷ [] → rows ≡ rows_from 0 spaces ++ spanned n (places_of space 1 i) → rows ≡ rows_from 0 new
rows_all spaces new space n i rows all there is mapped =
    mapped ∙ (λ k. rows_from 0 spaces ++ spanned n (places_of ((let e : space ≡ 65280 + (0 + length spaces) = omega (arith, there) in e) k) 1 (all k)))
    ∙ sym (rows-more 0 spaces n) ∙ ap (rows_from 0) (sym is)

-- ---- no page is mapped
module _ (table : PageMap) (pool : PoolPages) (arena : List (List ℕ)) (cache : Cached) (spaces : List ℕ) (lists : RangeSets) (buckets pages ring : ℕ) where
  pub record Made : Type 0 where
    pub table_is : table ≡ record { buckets = buckets; entries = [] }
    pub valid : IsValid table
    pub pool_is : pool ≡ record { pages = pages; capacity = ring; ring = range_with_len 0 (min pages ring); clean = range_with_len (min pages ring) (pages - ring); dirty = [] }
    pub parted : IsPartition pool
    pub ready : IsReady pool
    pub arena_is : arena ≡ replicate pages zero_page
    pub cache_is : cache ≡ no_entries
    pub count : lists.count ≡ 0
    pub nodes : lists.nodes ≡ 4 * table.buckets
    pub empty : (space : ℕ) → space < SPACES → ranges_in lists space ≡ []

  module _ (m : Made) where
    none : table.entries ≡ []
    none = ap (λ (t : PageMap). t.entries) m.table_is

    counted : pool.pages ≡ pages
    counted = ap (λ (v : PoolPages). v.pages) m.pool_is

    all_free : free_list pool ≡ range_with_len 0 pages
    all_free =
        let first = min pages ring in
        ap free_list m.pool_is
        ∙ ap (λ l. range_with_len 0 first ++ l) (append-nil (range_with_len first (pages - ring)))
        ∙ ap (λ n. range_with_len 0 first ++ range_with_len n (pages - ring)) (let e : first ≡ 0 + first = omega arith in e)
        ∙ range_append 0 first (pages - ring) ∙ ap (range_with_len 0) (let e : min pages ring + (pages - ring) ≡ pages = omega arith in e)

    pub laid_made : IsLaid (record { table = table; pool = pool; arena = arena; cache = cache; spaces = spaces; ranges = lists })
    laid_made = record {
      valid = m.valid;
      entries = none ∙ sym (ap (λ es. numbered 0 (rows_of es)) none);
      enough = omega (arith, ap length none);
      free = all_free ∙ (λ i. range_with_len ((let e : 0 ≡ length table.entries = omega (arith, ap length none) in e) i) ((let e : pages ≡ pool.pages - length table.entries = omega (arith, counted, ap length none) in e) i));
      ready = m.ready;
      arena = ap length m.arena_is ∙ length-replicate pages zero_page ∙ sym counted;
      zero = AreZero-new pool m.parted arena (m.arena_is ∙ ap (λ (n : ℕ). replicate n zero_page) (sym counted));
      zeroed = λ frame below. absurd (omega (arith, below, ap length none));
      within = λ place there. absurd (let isnt : entry_of table place ≡ None = ap (find place_cmp place) none in let both = rw isnt at there in cc);
      uncached = m.cache_is;
      unlisted = listed_none lists [] table.buckets m.count m.nodes m.empty (λ space start process. refl);
    }
