-- The law of locks: a word that is 1 stays 1 until it is released, and then no Lock takes it.
use Rattle.std.proofs.Common.{◌≡◌, ℕ, ◌+◌, ◌/◌, ◌%◌, ◌<◌, ◌≤◌, ◌==◌, Bool, true, false, cond, List, [], ◌∷◌, ◌++◌, refl, sym, ap, ◌∙◌, subst, Option, Some, None, Ok, Err, length, arith, ◌⊎◌, inl, inr, ⊎_elim}
use Rattle.std.specs.Prelude.{◌&&◌, ◌||◌, ◌^◌, not, leb, nat_lt, is_some, map, slice_get, IsTrue}
use Rattle.std.specs.List.{list_any, list_all}
use Rattle.std.specs.Int.{from_le_bytes, to_le_bytes, w64}
use Rattle.std.specs.FinMap.Entries.{find, put, where_key, find-put, find-where_key, is_some-find}
use Rattle.std.proofs.lemmas.Bool.Decides.{nat_tests}
use Rattle.std.proofs.lemmas.List.Folds.{list_any-append}
use Rattle.std.proofs.lemmas.Nat.{from_le_bytes-to_le_bytes_8}
use Rattle.cl_types.proofs.PlaceLemmas.{place_total, place_exact, same_place, same_place-true, same_place-self}
use Rattle.cl_types.specs.Bytes.{with_bytes}
use Rattle.cl_types.specs.Places.{Place, place_cmp}
use Rattle.cl_types.specs.declared.call.AtomicOp.{AtomicOp}
use Rattle.cl_types.specs.declared.call.AtomicOp.TheVariants as op
use Rattle.cl_types.specs.declared.call.Perm.{Perm}
use Rattle.cl_types.specs.declared.config.NodeConfig.{NodeConfig}
use Rattle.cl_types.specs.declared.limits.TheConstants.{PAGE_BYTES, PART_BYTES}
use Rattle.cl_types.specs.declared.line.Entry.{Entry}
use Rattle.cl_types.specs.declared.numbers.Addr.{Addr}
use Rattle.cl_types.specs.declared.reply.Refusal.{Refusal}
use Rattle.cl_types.specs.declared.reply.Reply.{Reply}
use Rattle.cl_types.specs.declared.reply.Reply.TheVariants.{Refused, Nothing, At, Word, Got}
use Rattle.cl_types.specs.declared.request.Request.{Request}
use Rattle.cl_types.specs.declared.request.Request.TheVariants as request
use Rattle.flat_model.proofs.FreshLemmas.{length_fresh}
use Rattle.flat_model.proofs.RunLemmas.{run_split, reading_keeps}
use Rattle.flat_model.specs.Objects.{Object, Given, object_step}
use Rattle.cl_types.specs.Pages.{page_of, offset_of, word_at, word_after}
use Rattle.cl_types.specs.Ranges.{is_in_range, is_good_address, is_piece, are_bytes, has_words}
use Rattle.flat_model.specs.Run.{after, after_entry, IsRunFrom}
use Rattle.flat_model.specs.State.{FlatState, Page, page_at, bytes_of, is_mapped, fits, places, places_of, opening}
use Rattle.flat_model.specs.Step.{Transition, refused, with_fresh, is_range, is_among, free_if, may_write, may_change, is_out_of_pages, if_allowed, on_found, if_pages_last, on_bytes, puts, write, atomic, given, on_object, offload, MayAlloc, MayReply, alloc_after, state_after}
use Rattle.node_laws.specs.Locks.{TakesLock, is_lock, may_release, is_refused, releases, LawOfLocks}
use Rattle.lemmas.proofs.SameParts.{and_left, and_right, eqb_is, eqb_same}
use Rattle.lemmas.proofs.Pieces.{piece_kept_before, piece_kept_behind, piece_put}
use Rattle.lemmas.proofs.Lists.{none_some}
use Rattle.cl_types.proofs.PutBytes.{length-with_bytes}
use Rattle.std.proofs.lemmas.Bool.{ltb-false as not_lt}

abbrev pub Map : Type 0
Map = List (Place × Page)

-- each page has 4,096 bytes
pub record Whole (m : Map) : Type 0 where
  pub pages : (q : Place) (p : Page) → find place_cmp q m ≡ Some p → length (bytes_of p) ≡ PAGE_BYTES

-- the word is there, and 1
record IsOne (m : Map) (pid : ℕ) (word : Addr) : Type 0 where
  page : Page
  there : find place_cmp (pid, page_of word) m ≡ Some page
  one : word_at (offset_of word) (bytes_of page) ≡ 1

-- ---- pages put into a map
pub put_cases : (q k : Place) (v : Page) (m : Map) (p : Page) → find place_cmp q (put place_cmp k v m) ≡ Some p → ((q ≡ k) × (v ≡ p)) ⊎ (find place_cmp q m ≡ Some p)
put_cases q k v m p h = go (same_place q k) refl (sym (find-put place_cmp place_total q k v m) ∙ h) where
  go : (b : Bool) → same_place q k ≡ b → cond b (Some v) (find place_cmp q m) ≡ Some p → ((q ≡ k) × (v ≡ p)) ⊎ (find place_cmp q m ≡ Some p)
  go true same e = inl (same_place-true q k same, cc)
  go false same e = inr e

put_here : (q : Place) (v : Page) (m : Map) → find place_cmp q (put place_cmp q v m) ≡ Some v
put_here q v m = find-put place_cmp place_total q q v m ∙ ap (λ b. cond b (Some v) (find place_cmp q m)) (same_place-self q)

put_apart : (q k : Place) (v : Page) (m : Map) → same_place q k ≡ false → find place_cmp q (put place_cmp k v m) ≡ find place_cmp q m
put_apart q k v m apart = find-put place_cmp place_total q k v m ∙ ap (λ b. cond b (Some v) (find place_cmp q m)) apart

whole_put : (m : Map) (k : Place) (v : Page) → Whole m → length (bytes_of v) ≡ PAGE_BYTES → Whole (put place_cmp k v m)
whole_put m k v whole len = record {
  pages = λ q p h. ⊎_elim (λ (x : (q ≡ k) × (v ≡ p)). subst (λ z. length (bytes_of z) ≡ PAGE_BYTES) x.1 len) (λ (x : find place_cmp q m ≡ Some p). whole.pages q p x) (put_cases q k v m p h);
}

-- ---- what a step on a page's bytes may do: a refusal, or a change of the page
pub bytes_by : (P : Transition → Type 0) (s : FlatState) (pid : ℕ) (addr : Addr) (may : Perm → Bool) (go : Page → Transition) → ((r : Refusal) → P (refused s r))
    → ((page : Page) → page_at s pid (page_of addr) ≡ Some page → P (go page)) → P (on_bytes s pid addr may go)
bytes_by P s pid addr may go refuses goes = found (page_at s pid (page_of addr)) refl where
  last : (page : Page) → page_at s pid (page_of addr) ≡ Some page → (b : Bool) → P (if_pages_last s b (go page))
  last page is true = refuses _
  last page is false = goes page is

  allowed : (page : Page) → page_at s pid (page_of addr) ≡ Some page → (b : Bool) → P (if_allowed s b (if_pages_last s (is_out_of_pages s page) (go page)))
  allowed page is false = refuses _
  allowed page is true = last page is (is_out_of_pages s page)

  found : (o : Option Page) → page_at s pid (page_of addr) ≡ o → P (on_found s may (λ page. if_pages_last s (is_out_of_pages s page) (go page)) o)
  found None is = refuses _
  found (Some page) is = allowed page is (may page.perm)

-- ---- ranges of fresh pages
whole_fresh : (perm : Perm) (ps : List Place) (m : Map) → Whole m → Whole (with_fresh perm ps m)
whole_fresh perm [] m whole = whole
whole_fresh perm (p ∷ ps) m whole = whole_put (with_fresh perm ps m) p (record { perm = perm; bytes = None }) (whole_fresh perm ps m whole) length_fresh

fresh_apart : (perm : Perm) (ps : List Place) (m : Map) (q : Place) → list_any (same_place q) ps ≡ false → find place_cmp q (with_fresh perm ps m) ≡ find place_cmp q m
fresh_apart perm [] m q apart = refl
fresh_apart perm (p ∷ ps) m q apart =
    put_apart q p (record { perm = perm; bytes = None }) (with_fresh perm ps m) (first (same_place q p) (list_any (same_place q) ps) apart) ∙ fresh_apart perm ps m q (second (same_place q p) (list_any (same_place q) ps) apart)
  where
    first : (a b : Bool) → (a || b) ≡ false → a ≡ false
    first true b e = e
    first false b e = refl

    second : (a b : Bool) → (a || b) ≡ false → b ≡ false
    second true b e = grind arith
    second false b e = e

-- where none of the pages is mapped, a mapped page is none of them
mapped_apart : (there : List Place) (q : Place) (ps : List Place) → is_mapped there q ≡ true → list_all (λ place. not (is_mapped there place)) ps ≡ true → list_any (same_place q) ps ≡ false
mapped_apart there q [] is all = refl
mapped_apart there q (p ∷ ps) is all = go (same_place q p) refl (mapped_apart there q ps is (and_right (not (is_mapped there p)) (list_all (λ place. not (is_mapped there place)) ps) all)) where
  go : (b : Bool) → same_place q p ≡ b → list_any (same_place q) ps ≡ false → (b || list_any (same_place q) ps) ≡ false
  go true same rest =
      let free : not (is_mapped there p) ≡ true = and_left (not (is_mapped there p)) (list_all (λ place. not (is_mapped there place)) ps) all in
      let taken : is_mapped there p ≡ true = subst (λ z. is_mapped there z ≡ true) (same_place-true q p same) is in
      absurd (no (is_mapped there p) taken free)
    where
      no : (b : Bool) → b ≡ true → not b ≡ true → ⊥
      no b e f = grind arith
  go false same rest = rest

-- a page that is found is mapped
found_mapped : (s : FlatState) (q : Place) (p : Page) → find place_cmp q s.map ≡ Some p → is_mapped (places s) q ≡ true
found_mapped s q p h =
    list_any-append (same_place q) (map (λ entry. entry.0) s.map) s.held
    ∙ ap (λ b. b || list_any (same_place q) s.held) (sym (is_some-find place_cmp q s.map) ∙ ap is_some h)

fits_free : (buckets : ℕ) (there : List Place) (pid start n : ℕ) → fits buckets there pid start n ≡ true → list_all (λ place. not (is_mapped there place)) (places_of pid start n) ≡ true
fits_free buckets there pid start n h = third (leb 1 start) (leb (start + n) 65536) (list_all (λ place. not (is_mapped there place)) (places_of pid start n)) _ h where
  third : (a b c d : Bool) → (a && b && c && d) ≡ true → c ≡ true
  third a b c d e = and_right (a && b) c (and_left (a && b && c) d e)

-- ---- each page whole
word_aligned : (addr : Addr) (op : AtomicOp) → IsTrue (is_in_range (request.Atomic addr op)) → addr.0 % 8 ≡ 0
word_aligned addr op range =
    let a : (is_good_address addr && (addr.0 % 8 == 0)) ≡ true = and_left (is_good_address addr && (addr.0 % 8 == 0)) (has_words op) range in
    eqb_is (addr.0 % 8) 0 (and_right (is_good_address addr) (addr.0 % 8 == 0) a)

pub whole_step : (s : FlatState) (pid : ℕ) (r : Request) (reply : Reply) → IsTrue (is_in_range r) → Whole s.map → Whole (state_after s pid r reply).map
whole_step s pid (request.Alloc n perm) (At addr) range whole = whole_fresh perm (places_of pid (page_of addr) n) s.map whole
whole_step s pid (request.Alloc n perm) (Refused r) range whole = whole
whole_step s pid (request.Alloc n perm) Nothing range whole = whole
whole_step s pid (request.Alloc n perm) (Word w) range whole = whole
whole_step s pid (request.Alloc n perm) (Got bytes) range whole = whole
whole_step s pid (request.Free addr n) reply range whole = go (is_range s pid (page_of addr) n) where
  go : (b : Bool) → Whole (free_if s pid (page_of addr) n b).state.map
  go false = whole
  go true = record { pages = λ q p h. whole.pages q p (kept q p h) } where
    kept : (q : Place) (p : Page) → find place_cmp q (where_key place_cmp (λ place. not (is_among pid (page_of addr) n place)) s.map) ≡ Some p → find place_cmp q s.map ≡ Some p
    kept q p h =
        by (not (is_among pid (page_of addr) n q))
        (sym (find-where_key place_cmp (λ place. not (is_among pid (page_of addr) n place)) q (λ x e. ap (λ place. not (is_among pid (page_of addr) n place)) (sym (place_exact q x e))) s.map) ∙ h)
      where
        by : (b : Bool) → cond b (find place_cmp q s.map) None ≡ Some p → find place_cmp q s.map ≡ Some p
        by true e = e
        by false e = absurd (none_some p e)
whole_step s pid (request.Read addr n) reply range whole = subst (λ (z : FlatState). Whole z.map) (sym (reading_keeps s pid (request.Read addr n) reply refl)) whole
whole_step s pid (request.Write addr bytes) reply range whole =
    bytes_by (λ o. Whole o.state.map) s pid addr may_write (λ page. puts s pid addr page bytes Nothing) (λ r. whole)
    (λ page is.
    let piece : is_piece addr (length bytes) ≡ true = and_left (is_piece addr (length bytes)) (are_bytes bytes) range in
    let ends : leb (offset_of addr + length bytes) PAGE_BYTES ≡ true = and_right (is_good_address addr && leb 1 (length bytes) && leb (length bytes) PART_BYTES) (leb (offset_of addr + length bytes) PAGE_BYTES) piece in
    let len : length (bytes_of page) ≡ PAGE_BYTES = whole.pages (pid, page_of addr) page is in
    let low : offset_of addr + length bytes ≤ PAGE_BYTES = grind (arith, nat_tests) in
    whole_put s.map (pid, page_of addr) (record page { bytes = Some (with_bytes (offset_of addr) bytes (bytes_of page)) }) whole (length-with_bytes (offset_of addr) bytes (bytes_of page) (omega arith) ∙ len))
whole_step s pid (request.Atomic addr op) reply range whole =
    bytes_by (λ o. Whole o.state.map) s pid addr may_change (λ page. puts s pid addr page (to_le_bytes w64 (word_after op (word_at (offset_of addr) (bytes_of page)))) (Word (word_at (offset_of addr) (bytes_of page)))) (λ r. whole)
    (λ page is.
    let aligned : addr.0 % 8 ≡ 0 = word_aligned addr op range in
    let len : length (bytes_of page) ≡ PAGE_BYTES = whole.pages (pid, page_of addr) page is in
    let eight : length (to_le_bytes w64 (word_after op (word_at (offset_of addr) (bytes_of page)))) ≡ 8 = refl in
    whole_put s.map (pid, page_of addr) (record page { bytes = Some (with_bytes (offset_of addr) (to_le_bytes w64 (word_after op (word_at (offset_of addr) (bytes_of page)))) (bytes_of page)) }) whole
    (length-with_bytes (offset_of addr) (to_le_bytes w64 (word_after op (word_at (offset_of addr) (bytes_of page)))) (bytes_of page) (omega arith) ∙ len))
whole_step s pid (request.Offload number op out bytes) reply range whole = go (slice_get s.objects number) where
  by : (g : Given) → Whole (given s number out g).state.map
  by (Err refusal) = whole
  by (Ok (answer, object)) = whole

  go : (o : Option Object) → Whole (on_object s number op out bytes o).state.map
  go None = whole
  go (Some object) = by (object_step object op bytes)

-- ---- the word that is 1 stays
-- the place is that of the word's page
abbrev IsPlace : ℕ → Addr → Place → Type 0
IsPlace pid word k = ◌≡◌ {A = Place} (pid, page_of word) k

-- a page is put into the map: where it is the word's, its word is 1 yet
one_put : (m : Map) (pid : ℕ) (word : Addr) (k : Place) (v : Page) → IsOne m pid word → ((pid, page_of word) ≡ k → word_at (offset_of word) (bytes_of v) ≡ 1) → IsOne (put place_cmp k v m) pid word
one_put m pid word k v one still = go (same_place (pid, page_of word) k) refl where
  go : (b : Bool) → same_place (pid, page_of word) k ≡ b → IsOne (put place_cmp k v m) pid word
  go true same =
      let is : (pid, page_of word) ≡ k = same_place-true (pid, page_of word) k same in
      record { page = v; there = subst (λ q. find place_cmp (pid, page_of word) (put place_cmp q v m) ≡ Some v) is (put_here (pid, page_of word) v m); one = still is }
  go false apart = record { page = one.page; there = put_apart (pid, page_of word) k v m apart ∙ one.there; one = one.one }

-- the page that is found at the word's place is the word's
same_page : (m : Map) (pid : ℕ) (word : Addr) (k : Place) (p : Page) → (one : IsOne m pid word) → find place_cmp k m ≡ Some p → (pid, page_of word) ≡ k → one.page ≡ p
same_page m pid word k p one found is =
    let mine : find place_cmp k m ≡ Some one.page = subst (λ q. find place_cmp q m ≡ Some one.page) is one.there in
    let same : Some one.page ≡ Some p = sym mine ∙ found in cc

word_put : (off v : ℕ) (old : List ℕ) → v < 2 ^ 64 → off ≤ length old → word_at off (with_bytes off (to_le_bytes w64 v) old) ≡ v
word_put off v old small low = ap (from_le_bytes w64) (piece_put off (to_le_bytes w64 v) old low) ∙ from_le_bytes-to_le_bytes_8 v small

-- bytes that don't reach the word leave it
word_apart : (addr word : Addr) (new old : List ℕ) → page_of word ≡ page_of addr → offset_of addr + length new ≤ PAGE_BYTES → length old ≡ PAGE_BYTES
    → (word.0 + 8 ≤ addr.0) ⊎ (addr.0 + length new ≤ word.0) → word_at (offset_of word) (with_bytes (offset_of addr) new old) ≡ word_at (offset_of word) old
word_apart addr word new old same within len (inl before) =
    let page : word.0 / 4096 ≡ addr.0 / 4096 = same in
    ap (from_le_bytes w64) (piece_kept_before (offset_of addr) (offset_of word) 8 new old (omega arith) (omega arith))
word_apart addr word new old same within len (inr behind) =
    let page : word.0 / 4096 ≡ addr.0 / 4096 = same in
    ap (from_le_bytes w64) (piece_kept_behind (offset_of addr) (offset_of word) 8 new old (omega arith) (omega arith))

and_cases : (a b : Bool) → (a && b) ≡ false → (a ≡ false) ⊎ (b ≡ false)
and_cases true b h = inr h
and_cases false b h = inl refl

eqb_sym : (m n : ℕ) → (m == n) ≡ true → (n == m) ≡ true
eqb_sym m n h = subst (λ z. (z == m) ≡ true) (eqb_is m n h) (eqb_same m)

-- what doesn't release the word, of its own process and not refused, is no request that may
not_released : (e r : Bool) → (e && r && not false) ≡ false → e ≡ true → r ≡ false
not_released true true h same = h
not_released true false h same = refl
not_released false r h same = grind arith

module _ (s : FlatState) (pid : ℕ) (word : Addr) (aligned : word.0 % 8 ≡ 0) (whole : Whole s.map) (one : IsOne s.map pid word) where
  -- the process and the page of a place that is the word's
  own : (p : ℕ) (addr : Addr) → IsPlace pid word (p, page_of addr) → ((p == pid) ≡ true) × (page_of word ≡ page_of addr)
  own p addr is = (eqb_sym pid p (subst (λ z. (pid == z) ≡ true) (ap (λ (q : Place). q.0) is) (eqb_same pid)), ap (λ (q : Place). q.1) is)

  one_alloc : (p n : ℕ) (perm : Perm) (reply : Reply) → MayAlloc s p n reply → IsOne (alloc_after s p n perm reply).map pid word
  one_alloc p n perm (At addr) may =
      let apart : list_any (same_place (pid, page_of word)) (places_of p (page_of addr) n) ≡ false =
      mapped_apart (places s) (pid, page_of word) (places_of p (page_of addr) n) (found_mapped s (pid, page_of word) one.page one.there) (fits_free s.buckets (places s) p (page_of addr) n may.1) in
      record { page = one.page; there = fresh_apart perm (places_of p (page_of addr) n) s.map (pid, page_of word) apart ∙ one.there; one = one.one }
  one_alloc p n perm (Refused r) may = one
  one_alloc p n perm Nothing may = one
  one_alloc p n perm (Word w) may = one
  one_alloc p n perm (Got bytes) may = one

  one_free : (p : ℕ) (addr : Addr) (n : ℕ) (reply : Reply) → (b : Bool) → reply ≡ (free_if s p (page_of addr) n b).reply → (p == pid && may_release word (request.Free addr n) && not (is_refused reply)) ≡ false
      → IsOne (free_if s p (page_of addr) n b).state.map pid word
  one_free p addr n reply false may kept = one
  one_free p addr n reply true may kept =
      let held : (p == pid && may_release word (request.Free addr n) && not false) ≡ false = subst (λ r. (p == pid && may_release word (request.Free addr n) && not (is_refused r)) ≡ false) may kept in
      let free : not (is_among p (page_of addr) n (pid, page_of word)) ≡ true = outside (pid == p) refl (not_released (p == pid) (may_release word (request.Free addr n)) held) in
      record {
        page = one.page;
        there = find-where_key place_cmp (λ place. not (is_among p (page_of addr) n place)) (pid, page_of word) (λ x e. ap (λ place. not (is_among p (page_of addr) n place)) (sym (place_exact (pid, page_of word) x e))) s.map
            ∙ ap (λ b. cond b (find place_cmp (pid, page_of word) s.map) None) free ∙ one.there;
        one = one.one;
      }
    where
      outside : (e : Bool) → (pid == p) ≡ e → ((p == pid) ≡ true → may_release word (request.Free addr n) ≡ false) → not (e && leb (page_of addr) (page_of word) && nat_lt (page_of word) (page_of addr + n)) ≡ true
      outside true same none = ap not (none (eqb_sym pid p same))
      outside false same none = refl

  one_write : (p : ℕ) (addr : Addr) (bytes : List ℕ) (reply : Reply) → IsTrue (is_in_range (request.Write addr bytes)) → reply ≡ (write s p addr bytes).reply
      → (p == pid && may_release word (request.Write addr bytes) && not (is_refused reply)) ≡ false → IsOne (write s p addr bytes).state.map pid word
  one_write p addr bytes reply range may kept =
      bytes_by (λ o. reply ≡ o.reply → IsOne o.state.map pid word) s p addr may_write (λ page. puts s p addr page bytes Nothing) (λ r e. one)
      (λ page found e. one_put s.map pid word (p, page_of addr) (record page { bytes = Some (with_bytes (offset_of addr) bytes (bytes_of page)) }) one (λ is. still page found e is)) may
    where
      still : (page : Page) → page_at s p (page_of addr) ≡ Some page → reply ≡ Nothing → IsPlace pid word (p, page_of addr) → word_at (offset_of word) (with_bytes (offset_of addr) bytes (bytes_of page)) ≡ 1
      still page found e is =
          let same : one.page ≡ page = same_page s.map pid word (p, page_of addr) page one found is in
          let held : (p == pid && may_release word (request.Write addr bytes) && not false) ≡ false = subst (λ r. (p == pid && may_release word (request.Write addr bytes) && not (is_refused r)) ≡ false) e kept in
          let own_it : ((p == pid) ≡ true) × (page_of word ≡ page_of addr) = own p addr is in
          let none : may_release word (request.Write addr bytes) ≡ false = not_released (p == pid) (may_release word (request.Write addr bytes)) held own_it.0 in
          let piece : is_piece addr (length bytes) ≡ true = and_left (is_piece addr (length bytes)) (are_bytes bytes) range in
          let ends : leb (offset_of addr + length bytes) PAGE_BYTES ≡ true = and_right (is_good_address addr && leb 1 (length bytes) && leb (length bytes) PART_BYTES) (leb (offset_of addr + length bytes) PAGE_BYTES) piece in
          let low : offset_of addr + length bytes ≤ PAGE_BYTES = grind (arith, nat_tests) in
          let apart : (word.0 + 8 ≤ addr.0) ⊎ (addr.0 + length bytes ≤ word.0) =
          ⊎_elim (λ (h : nat_lt addr.0 (word.0 + 8) ≡ false). inl (not_lt addr.0 (word.0 + 8) h)) (λ (h : nat_lt word.0 (addr.0 + length bytes) ≡ false). inr (not_lt word.0 (addr.0 + length bytes) h))
          (and_cases (nat_lt addr.0 (word.0 + 8)) (nat_lt word.0 (addr.0 + length bytes)) none) in
          word_apart addr word bytes (bytes_of page) own_it.1 low (whole.pages (p, page_of addr) page found) apart
          ∙ ap (λ (z : Page). word_at (offset_of word) (bytes_of z)) (sym same) ∙ one.one

  one_atomic : (p : ℕ) (addr : Addr) (o : AtomicOp) (reply : Reply) → IsTrue (is_in_range (request.Atomic addr o)) → reply ≡ (atomic s p addr o).reply
      → (p == pid && may_release word (request.Atomic addr o) && not (is_refused reply)) ≡ false → IsOne (atomic s p addr o).state.map pid word
  one_atomic p addr o reply range may kept =
      bytes_by (λ x. reply ≡ x.reply → IsOne x.state.map pid word) s p addr may_change (λ page. puts s p addr page (to_le_bytes w64 (word_after o (word_at (offset_of addr) (bytes_of page)))) (Word (word_at (offset_of addr) (bytes_of page)))) (λ r e. one)
      (λ page found e. one_put s.map pid word (p, page_of addr) (record page { bytes = Some (with_bytes (offset_of addr) (to_le_bytes w64 (word_after o (word_at (offset_of addr) (bytes_of page)))) (bytes_of page)) }) one (λ is. still page found e is)) may
    where
      -- a Lock of the word finds 1 and leaves 1
      at_word : (page : Page) → one.page ≡ page → addr ≡ word → is_lock o ≡ true → length (bytes_of page) ≡ PAGE_BYTES
          → word_at (offset_of word) (with_bytes (offset_of addr) (to_le_bytes w64 (word_after o (word_at (offset_of addr) (bytes_of page)))) (bytes_of page)) ≡ 1
      at_word page same here lock len =
          let is_one : word_at (offset_of word) (bytes_of page) ≡ 1 = subst (λ (z : Page). word_at (offset_of word) (bytes_of z) ≡ 1) same one.one in
          (λ i. word_at (offset_of word) (with_bytes (offset_of (here i)) (to_le_bytes w64 (word_after o (word_at (offset_of (here i)) (bytes_of page)))) (bytes_of page)))
          ∙ ap (λ v. word_at (offset_of word) (with_bytes (offset_of word) (to_le_bytes w64 v) (bytes_of page))) (ap (word_after o) is_one ∙ locked o lock)
          ∙ word_put (offset_of word) 1 (bytes_of page) (omega arith) (omega arith)
        where
          locked : (o : AtomicOp) → is_lock o ≡ true → word_after o 1 ≡ 1
          locked op.Lock h = refl
          locked op.Unlock h = grind arith
          locked (op.Add n) h = grind arith
          locked (op.Cas expect new) h = grind arith

      lock_of : (b : Bool) → not b ≡ false → b ≡ true
      lock_of true h = refl
      lock_of false h = grind arith

      differ : (addr.0 == word.0) ≡ false → addr.0 % 8 ≡ 0 → (word.0 + 8 ≤ addr.0) ⊎ (addr.0 + 8 ≤ word.0)
      differ h even = ⊎_elim
          (λ (below : addr.0 < word.0). inr (omega arith))
          (λ (above : word.0 ≤ addr.0). let never : addr.0 ≡ word.0 → ⊥ = (λ z. not_both (addr.0 == word.0) (subst (λ (n : ℕ). (addr.0 == n) ≡ true) z (eqb_same addr.0)) h) in inl (further above never))
          (let c : (addr.0 < word.0) ⊎ (word.0 ≤ addr.0) = grind arith in c)
        where
          not_both : (b : Bool) → b ≡ true → b ≡ false → ⊥
          not_both b e f = grind arith

          further : word.0 ≤ addr.0 → (addr.0 ≡ word.0 → ⊥) → word.0 + 8 ≤ addr.0
          further low never = ⊎_elim (λ (e : addr.0 ≡ word.0). absurd (never e)) (λ (more : word.0 < addr.0). omega arith) (let c : (addr.0 ≡ word.0) ⊎ (word.0 < addr.0) = grind arith in c)

      still : (page : Page) → page_at s p (page_of addr) ≡ Some page → reply ≡ Word (word_at (offset_of addr) (bytes_of page)) → IsPlace pid word (p, page_of addr)
          → word_at (offset_of word) (with_bytes (offset_of addr) (to_le_bytes w64 (word_after o (word_at (offset_of addr) (bytes_of page)))) (bytes_of page)) ≡ 1
      still page found e is =
          let same : one.page ≡ page = same_page s.map pid word (p, page_of addr) page one found is in
          let held : (p == pid && may_release word (request.Atomic addr o) && not false) ≡ false = subst (λ r. (p == pid && may_release word (request.Atomic addr o) && not (is_refused r)) ≡ false) e kept in
          let own_it : ((p == pid) ≡ true) × (page_of word ≡ page_of addr) = own p addr is in
          let none : (addr.0 == word.0 && not (is_lock o)) ≡ false = not_released (p == pid) (addr.0 == word.0 && not (is_lock o)) held own_it.0 in
          let even : addr.0 % 8 ≡ 0 = word_aligned addr o range in
          let len : length (bytes_of page) ≡ PAGE_BYTES = whole.pages (p, page_of addr) page found in
          by (addr.0 == word.0) refl none page same own_it.1 even len
        where
          by : (b : Bool) → (addr.0 == word.0) ≡ b → (b && not (is_lock o)) ≡ false → (page : Page) → one.page ≡ page → page_of word ≡ page_of addr → addr.0 % 8 ≡ 0 → length (bytes_of page) ≡ PAGE_BYTES
              → word_at (offset_of word) (with_bytes (offset_of addr) (to_le_bytes w64 (word_after o (word_at (offset_of addr) (bytes_of page)))) (bytes_of page)) ≡ 1
          by true here lock page same pages even len =
              let x : addr.0 ≡ word.0 = eqb_is addr.0 word.0 here in
              at_word page same (λ i. record { 0 = x i }) (lock_of (is_lock o) lock) len
          by false apart lock page same pages even len =
              word_apart addr word (to_le_bytes w64 (word_after o (word_at (offset_of addr) (bytes_of page)))) (bytes_of page) pages (omega arith) len (differ apart even)
              ∙ ap (λ (z : Page). word_at (offset_of word) (bytes_of z)) (sym same) ∙ one.one

  one_offload : (p number o out : ℕ) (bytes : List ℕ) → IsOne (offload s number o out bytes).state.map pid word
  one_offload p number o out bytes = go (slice_get s.objects number) where
    by : (g : Given) → IsOne (given s number out g).state.map pid word
    by (Err refusal) = one
    by (Ok (answer, object)) = one

    go : (x : Option Object) → IsOne (on_object s number o out bytes x).state.map pid word
    go None = one
    go (Some object) = by (object_step object o bytes)

  one_step : (p : ℕ) (r : Request) (reply : Reply) → IsTrue (is_in_range r) → MayReply s p r reply → (p == pid && may_release word r && not (is_refused reply)) ≡ false → IsOne (state_after s p r reply).map pid word
  one_step p (request.Alloc n perm) reply range may kept = one_alloc p n perm reply may
  one_step p (request.Free addr n) reply range may kept = one_free p addr n reply (is_range s p (page_of addr) n) may kept
  one_step p (request.Read addr n) reply range may kept = subst (λ (z : FlatState). IsOne z.map pid word) (sym (reading_keeps s p (request.Read addr n) reply refl)) one
  one_step p (request.Write addr bytes) reply range may kept = one_write p addr bytes reply range may kept
  one_step p (request.Atomic addr o) reply range may kept = one_atomic p addr o reply range may kept
  one_step p (request.Offload number o out bytes) reply range may kept = one_offload p number o out bytes

  -- no Lock takes it
  lock_refused : MayReply s pid (request.Atomic word op.Lock) (Word 0) → ⊥
  lock_refused may =
      bytes_by (λ x. Word 0 ≡ x.reply → ⊥) s pid word may_change (λ page. puts s pid word page (to_le_bytes w64 (word_after op.Lock (word_at (offset_of word) (bytes_of page)))) (Word (word_at (offset_of word) (bytes_of page))))
      (λ r e. cc)
      (λ page found e.
      let same : one.page ≡ page = same_page s.map pid word (pid, page_of word) page one found refl in
      let is_one : word_at (offset_of word) (bytes_of page) ≡ 1 = subst (λ (z : Page). word_at (offset_of word) (bytes_of z) ≡ 1) same one.one in
      let zero_is : 0 ≡ word_at (offset_of word) (bytes_of page) = cc in
      omega arith)
      may

-- ---- a Lock that takes the word leaves 1
lock_takes : (s : FlatState) (pid : ℕ) (word : Addr) → Whole s.map → MayReply s pid (request.Atomic word op.Lock) (Word 0) → IsOne (state_after s pid (request.Atomic word op.Lock) (Word 0)).map pid word
lock_takes s pid word whole may =
    bytes_by (λ x. Word 0 ≡ x.reply → IsOne x.state.map pid word) s pid word may_change (λ page. puts s pid word page (to_le_bytes w64 (word_after op.Lock (word_at (offset_of word) (bytes_of page)))) (Word (word_at (offset_of word) (bytes_of page))))
    (λ r e. absurd cc)
    (λ page found e.
    let len : length (bytes_of page) ≡ PAGE_BYTES = whole.pages (pid, page_of word) page found in
    let zero_is : 0 ≡ word_at (offset_of word) (bytes_of page) = cc in
    record {
      page = record page { bytes = Some (with_bytes (offset_of word) (to_le_bytes w64 (word_after op.Lock (word_at (offset_of word) (bytes_of page)))) (bytes_of page)) };
      there = put_here (pid, page_of word) (record page { bytes = Some (with_bytes (offset_of word) (to_le_bytes w64 (word_after op.Lock (word_at (offset_of word) (bytes_of page)))) (bytes_of page)) }) s.map;
      one = ap (λ v. word_at (offset_of word) (with_bytes (offset_of word) (to_le_bytes w64 v) (bytes_of page))) (ap (word_after op.Lock) (sym zero_is)) ∙ word_put (offset_of word) 1 (bytes_of page) (omega arith) (omega arith);
    })
    may

-- ---- runs
whole_run : (es : List Entry) (s : FlatState) → IsRunFrom s es → Whole s.map → Whole (after s es).map
whole_run [] s run whole = whole
whole_run (e ∷ es) s run whole = whole_run es (after_entry s e) run.1 (whole_step s e.pid e.request e.reply run.0.in_range whole)

no_release : (es back : List Entry) (second : Entry) (s : FlatState) (pid : ℕ) (word : Addr) → word.0 % 8 ≡ 0 → Whole s.map → IsOne s.map pid word → IsRunFrom s (es ++ second ∷ back) → TakesLock pid word second
    → list_any (releases pid word) es ≡ false → ⊥
no_release [] back second s pid word aligned whole one run takes none =
    lock_refused s pid word aligned whole one
    (subst (λ r. MayReply s pid (request.Atomic word op.Lock) r) takes.reply (subst (λ r. MayReply s pid r second.reply) takes.request (subst (λ p. MayReply s p second.request second.reply) takes.process run.0.may)))
no_release (e ∷ es) back second s pid word aligned whole one run takes none =
    no_release es back second (after_entry s e) pid word aligned (whole_step s e.pid e.request e.reply run.0.in_range whole)
    (one_step s pid word aligned whole one e.pid e.request e.reply run.0.in_range run.0.may (left (releases pid word e) (list_any (releases pid word) es) none)) run.1 takes (right (releases pid word e) (list_any (releases pid word) es) none)
  where
    left : (a b : Bool) → (a || b) ≡ false → a ≡ false
    left true b h = h
    left false b h = refl

    right : (a b : Bool) → (a || b) ≡ false → b ≡ false
    right true b h = grind arith
    right false b h = h

-- ---- the law
whole_opening : (c : NodeConfig) → Whole (opening c).map
whole_opening c = record { pages = λ q p h. absurd (none_some p h) }

pub law_of_locks : LawOfLocks
law_of_locks c front between back first second pid word run taken again = go (list_any (releases pid word) between) refl where
  go : (b : Bool) → list_any (releases pid word) between ≡ b → b ≡ true
  go true is = refl
  go false is =
      let parts = run_split (opening c) front (first ∷ (between ++ second ∷ back)) run in
      let whole : Whole (after (opening c) front).map = whole_run front (opening c) parts.0 (whole_opening c) in
      let range : IsTrue (is_in_range (request.Atomic word op.Lock)) = subst (λ r. IsTrue (is_in_range r)) taken.request parts.1.0.in_range in
      let may : MayReply (after (opening c) front) pid (request.Atomic word op.Lock) (Word 0) =
      subst (λ r. MayReply (after (opening c) front) pid (request.Atomic word op.Lock) r) taken.reply
      (subst (λ r. MayReply (after (opening c) front) pid r first.reply) taken.request (subst (λ p. MayReply (after (opening c) front) p first.request first.reply) taken.process parts.1.0.may)) in
      let one : IsOne (after_entry (after (opening c) front) first).map pid word =
      subst (λ p. IsOne (state_after (after (opening c) front) p first.request first.reply).map pid word) (sym taken.process)
      (subst (λ r. IsOne (state_after (after (opening c) front) pid r first.reply).map pid word) (sym taken.request)
      (subst (λ r. IsOne (state_after (after (opening c) front) pid (request.Atomic word op.Lock) r).map pid word) (sym taken.reply) (lock_takes (after (opening c) front) pid word whole may))) in
      absurd (no_release between back second (after_entry (after (opening c) front) first) pid word (word_aligned word op.Lock range)
      (whole_step (after (opening c) front) first.pid first.request first.reply parts.1.0.in_range whole) one parts.1.1 again is)
