-- In every run the pages and objects hold bytes, so each reply is one that a frame can carry.
use Rattle.std.proofs.Common.{◌≡◌, ℕ, zero, suc, ◌+◌, ◌-◌, ◌/◌, ◌%◌, ◌^◌, ◌<◌, ◌≤◌, Bool, true, false, cond, List, [], ◌∷◌, ◌++◌, refl, sym, ap, ◌∙◌, subst, Option, Some, None, Ok, Err, length, arith, ⊎_elim, map, take, drop}
use Rattle.std.specs.Prelude.{◌&&◌, ◌==◌, not, leb, nat_lt, is_some, slice_get, slice_set, slice_index, IsTrue}
use Rattle.std.specs.List.{AllByRecursion as Each}
use Rattle.std.specs.Int.{byte_at, from_le_bytes, to_le_bytes, to_be_bytes, w64, w32}
use Rattle.std.specs.FinMap.Entries.{by_order, find, put, where_key, find-where_key}
use Rattle.std.specs.Ordering.{eq_by_cmp}
use Rattle.std.specs.declared.cmp.Ordering.{Ordering}
use Rattle.std.specs.declared.cmp.Ordering.TheVariants.{Less, Equal, Greater}
use Rattle.std.proofs.lemmas.Bool.Decides.{nat_tests}
use Rattle.std.proofs.lemmas.List.{length-take-le, length-drop}
use Rattle.cl_types.proofs.PlaceLemmas.{place_exact}
use Rattle.cl_types.specs.Bytes.{bytes_at, with_bytes, fresh_bytes, zeros}
use Rattle.cl_types.specs.Places.{Place, place_cmp}
use Rattle.cl_types.specs.declared.call.Perm.{Perm}
use Rattle.cl_types.specs.declared.config.NodeConfig.{NodeConfig}
use Rattle.cl_types.specs.declared.config.OffloadConfig.{OffloadConfig}
use Rattle.cl_types.specs.declared.config.OffloadConfig.TheVariants.{Kv}
use Rattle.cl_types.specs.declared.limits.TheConstants.{PAGE_BYTES, PART_BYTES}
use Rattle.cl_types.specs.declared.line.Entry.{Entry}
use Rattle.cl_types.specs.declared.numbers.Addr.{Addr}
use Rattle.cl_types.specs.declared.reply.Refusal.{Refusal}
use Rattle.cl_types.specs.declared.reply.Refusal.TheVariants.{ObjectFull, NoKey, BadOp}
use Rattle.cl_types.specs.declared.reply.Reply.{Reply}
use Rattle.cl_types.specs.declared.reply.Reply.TheVariants.{Refused, Nothing, At, Word, Got}
use Rattle.cl_types.specs.declared.request.Request.{Request}
use Rattle.cl_types.specs.declared.request.Request.TheVariants as request
use Rattle.flat_model.proofs.RunLemmas.{reading_keeps}
use Rattle.flat_model.proofs.LeastLemmas.{fits_within}
use Rattle.frame_model.specs.Frames.{is_range_start}
use Rattle.flat_model.specs.Objects.{Object, KvObject, Pairs, Given, empty_object, key_cmp, is_keyed, key_in, value_in, kv_put, kv_get, kv_delete, kv_step, object_step}
use Rattle.cl_types.specs.Pages.{page_of, offset_of, word_at, word_after}
use Rattle.cl_types.specs.Ranges.{is_in_range, is_good_address, is_piece, are_bytes, is_word}
use Rattle.flat_model.specs.Run.{after, after_entry, IsRunFrom}
use Rattle.flat_model.specs.State.{FlatState, Page, page_at, bytes_of, places, places_of, opening}
use Rattle.flat_model.specs.Step.{Transition, with_fresh, is_range, is_among, free_if, may_read, may_write, may_change, if_allowed, on_found, puts, read, given, on_object, MayAlloc, MayReply, state_after}
use Rattle.node_laws.specs.RepliesFit.{IsReplyTo, RepliesFit}
use Rattle.lemmas.proofs.Passes.{take_passes, drop_passes, append_passes, both}
use Rattle.lemmas.proofs.Lists.{each_filter_from, each_slice_get, none_some}
use Rattle.node_laws.proofs.LocksKept.{Map, Whole, put_cases, bytes_by, whole_step}
use Rattle.lemmas.proofs.SameParts.{and_left, and_right, eqb_same}

-- ---- bytes
bytes_of_piece : (at n : ℕ) (bytes : List ℕ) → are_bytes bytes ≡ true → are_bytes (bytes_at at n bytes) ≡ true
bytes_of_piece at n bytes good = take_passes (λ b. nat_lt b 256) n (drop at bytes) (drop_passes (λ b. nat_lt b 256) at bytes good)

bytes_put_in : (at : ℕ) (new old : List ℕ) → are_bytes new ≡ true → are_bytes old ≡ true → are_bytes (with_bytes at new old) ≡ true
bytes_put_in at new old good was =
    append_passes (λ b. nat_lt b 256) (take at old ++ new) (drop (at + length new) old)
    (append_passes (λ b. nat_lt b 256) (take at old) new (take_passes (λ b. nat_lt b 256) at old was) good)
    (drop_passes (λ b. nat_lt b 256) (at + length new) old was)

zeros_are_bytes : (n : ℕ) → are_bytes (zeros n) ≡ true
zeros_are_bytes zero = refl
zeros_are_bytes (suc n) = zeros_are_bytes n

fresh_are_bytes : are_bytes fresh_bytes ≡ true
unfolding fresh_bytes
fresh_are_bytes = zeros_are_bytes 4096

byte_below : (n : ℕ) → n < 256 → nat_lt n 256 ≡ true
byte_below n h = grind (arith, nat_tests)

byte_is_below : (i n : ℕ) → nat_lt (byte_at i n) 256 ≡ true
byte_is_below zero n = byte_below (n % 256) (omega arith)
byte_is_below (suc i) n = byte_below (n / 256 ^ suc i % 256) (omega arith)

word_bytes : (n : ℕ) → are_bytes (to_le_bytes w64 n) ≡ true
word_bytes n =
    rw (
      byte_is_below 0 n,
      byte_is_below 1 n,
      byte_is_below 2 n,
      byte_is_below 3 n,
      byte_is_below 4 n,
      byte_is_below 5 n,
      byte_is_below 6 n,
      byte_is_below 7 n,
    ) refl

count_bytes : (n : ℕ) → are_bytes (to_be_bytes w32 n) ≡ true
count_bytes n = rw (byte_is_below 3 n, byte_is_below 2 n, byte_is_below 1 n, byte_is_below 0 n) refl

each_small : (bytes : List ℕ) → are_bytes bytes ≡ true → (i : ℕ) → slice_index bytes i < 256
each_small [] good i = omega arith
each_small (b ∷ bytes) good zero = let h : nat_lt b 256 ≡ true = and_left (nat_lt b 256) (are_bytes bytes) good in grind (arith, nat_tests)
each_small (b ∷ bytes) good (suc i) = each_small bytes (and_right (nat_lt b 256) (are_bytes bytes) good) i

word_below : (bytes : List ℕ) → are_bytes bytes ≡ true → from_le_bytes w64 bytes < 2 ^ 64
word_below bytes good =
    let each = each_small bytes good in
    omega (arith, each 0, each 1, each 2, each 3, each 4, each 5, each 6, each 7)

-- ---- pages
-- each page holds bytes
record HoldBytes (m : Map) : Type 0 where
  pages : (q : Place) (p : Page) → find place_cmp q m ≡ Some p → are_bytes (bytes_of p) ≡ true

bytes_put : (m : Map) (k : Place) (v : Page) → HoldBytes m → are_bytes (bytes_of v) ≡ true → HoldBytes (put place_cmp k v m)
bytes_put m k v held good = record {
  pages = λ q p h. ⊎_elim (λ (x : (q ≡ k) × (v ≡ p)). subst (λ z. are_bytes (bytes_of z) ≡ true) x.1 good) (λ (x : find place_cmp q m ≡ Some p). held.pages q p x) (put_cases q k v m p h);
}

bytes_fresh : (perm : Perm) (ps : List Place) (m : Map) → HoldBytes m → HoldBytes (with_fresh perm ps m)
bytes_fresh perm [] m held = held
bytes_fresh perm (p ∷ ps) m held = bytes_put (with_fresh perm ps m) p (record { perm = perm; bytes = None }) (bytes_fresh perm ps m held) fresh_are_bytes

bytes_where : (test : Place → Bool) (m : Map) → HoldBytes m → HoldBytes (where_key place_cmp test m)
bytes_where test m held = record {
  pages = λ q p h. held.pages q p (by q p (test q) (sym (find-where_key place_cmp test q (λ x e. ap test (sym (place_exact q x e))) m) ∙ h));
}
  where
    by : (q : Place) (p : Page) (b : Bool) → cond b (find place_cmp q m) None ≡ Some p → find place_cmp q m ≡ Some p
    by q p true e = e
    by q p false e = absurd (none_some p e)

bytes_step : (s : FlatState) (pid : ℕ) (r : Request) (reply : Reply) → IsTrue (is_in_range r) → HoldBytes s.map → HoldBytes (state_after s pid r reply).map
bytes_step s pid (request.Alloc n perm) (At addr) range held = bytes_fresh perm (places_of pid (page_of addr) n) s.map held
bytes_step s pid (request.Alloc n perm) (Refused r) range held = held
bytes_step s pid (request.Alloc n perm) Nothing range held = held
bytes_step s pid (request.Alloc n perm) (Word w) range held = held
bytes_step s pid (request.Alloc n perm) (Got bytes) range held = held
bytes_step s pid (request.Free addr n) reply range held = go (is_range s pid (page_of addr) n) where
  go : (b : Bool) → HoldBytes (free_if s pid (page_of addr) n b).state.map
  go false = held
  go true = bytes_where (λ place. not (is_among pid (page_of addr) n place)) s.map held
bytes_step s pid (request.Read addr n) reply range held = subst (λ (z : FlatState). HoldBytes z.map) (sym (reading_keeps s pid (request.Read addr n) reply refl)) held
bytes_step s pid (request.Write addr bytes) reply range held =
    bytes_by (λ o. HoldBytes o.state.map) s pid addr may_write (λ page. puts s pid addr page bytes Nothing) (λ r. held)
    (λ page is. bytes_put s.map (pid, page_of addr) (record page { bytes = Some (with_bytes (offset_of addr) bytes (bytes_of page)) }) held
    (bytes_put_in (offset_of addr) bytes (bytes_of page) (and_right (is_piece addr (length bytes)) (are_bytes bytes) range) (held.pages (pid, page_of addr) page is)))
bytes_step s pid (request.Atomic addr op) reply range held =
    bytes_by (λ o. HoldBytes o.state.map) s pid addr may_change (λ page. puts s pid addr page (to_le_bytes w64 (word_after op (word_at (offset_of addr) (bytes_of page)))) (Word (word_at (offset_of addr) (bytes_of page)))) (λ r. held)
    (λ page is. bytes_put s.map (pid, page_of addr) (record page { bytes = Some (with_bytes (offset_of addr) (to_le_bytes w64 (word_after op (word_at (offset_of addr) (bytes_of page)))) (bytes_of page)) }) held
    (bytes_put_in (offset_of addr) (to_le_bytes w64 (word_after op (word_at (offset_of addr) (bytes_of page)))) (bytes_of page) (word_bytes (word_after op (word_at (offset_of addr) (bytes_of page)))) (held.pages (pid, page_of addr) page is)))
bytes_step s pid (request.Offload number op out bytes) reply range held = go (slice_get s.objects number) where
  by : (g : Given) → HoldBytes (given s number out g).state.map
  by (Err refusal) = held
  by (Ok (answer, object)) = held

  go : (o : Option Object) → HoldBytes (on_object s number op out bytes o).state.map
  go None = held
  go (Some object) = by (object_step object op bytes)

-- ---- objects
-- each value holds bytes, as many as one may have
record IsValue (value : List ℕ) : Type 0 where
  bytes : are_bytes value ≡ true
  short : length value ≤ PART_BYTES

abbrev IsPair : List ℕ × List ℕ → Type 0
IsPair pair = IsValue pair.1

abbrev IsObject : Object → Type 0
IsObject (KvObject records pairs) = Each IsPair pairs

-- an answer holds bytes, and leaves such an object
abbrev IsGiven : Given → Type 0
IsGiven (Err refusal) = Unit {0}
IsGiven (Ok (answer, object)) = IsValue answer × IsObject object

pairs_put : (key value : List ℕ) (pairs : Pairs) → IsValue value → Each IsPair pairs → Each IsPair (put key_cmp key value pairs)
pairs_put key value [] good held = (good, tt)
pairs_put key value (e ∷ es) good held = go (key_cmp key e.0) (pairs_put key value es good held.1) where
  go : (o : Ordering) → Each IsPair (put key_cmp key value es) → Each IsPair (by_order o ((key, value) ∷ e ∷ es) ((e.0, value) ∷ es) (e ∷ put key_cmp key value es))
  go Less rest = (good, held)
  go Equal rest = (good, held.1)
  go Greater rest = (held.0, rest)

pair_found : (key : List ℕ) (pairs : Pairs) (value : List ℕ) → Each IsPair pairs → find key_cmp key pairs ≡ Some value → IsValue value
pair_found key [] value held is = absurd (none_some value is)
pair_found key (e ∷ es) value held is = go (eq_by_cmp key_cmp key e.0) is (pair_found key es value held.1) where
  some_is : (x y : List ℕ) → ◌≡◌ {A = Option (List ℕ)} (Some x) (Some y) → x ≡ y
  some_is x y h = cc

  go : (b : Bool) → cond b (Some e.1) (find key_cmp key es) ≡ Some value → (find key_cmp key es ≡ Some value → IsValue value) → IsValue value
  go true is rest = subst IsValue (some_is e.1 value is) held.0
  go false is rest = rest is

no_bytes : IsValue []
no_bytes = record { bytes = refl; short = omega arith }

-- the value behind a key is as long as may be
keyed_value : (bytes : List ℕ) → is_keyed 256 bytes ≡ true → are_bytes bytes ≡ true → IsValue (value_in bytes)
keyed_value [] keyed good = no_bytes
keyed_value (n ∷ bytes) keyed good = record {
  bytes = drop_passes (λ b. nat_lt b 256) n bytes (and_right (nat_lt n 256) (are_bytes bytes) good);
  short = let most : leb (length bytes) (n + 256) ≡ true = and_right (leb 1 n && leb n 32 && leb n (length bytes)) (leb (length bytes) (n + 256)) keyed in
      let len : length (drop n bytes) ≡ length bytes - n = length-drop n bytes in low most len;
}
  where
    low : leb (length bytes) (n + 256) ≡ true → length (drop n bytes) ≡ length bytes - n → length (drop n bytes) ≤ PART_BYTES
    low h k = let m : length bytes ≤ n + 256 = at_most h in omega arith where
      at_most : leb (length bytes) (n + 256) ≡ true → length bytes ≤ n + 256
      at_most h = grind (arith, nat_tests)

kv_gives : (records : ℕ) (pairs : Pairs) (op : ℕ) (bytes : List ℕ) → Each IsPair pairs → are_bytes bytes ≡ true → IsGiven (kv_step records pairs op bytes)
kv_gives records pairs op bytes held good = put_case (op == 1) (is_keyed 256 bytes) refl where
  put_gives : (b : Bool) → is_keyed 256 bytes ≡ true → IsGiven (cond b (Err ObjectFull) (Ok ([], KvObject records (put key_cmp (key_in bytes) (value_in bytes) pairs))))
  put_gives true keyed = tt
  put_gives false keyed = (no_bytes, pairs_put (key_in bytes) (value_in bytes) pairs (keyed_value bytes keyed good) held)

  get_gives : (o : Option (List ℕ)) → find key_cmp (key_in bytes) pairs ≡ o → IsGiven (kv_get records pairs o)
  get_gives None is = tt
  get_gives (Some value) is = (pair_found (key_in bytes) pairs value held is, held)

  delete_gives : (b : Bool) → IsGiven (cond b (Ok ([], KvObject records (where_key key_cmp (λ other. not (eq_by_cmp key_cmp (key_in bytes) other)) pairs))) (Err NoKey))
  delete_gives true = (no_bytes, each_filter_from IsPair (λ (e : List ℕ × List ℕ). not (eq_by_cmp key_cmp (key_in bytes) e.0)) pairs held)
  delete_gives false = tt

  count_case : (b : Bool) → IsGiven (cond b (Ok (to_be_bytes w32 (length pairs), KvObject records pairs)) (Err BadOp))
  count_case true = (record { bytes = count_bytes (length pairs); short = let four : length (to_be_bytes w32 (length pairs)) ≡ 4 = refl in omega arith }, held)
  count_case false = tt

  delete_case : (b : Bool) → IsGiven (cond b (kv_delete records pairs (key_in bytes)) (cond (op == 4 && length bytes == 0) (Ok (to_be_bytes w32 (length pairs), KvObject records pairs)) (Err BadOp)))
  delete_case true = delete_gives (is_some (find key_cmp (key_in bytes) pairs))
  delete_case false = count_case (op == 4 && length bytes == 0)

  get_case : (b : Bool) → IsGiven (cond b (kv_get records pairs (find key_cmp (key_in bytes) pairs)) (cond (op == 3 && is_keyed 0 bytes) (kv_delete records pairs (key_in bytes)) (cond (op == 4 && length bytes == 0) (Ok (to_be_bytes w32 (length pairs), KvObject records pairs)) (Err BadOp))))
  get_case true = get_gives (find key_cmp (key_in bytes) pairs) refl
  get_case false = delete_case (op == 3 && is_keyed 0 bytes)

  put_case : (b keyed : Bool) → is_keyed 256 bytes ≡ keyed
      → IsGiven (cond (b && keyed) (kv_put records pairs (key_in bytes) (value_in bytes)) (cond (op == 2 && is_keyed 0 bytes) (kv_get records pairs (find key_cmp (key_in bytes) pairs)) (cond (op == 3 && is_keyed 0 bytes) (kv_delete records pairs (key_in bytes)) (cond (op == 4 && length bytes == 0) (Ok (to_be_bytes w32 (length pairs), KvObject records pairs)) (Err BadOp)))))
  put_case true true is = put_gives (not (is_some (find key_cmp (key_in bytes) pairs)) && leb records (length pairs)) is
  put_case true false is = get_case (op == 2 && is_keyed 0 bytes)
  put_case false keyed is = get_case (op == 2 && is_keyed 0 bytes)

object_gives : (object : Object) (op : ℕ) (bytes : List ℕ) → IsObject object → are_bytes bytes ≡ true → IsGiven (object_step object op bytes)
object_gives (KvObject records pairs) op bytes held good = kv_gives records pairs op bytes held good

-- ---- states
-- each page has 4,096 bytes, and each object holds values that an answer can carry
pub record IsSound (s : FlatState) : Type 0 where
  whole : Whole s.map
  bytes : HoldBytes s.map
  objects : Each IsObject s.objects

each_set : {X : Type 0} (Q : X → Type 0) (xs : List X) (i : ℕ) (x : X) → Each Q xs → Q x → Each Q (slice_set xs i x)
each_set Q [] i x held good = tt
each_set Q (y ∷ ys) zero x held good = (good, held.1)
each_set Q (y ∷ ys) (suc i) x held good = (held.0, each_set Q ys i x held.1 good)

objects_step : (s : FlatState) (pid : ℕ) (r : Request) (reply : Reply) → IsTrue (is_in_range r) → Each IsObject s.objects → Each IsObject (state_after s pid r reply).objects
objects_step s pid (request.Alloc n perm) (At addr) range held = held
objects_step s pid (request.Alloc n perm) (Refused r) range held = held
objects_step s pid (request.Alloc n perm) Nothing range held = held
objects_step s pid (request.Alloc n perm) (Word w) range held = held
objects_step s pid (request.Alloc n perm) (Got bytes) range held = held
objects_step s pid (request.Free addr n) reply range held = go (is_range s pid (page_of addr) n) where
  go : (b : Bool) → Each IsObject (free_if s pid (page_of addr) n b).state.objects
  go false = held
  go true = held
objects_step s pid (request.Read addr n) reply range held = subst (λ (z : FlatState). Each IsObject z.objects) (sym (reading_keeps s pid (request.Read addr n) reply refl)) held
objects_step s pid (request.Write addr bytes) reply range held =
    bytes_by (λ o. Each IsObject o.state.objects) s pid addr may_write (λ page. puts s pid addr page bytes Nothing) (λ r. held) (λ page is. held)
objects_step s pid (request.Atomic addr op) reply range held =
    bytes_by (λ o. Each IsObject o.state.objects) s pid addr may_change (λ page. puts s pid addr page (to_le_bytes w64 (word_after op (word_at (offset_of addr) (bytes_of page)))) (Word (word_at (offset_of addr) (bytes_of page)))) (λ r. held) (λ page is. held)
objects_step s pid (request.Offload number op out bytes) reply range held = go (slice_get s.objects number) refl where
  by : (g : Given) → IsGiven g → Each IsObject (given s number out g).state.objects
  by (Err refusal) good = held
  by (Ok (answer, object)) good = each_set IsObject s.objects number object held good.1

  go : (o : Option Object) → slice_get s.objects number ≡ o → Each IsObject (on_object s number op out bytes o).state.objects
  go None is = held
  go (Some object) is = by (object_step object op bytes) (object_gives object op bytes (each_slice_get IsObject s.objects number object held is) (and_right _ (are_bytes bytes) range))

sound_step : (s : FlatState) (pid : ℕ) (r : Request) (reply : Reply) → IsTrue (is_in_range r) → IsSound s → IsSound (state_after s pid r reply)
sound_step s pid r reply range sound = record { whole = whole_step s pid r reply range sound.whole; bytes = bytes_step s pid r reply range sound.bytes; objects = objects_step s pid r reply range sound.objects }

objects_at_opening : (offloads : List OffloadConfig) → Each IsObject (map empty_object offloads)
objects_at_opening [] = tt
objects_at_opening (Kv records ∷ offloads) = (tt, objects_at_opening offloads)

pub sound_opening : (config : NodeConfig) → IsSound (opening config)
sound_opening config = record { whole = record { pages = λ q p h. absurd (none_some p h) }; bytes = record { pages = λ q p h. absurd (none_some p h) }; objects = objects_at_opening config.offloads }

-- ---- replies
refusal_fits : (r : Request) (refusal : Refusal) → IsReplyTo r (Refused refusal)
refusal_fits (request.Alloc n perm) refusal = record { carried = refl; as_long = refl }
refusal_fits (request.Free addr n) refusal = record { carried = refl; as_long = refl }
refusal_fits (request.Read addr n) refusal = record { carried = refl; as_long = refl }
refusal_fits (request.Write addr bytes) refusal = record { carried = refl; as_long = refl }
refusal_fits (request.Atomic addr op) refusal = record { carried = refl; as_long = refl }
refusal_fits (request.Offload number op out bytes) refusal = record { carried = refl; as_long = refl }

alloc_fits : (s : FlatState) (pid n : ℕ) (perm : Perm) (reply : Reply) → 1 ≤ n → MayAlloc s pid n reply → IsReplyTo (request.Alloc n perm) reply
alloc_fits s pid n perm (Refused refusal) some may = refusal_fits (request.Alloc n perm) refusal
alloc_fits s pid n perm (At addr) some may =
    let within = fits_within s.buckets (places s) pid (page_of addr) n may.1 in
    record { carried = starts addr.0 within.0 (omega (arith, within.1)) may.0; as_long = refl }
  where
    starts : (a : ℕ) → 1 ≤ a / 4096 → a / 4096 + 1 ≤ 65536 → a % 4096 ≡ 0 → is_range_start a ≡ true
    starts a low high even = grind (arith, nat_tests)
alloc_fits s pid n perm Nothing some may = absurd may
alloc_fits s pid n perm (Word word) some may = absurd may
alloc_fits s pid n perm (Got bytes) some may = absurd may

-- a Read's bytes
read_fits : (s : FlatState) (pid : ℕ) (addr : Addr) (n : ℕ) → IsTrue (is_in_range (request.Read addr n)) → IsSound s → IsReplyTo (request.Read addr n) (read s pid addr n).reply
read_fits s pid addr n range sound = found (page_at s pid (page_of addr)) refl where
  go : Page → Transition
  go page = record { reply = Got (bytes_at (offset_of addr) n (bytes_of page)); state = s }

  sized : (page : Page) → page_at s pid (page_of addr) ≡ Some page → IsReplyTo (request.Read addr n) (Got (bytes_at (offset_of addr) n (bytes_of page)))
  sized page is =
      let whole : length (bytes_of page) ≡ PAGE_BYTES = sound.whole.pages (pid, page_of addr) page is in
      let ends : leb (offset_of addr + n) PAGE_BYTES ≡ true = and_right (is_good_address addr && leb 1 n && leb n PART_BYTES) (leb (offset_of addr + n) PAGE_BYTES) range in
      let bounds : (is_good_address addr && leb 1 n && leb n PART_BYTES) ≡ true = and_left (is_good_address addr && leb 1 n && leb n PART_BYTES) (leb (offset_of addr + n) PAGE_BYTES) range in
      let most : leb n PART_BYTES ≡ true = and_right (is_good_address addr && leb 1 n) (leb n PART_BYTES) bounds in
      let some : leb 1 n ≡ true = and_right (is_good_address addr) (leb 1 n) (and_left (is_good_address addr && leb 1 n) (leb n PART_BYTES) bounds) in
      let len : length (bytes_at (offset_of addr) n (bytes_of page)) ≡ n = long (bytes_of page) whole ends in
      let bytes : are_bytes (bytes_at (offset_of addr) n (bytes_of page)) ≡ true = bytes_of_piece (offset_of addr) n (bytes_of page) (sound.bytes.pages (pid, page_of addr) page is) in
      record {
        carried = both (leb 1 (length (bytes_at (offset_of addr) n (bytes_of page))) && leb (length (bytes_at (offset_of addr) n (bytes_of page))) PART_BYTES) (are_bytes (bytes_at (offset_of addr) n (bytes_of page)))
            (both (leb 1 (length (bytes_at (offset_of addr) n (bytes_of page)))) (leb (length (bytes_at (offset_of addr) n (bytes_of page))) PART_BYTES) (ap (leb 1) len ∙ some) (ap (λ k. leb k PART_BYTES) len ∙ most)) bytes;
        as_long = ap (λ k. k == n) len ∙ eqb_same n;
      }
    where
      long : (bytes : List ℕ) → length bytes ≡ PAGE_BYTES → leb (offset_of addr + n) PAGE_BYTES ≡ true → length (bytes_at (offset_of addr) n bytes) ≡ n
      long bytes whole ends =
          let end : offset_of addr + n ≤ PAGE_BYTES = at_most ends in
          let behind : length (drop (offset_of addr) bytes) ≡ length bytes - offset_of addr = length-drop (offset_of addr) bytes in
          length-take-le n (drop (offset_of addr) bytes) (omega arith)
        where
          at_most : leb (offset_of addr + n) PAGE_BYTES ≡ true → offset_of addr + n ≤ PAGE_BYTES
          at_most h = grind (arith, nat_tests)

  allowed : (page : Page) → page_at s pid (page_of addr) ≡ Some page → (b : Bool) → IsReplyTo (request.Read addr n) (if_allowed s b (go page)).reply
  allowed page is false = refusal_fits (request.Read addr n) _
  allowed page is true = sized page is

  found : (o : Option Page) → page_at s pid (page_of addr) ≡ o → IsReplyTo (request.Read addr n) (on_found s may_read go o).reply
  found None is = refusal_fits (request.Read addr n) _
  found (Some page) is = allowed page is (may_read page.perm)

pub outcome_fits : (s : FlatState) (pid : ℕ) (r : Request) (reply : Reply) → IsTrue (is_in_range r) → IsSound s → MayReply s pid r reply → IsReplyTo r reply
outcome_fits s pid (request.Alloc n perm) reply range sound may = alloc_fits s pid n perm reply (some (and_left (leb 1 n) (leb n 1024) range)) may where
  some : leb 1 n ≡ true → 1 ≤ n
  some h = grind (arith, nat_tests)
outcome_fits s pid (request.Free addr n) reply range sound may = subst (IsReplyTo (request.Free addr n)) (sym may) (go (is_range s pid (page_of addr) n)) where
  go : (b : Bool) → IsReplyTo (request.Free addr n) (free_if s pid (page_of addr) n b).reply
  go true = record { carried = refl; as_long = refl }
  go false = refusal_fits (request.Free addr n) _
outcome_fits s pid (request.Read addr n) reply range sound may = subst (IsReplyTo (request.Read addr n)) (sym may) (read_fits s pid addr n range sound)
outcome_fits s pid (request.Write addr bytes) reply range sound may = subst (IsReplyTo (request.Write addr bytes)) (sym may)
    (bytes_by (λ o. IsReplyTo (request.Write addr bytes) o.reply) s pid addr may_write (λ page. puts s pid addr page bytes Nothing) (λ r. refusal_fits (request.Write addr bytes) r) (λ page is. record { carried = refl; as_long = refl }))
outcome_fits s pid (request.Atomic addr op) reply range sound may = subst (IsReplyTo (request.Atomic addr op)) (sym may)
    (bytes_by (λ o. IsReplyTo (request.Atomic addr op) o.reply) s pid addr may_change (λ page. puts s pid addr page (to_le_bytes w64 (word_after op (word_at (offset_of addr) (bytes_of page)))) (Word (word_at (offset_of addr) (bytes_of page))))
    (λ r. refusal_fits (request.Atomic addr op) r)
    (λ page is. record { carried = word (word_at (offset_of addr) (bytes_of page)) (word_below (bytes_at (offset_of addr) 8 (bytes_of page)) (bytes_of_piece (offset_of addr) 8 (bytes_of page) (sound.bytes.pages (pid, page_of addr) page is))); as_long = refl }))
  where
    word : (w : ℕ) → w < 2 ^ 64 → is_word w ≡ true
    word w h = grind (arith, nat_tests)
outcome_fits s pid (request.Offload number op out bytes) reply range sound may = subst (IsReplyTo (request.Offload number op out bytes)) (sym may) (go (slice_get s.objects number) refl) where
  by : (g : Given) → IsGiven g → IsReplyTo (request.Offload number op out bytes) (given s number out g).reply
  by (Err refusal) good = refusal_fits (request.Offload number op out bytes) refusal
  by (Ok (answer, object)) good =
      let short : length answer ≤ PART_BYTES = good.0.short in
      let least = taken out answer in
      record {
        carried = both (leb (length (take out answer)) PART_BYTES) (are_bytes (take out answer)) (below (length (take out answer)) PART_BYTES (omega (arith, least.1))) (take_passes (λ b. nat_lt b 256) out answer good.0.bytes);
        as_long = below (length (take out answer)) out least.0;
      }
    where
      below : (m k : ℕ) → m ≤ k → leb m k ≡ true
      below m k h = grind (arith, nat_tests)

      taken : (k : ℕ) (xs : List ℕ) → (length (take k xs) ≤ k) × (length (take k xs) ≤ length xs)
      taken zero xs = (omega arith, omega arith)
      taken (suc k) [] = (omega arith, omega arith)
      taken (suc k) (x ∷ xs) = let rest = taken k xs in let a : length (take k xs) ≤ k = rest.0 in let b : length (take k xs) ≤ length xs = rest.1 in (omega arith, omega arith)

  go : (o : Option Object) → slice_get s.objects number ≡ o → IsReplyTo (request.Offload number op out bytes) (on_object s number op out bytes o).reply
  go None is = refusal_fits (request.Offload number op out bytes) _
  go (Some object) is = by (object_step object op bytes) (object_gives object op bytes (each_slice_get IsObject s.objects number object sound.objects is) (and_right _ (are_bytes bytes) range))

-- ---- runs
replies_from : (entries : List Entry) (s : FlatState) → IsSound s → IsRunFrom s entries → Each (λ (e : Entry). IsReplyTo e.request e.reply) entries
replies_from [] s sound run = tt
replies_from (e ∷ es) s sound run =
    (outcome_fits s e.pid e.request e.reply run.0.in_range sound run.0.may, replies_from es (after_entry s e) (sound_step s e.pid e.request e.reply run.0.in_range sound) run.1)

pub sound_after : (entries : List Entry) (s : FlatState) → IsSound s → IsRunFrom s entries → IsSound (after s entries)
sound_after [] s sound run = sound
sound_after (e ∷ es) s sound run = sound_after es (after_entry s e) (sound_step s e.pid e.request e.reply run.0.in_range sound) run.1

pub replies_fit : RepliesFit
replies_fit config entries run = replies_from entries (opening config) (sound_opening config) run
