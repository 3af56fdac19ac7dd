-- The parts of a good call are in the ranges that a frame can carry.
use Rattle.std.proofs.Common.{◌≡◌, ℕ, ◌+◌, ◌-◌, ◌*◌, ◌/◌, ◌%◌, ◌<◌, ◌≤◌, List, ◌++◌, refl, true, false, arith, Option, Some, None, length, map, take, drop}
use Rattle.std.specs.Prelude.{leb, nat_lt, ◌==◌, ◌&&◌, not, option_and_then, slice_get}
use Rattle.std.specs.List.{AllByRecursion as Each}
use Rattle.std.proofs.lemmas.Bool.Decides.{nat_tests}
use Rattle.std.proofs.lemmas.List.{length-take, length-drop}
use Rattle.cl_types.specs.Bytes.{bytes_at}
use Rattle.cl_types.specs.declared.limits.TheConstants.{ADDRESS_END, CALL_BYTES, PAGE_BYTES, PART_BYTES, RANGE_PAGES, SPACE_PAGES}
use Rattle.cl_types.specs.declared.numbers.Addr.{Addr}
use Rattle.cl_types.specs.declared.call.Call.{Call}
use Rattle.cl_types.specs.declared.call.Call.TheVariants as call
use Rattle.cl_types.specs.declared.call.AtomicOp.{AtomicOp}
use Rattle.cl_types.specs.declared.request.Request.{Request}
use Rattle.cl_types.specs.declared.request.Request.TheVariants as request
use Rattle.client_model.specs.Cut.{cut, pieces}
use Rattle.frame_model.specs.Faults.{first_fault}
use Rattle.client_model.specs.Issue.{call_faults}
use Rattle.cl_types.specs.Ranges.{are_bytes, has_words, is_in_range}
use Rattle.cl_types.specs.declared.reply.Part.{Part}
use Rattle.client_core.specs.Held.{Held, held_at, request_at}
use Rattle.client_core.specs.Fields.{IsFit}
use Rattle.client_core.specs.Typed.{is_typed_request}
use Rattle.client_core.proofs.Basics.{none_some}
use Rattle.client_model.proofs.Pieces.{GoodBytes, GoodPiece, good_bytes, no_faults, pieces_good}
use Rattle.lemmas.proofs.Lists.{find_some as each_found, each_map, each_weaker, each_slice_get as each_slice}
use Rattle.lemmas.proofs.SameParts.{and_left as left_of, and_right as right_of}
use Rattle.lemmas.proofs.Passes.{both}

-- the request is in its range, where its numbers are those of their types
abbrev pub InRange : Request → Type 0
InRange q = is_typed_request q ≡ true → is_in_range q ≡ true

-- ---- each kind of call
free_in_range : (addr : Addr) (pages : ℕ) → GoodBytes addr.0 pages RANGE_PAGES (PAGE_BYTES * pages) → not (addr.0 % PAGE_BYTES == 0) ≡ false → is_in_range (request.Free addr pages) ≡ true
free_in_range addr pages g e =
    let a : 1 ≤ pages = g.some in let b : pages ≤ RANGE_PAGES = g.at_most in let c : addr.0 + PAGE_BYTES * pages ≤ ADDRESS_END = g.ends in
    let d : addr.0 % PAGE_BYTES ≡ 0 = grind (arith, nat_tests) in
    let p : addr.0 / PAGE_BYTES + pages ≤ SPACE_PAGES = omega arith in
    let q : addr.0 < ADDRESS_END = omega arith in
    grind (arith, nat_tests)

read_in_range : (addr len : ℕ) (p : ℕ × ℕ) → addr + len ≤ ADDRESS_END → GoodPiece addr len p → is_in_range (request.Read (record { 0 = p.0 }) p.1) ≡ true
read_in_range addr len p w g =
    let a : 1 ≤ p.1 = g.some in let b : p.1 ≤ PART_BYTES = g.most in let c : p.0 % PAGE_BYTES + p.1 ≤ PAGE_BYTES = g.page in let d : p.0 + p.1 ≤ addr + len = g.to in
    let q : p.0 < ADDRESS_END = omega arith in
    grind (arith, nat_tests)

write_in_range : (addr : ℕ) (bytes : List ℕ) (p : ℕ × ℕ) → addr + length bytes ≤ ADDRESS_END → GoodPiece addr (length bytes) p → InRange (request.Write (record { 0 = p.0 }) (bytes_at (p.0 - addr) p.1 bytes))
write_in_range addr bytes p w g typed =
    let f : addr ≤ p.0 = g.from in let d : p.0 + p.1 ≤ addr + length bytes = g.to in
    let n : length (bytes_at (p.0 - addr) p.1 bytes) ≡ p.1 = simp (length-take, length-drop) (omega arith) in
    let piece : is_in_range (request.Read (record { 0 = p.0 }) p.1) ≡ true = read_in_range addr (length bytes) p w g in
    both _ (are_bytes (bytes_at (p.0 - addr) p.1 bytes)) (rw n piece) typed

atomic_in_range : (addr : Addr) (op : AtomicOp) → GoodBytes addr.0 8 8 8 → not (addr.0 % 8 == 0) ≡ false → InRange (request.Atomic addr op)
atomic_in_range addr op g e typed =
    let c : addr.0 + 8 ≤ ADDRESS_END = g.ends in let q : addr.0 < ADDRESS_END = omega arith in
    both _ (has_words op) (grind (arith, nat_tests)) typed

offload_in_range : (number op out : ℕ) (bytes : List ℕ) → nat_lt PART_BYTES (length bytes) ≡ false → nat_lt PART_BYTES out ≡ false → InRange (request.Offload number op out bytes)
offload_in_range number op out bytes d e typed =
    both _ (are_bytes bytes) (both _ (leb (length bytes) PART_BYTES) (both _ (leb out PART_BYTES) (left_of (nat_lt number 256 && nat_lt op 256) (are_bytes bytes) typed) (grind (arith, nat_tests))) (grind (arith, nat_tests)))
    (right_of (nat_lt number 256 && nat_lt op 256) (are_bytes bytes) typed)

cut_in_range : (k : Call) → first_fault (call_faults k) ≡ None → Each InRange (cut k)
cut_in_range (call.Alloc pages perm) e = let h = no_faults (call_faults (call.Alloc pages perm)) e in let a : (pages == 0) ≡ false = h.0 in let b : nat_lt RANGE_PAGES pages ≡ false = h.1.0 in ((λ typed. grind (arith, nat_tests)), tt)
cut_in_range (call.Free addr pages) e =
    let h = no_faults (call_faults (call.Free addr pages)) e in
    ((λ typed. free_in_range addr pages (good_bytes addr.0 pages RANGE_PAGES (PAGE_BYTES * pages) h.0 h.1.0 h.1.1.0) h.1.1.1.0), tt)
cut_in_range (call.Read addr buf) e =
    let h = no_faults (call_faults (call.Read addr buf)) e in
    let g = good_bytes addr.0 (length buf) CALL_BYTES (length buf) h.0 h.1.0 h.1.1.0 in
    each_map InRange _ (pieces addr.0 (length buf)) (each_weaker _ _ (λ p k typed. read_in_range addr.0 (length buf) p g.ends k) _ (pieces_good (length buf) addr.0 (length buf)))
cut_in_range (call.Write addr bytes) e =
    let h = no_faults (call_faults (call.Write addr bytes)) e in
    let g = good_bytes addr.0 (length bytes) CALL_BYTES (length bytes) h.0 h.1.0 h.1.1.0 in
    each_map InRange _ (pieces addr.0 (length bytes)) (each_weaker _ _ (λ p k. write_in_range addr.0 bytes p g.ends k) _ (pieces_good (length bytes) addr.0 (length bytes)))
cut_in_range (call.Atomic addr op) e =
    let h = no_faults (call_faults (call.Atomic addr op)) e in
    (atomic_in_range addr op (good_bytes addr.0 8 8 8 h.0 h.1.0 h.1.1.0) h.1.1.1.0, tt)
cut_in_range (call.Offload number op bytes buf) e =
    let h = no_faults (call_faults (call.Offload number op bytes buf)) e in
    (offload_in_range number op (length buf) bytes h.0 h.1.0, tt)
cut_in_range call.Fence e = tt

pub part_in_range : (k : Call) (i : ℕ) (q : Request) → first_fault (call_faults k) ≡ None → slice_get (cut k) i ≡ Some q → InRange q
part_in_range k i q good at = each_slice InRange (cut k) i q (cut_in_range k good) at

pub asked_in_range : (hs : List Held) (p : Part) (q : Request) → Each IsFit hs → request_at hs p ≡ Some q → is_typed_request q ≡ true → is_in_range q ≡ true
asked_in_range hs p q fits e = go (held_at p.call.0 hs) refl e
  where
    go : (o : Option Held) → held_at p.call.0 hs ≡ o → option_and_then (λ (h : Held). slice_get (cut h.call) p.part) o ≡ Some q → InRange q
    go None k z = none_some q z
    go (Some h) k z = part_in_range h.call p.part q (each_found IsFit (λ (h : Held). h.number == p.call.0) hs h fits k).0.good z
