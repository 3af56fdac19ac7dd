-- An issued call is cut into requests in their ranges.
use Rattle.std.proofs.Common.{◌≡◌, ℕ, zero, suc, ◌+◌, ◌-◌, ◌*◌, ◌/◌, ◌%◌, ◌<◌, ◌≤◌, List, ◌∷◌, refl, Bool, true, false, arith, None, length, drop}
use Rattle.std.specs.Prelude.{leb, nat_lt, ◌==◌, ◌&&◌, ◌^◌, not, replicate}
use Rattle.std.specs.List.{AllByRecursion as Each, list_all, concat}
use Rattle.std.proofs.lemmas.Bool.Decides.{nat_tests}
use Rattle.std.proofs.lemmas.List.{length-take, length-drop}
use Rattle.cl_types.specs.Bytes.{bytes_at, zeros}
use Rattle.cl_types.specs.declared.limits.TheConstants.{ADDRESS_END, CALL_BYTES, HELD_CALLS, PAGE_BYTES, PART_BYTES, RANGE_PAGES, SPACE_PAGES}
use Rattle.cl_types.specs.declared.numbers.Addr.{Addr}
use Rattle.cl_types.specs.declared.call.Call.{Call}
use Rattle.cl_types.specs.declared.call.Call.TheVariants as call
use Rattle.cl_types.specs.declared.call.AtomicOp.{AtomicOp}
use Rattle.cl_types.specs.declared.frame.IssueFault.{IssueFault}
use Rattle.cl_types.specs.declared.frame.IssueFault.TheVariants as fault
use Rattle.cl_types.specs.declared.request.Request.TheVariants as request
use Rattle.cl_types.specs.declared.schedule.CallText.{CallText}
use Rattle.cl_types.specs.declared.schedule.CallText.TheVariants as text
use Rattle.cl_types.specs.declared.schedule.Written.{Written}
use Rattle.client_model.specs.Cut.{cut, pieces}
use Rattle.client_model.specs.Client.{ClientState, held}
use Rattle.cl_types.specs.Written.{call_of, expanded}
use Rattle.client_model.specs.Issue.{issue_fault, call_faults}
use Rattle.cl_types.specs.Ranges.{are_bytes, has_words, is_typed_call}
use Rattle.lemmas.proofs.Lists.{each_map, each_weaker}
use Rattle.trace_laws.proofs.Ran.{InRange}
use Rattle.lemmas.proofs.SameParts.{and_left, and_right}
use Rattle.lemmas.proofs.Passes.{append_passes, both, drop_passes, take_passes}
use Rattle.client_model.proofs.Pieces.{GoodBytes, GoodPiece, good_bytes, no_faults, pieces_good}

-- ---- bytes
repeat_passes : (test : ℕ → Bool) (n : ℕ) (xs : List ℕ) → list_all test xs ≡ true → list_all test (concat (replicate n xs)) ≡ true
repeat_passes test zero xs h = refl
repeat_passes test (suc n) xs h = append_passes test xs (concat (replicate n xs)) h (repeat_passes test n xs h)

expanded_bytes : (w : Written) → are_bytes w.bytes ≡ true → are_bytes (expanded w) ≡ true
expanded_bytes w h = repeat_passes (λ b. nat_lt b 256) w.times w.bytes h

-- ---- each kind of call
free_in_range : (addr : Addr) (pages : ℕ) → GoodBytes addr.0 pages RANGE_PAGES (PAGE_BYTES * pages) → not (addr.0 % PAGE_BYTES == 0) ≡ false → InRange (request.Free addr pages)
free_in_range addr pages g e =
    let a : 1 ≤ pages = g.some in let b : pages ≤ RANGE_PAGES = g.at_most in let c : addr.0 + PAGE_BYTES * pages ≤ ADDRESS_END = g.ends in
    let d : addr.0 % PAGE_BYTES ≡ 0 = grind (arith, nat_tests) in
    let p : addr.0 / PAGE_BYTES + pages ≤ SPACE_PAGES = omega arith in
    let q : addr.0 < ADDRESS_END = omega arith in
    grind (arith, nat_tests)

read_in_range : (addr len : ℕ) (p : ℕ × ℕ) → addr + len ≤ ADDRESS_END → GoodPiece addr len p → InRange (request.Read (record { 0 = p.0 }) p.1)
read_in_range addr len p w g =
    let a : 1 ≤ p.1 = g.some in let b : p.1 ≤ PART_BYTES = g.most in let c : p.0 % PAGE_BYTES + p.1 ≤ PAGE_BYTES = g.page in let d : p.0 + p.1 ≤ addr + len = g.to in
    let q : p.0 < ADDRESS_END = omega arith in
    grind (arith, nat_tests)

write_in_range : (addr : ℕ) (bytes : List ℕ) (p : ℕ × ℕ) → are_bytes bytes ≡ true → addr + length bytes ≤ ADDRESS_END → GoodPiece addr (length bytes) p
    → InRange (request.Write (record { 0 = p.0 }) (bytes_at (p.0 - addr) p.1 bytes))
write_in_range addr bytes p typed w g =
    let f : addr ≤ p.0 = g.from in let d : p.0 + p.1 ≤ addr + length bytes = g.to in
    let n : length (bytes_at (p.0 - addr) p.1 bytes) ≡ p.1 = simp (length-take, length-drop) (omega arith) in
    let piece : InRange (request.Read (record { 0 = p.0 }) p.1) = read_in_range addr (length bytes) p w g in
    both _ (are_bytes (bytes_at (p.0 - addr) p.1 bytes)) (rw n piece) (take_passes (λ b. nat_lt b 256) p.1 (drop (p.0 - addr) bytes) (drop_passes (λ b. nat_lt b 256) (p.0 - addr) bytes typed))

atomic_in_range : (addr : Addr) (op : AtomicOp) → has_words op ≡ true → GoodBytes addr.0 8 8 8 → not (addr.0 % 8 == 0) ≡ false → InRange (request.Atomic addr op)
atomic_in_range addr op typed g e =
    let c : addr.0 + 8 ≤ ADDRESS_END = g.ends in let q : addr.0 < ADDRESS_END = omega arith in
    both _ (has_words op) (grind (arith, nat_tests)) typed

offload_in_range : (number op out : ℕ) (bytes : List ℕ) → nat_lt number 256 ≡ true → nat_lt op 256 ≡ true → are_bytes bytes ≡ true → nat_lt PART_BYTES (length bytes) ≡ false → nat_lt PART_BYTES out ≡ false
    → InRange (request.Offload number op out bytes)
offload_in_range number op out bytes a b c d e =
    both _ (are_bytes bytes) (both _ (leb (length bytes) PART_BYTES) (both _ (leb out PART_BYTES) (both (nat_lt number 256) (nat_lt op 256) a b) (grind (arith, nat_tests))) (grind (arith, nat_tests))) c

abbrev all_faults : ℕ → Call → List (Bool × IssueFault)
all_faults held k = (leb HELD_CALLS held, fault.QueueFull) ∷ call_faults k

module _ (s : ClientState) where
  read_cut : (addr : Addr) (buf : List ℕ) → issue_fault s (call.Read addr buf) ≡ None → Each InRange (cut (call.Read addr buf))
  read_cut addr buf e =
      let h = no_faults (all_faults (held s) (call.Read addr buf)) e in
      let g = good_bytes addr.0 (length buf) CALL_BYTES (length buf) h.1.0 h.1.1.0 h.1.1.1.0 in
      each_map InRange _ (pieces addr.0 (length buf)) (each_weaker _ _ (λ p k. read_in_range addr.0 (length buf) p g.ends k) _ (pieces_good (length buf) addr.0 (length buf)))

  write_cut : (addr : Addr) (bytes : List ℕ) → are_bytes bytes ≡ true → issue_fault s (call.Write addr bytes) ≡ None → Each InRange (cut (call.Write addr bytes))
  write_cut addr bytes typed e =
      let h = no_faults (all_faults (held s) (call.Write addr bytes)) e in
      let g = good_bytes addr.0 (length bytes) CALL_BYTES (length bytes) h.1.0 h.1.1.0 h.1.1.1.0 in
      each_map InRange _ (pieces addr.0 (length bytes)) (each_weaker _ _ (λ p k. write_in_range addr.0 bytes p typed g.ends k) _ (pieces_good (length bytes) addr.0 (length bytes)))

  offload_cut : (number op : ℕ) (bytes buf : List ℕ) → nat_lt number 256 ≡ true → nat_lt op 256 ≡ true → are_bytes bytes ≡ true → issue_fault s (call.Offload number op bytes buf) ≡ None
      → Each InRange (cut (call.Offload number op bytes buf))
  offload_cut number op bytes buf a b c e =
      let h = no_faults (all_faults (held s) (call.Offload number op bytes buf)) e in
      (offload_in_range number op (length buf) bytes a b c h.1.0 h.1.1.0, tt)

  -- a call of a line whose numbers are those of their types
  pub cut_in_range : (t : CallText) → is_typed_call t ≡ true → issue_fault s (call_of t) ≡ None → Each InRange (cut (call_of t))
  cut_in_range (text.Alloc pages perm) typed e = (grind (arith, nat_tests), tt)
  cut_in_range (text.Free addr pages) typed e =
      let h = no_faults (all_faults (held s) (call.Free addr pages)) e in
      (free_in_range addr pages (good_bytes addr.0 pages RANGE_PAGES (PAGE_BYTES * pages) h.1.0 h.1.1.0 h.1.1.1.0) h.1.1.1.1.0, tt)
  cut_in_range (text.Read addr len) typed e = read_cut addr (zeros len) e
  cut_in_range (text.Write addr w) typed e = write_cut addr (expanded w) (expanded_bytes w (and_right _ (are_bytes w.bytes) typed)) e
  cut_in_range (text.Atomic addr op) typed e =
      let h = no_faults (all_faults (held s) (call.Atomic addr op)) e in
      let g = good_bytes addr.0 8 8 8 h.1.0 h.1.1.0 h.1.1.1.0 in
      (atomic_in_range addr op (and_right _ (has_words op) typed) g h.1.1.1.1.0, tt)
  cut_in_range (text.Offload number op out w) typed e =
      let most : (nat_lt number 256 && nat_lt op 256 && nat_lt out (2 ^ 32)) ≡ true = and_left _ (are_bytes w.bytes) typed in
      let numbers : (nat_lt number 256 && nat_lt op 256) ≡ true = and_left (nat_lt number 256 && nat_lt op 256) (nat_lt out (2 ^ 32)) most in
      offload_cut number op (expanded w) (zeros out) (and_left (nat_lt number 256) (nat_lt op 256) numbers) (and_right (nat_lt number 256) (nat_lt op 256) numbers)
      (expanded_bytes w (and_right _ (are_bytes w.bytes) typed)) e
  cut_in_range text.Fence typed e = tt
