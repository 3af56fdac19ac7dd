-- The first fault of a call whose buffer is too long.
use Rattle.std.proofs.Common.{◌≡◌, ℕ, ◌-◌, ◌^◌, ◌<◌, ◌≤◌, true, false, Option, Some, None, Ok, Err, refl, ap, length, arith}
use Rattle.std.specs.Prelude.{◌==◌, Result, min, nat_lt}
use Rattle.std.proofs.lemmas.Bool.Decides.{nat_tests}
use Rattle.std.proofs.lemmas.List.{length-replicate}
use Rattle.cl_types.specs.declared.call.Call.{Call}
use Rattle.cl_types.specs.declared.frame.IssueFault.{IssueFault}
use Rattle.cl_types.specs.declared.frame.IssueFault.TheVariants as fault
use Rattle.cl_types.specs.declared.limits.TheConstants.{CALL_BYTES, PART_BYTES}
use Rattle.cl_types.specs.declared.numbers.Addr.{Addr}
use Rattle.cl_types.specs.declared.numbers.CallNo.{CallNo}
use Rattle.cl_types.specs.declared.schedule.CallText.TheVariants as text
use Rattle.cl_types.specs.declared.schedule.Written.{Written}
use Rattle.client_core.specs.Answers.{issue_answer}
use Rattle.client_model.specs.Client.{ClientState}
use Rattle.cl_types.specs.Written.{call_of, expanded}
use Rattle.frame_model.specs.Faults.{first_fault}
use Rattle.client_model.specs.Issue.{as_far_as_told, bytes_faults, call_faults}

-- more bytes than a call may have
long : (addr : Addr) (n : ℕ) → CALL_BYTES < n → n < 2 ^ 32 → first_fault (bytes_faults addr n CALL_BYTES n) ≡ Some (fault.TooLong n)
long addr n above fits =
    let some : (n == 0) ≡ false = grind (arith, nat_tests) in
    let more : nat_lt CALL_BYTES n ≡ true = grind (arith, nat_tests) in
    let told : as_far_as_told n ≡ n = grind (arith, nat_tests) in
    rw (some, more, told) refl

pub long_read : (addr : Addr) (n : ℕ) → CALL_BYTES < n → n < 2 ^ 32 → first_fault (call_faults (call_of (text.Read addr n))) ≡ Some (fault.TooLong n)
long_read addr n above fits = rw (length-replicate {A = ℕ} n 0) (long addr n above fits)

abbrev fault_in : IssueFault → Result CallNo (IssueFault × Call) → IssueFault
fault_in f (Ok number) = f
fault_in f (Err handed) = handed.0

-- the client tells the fault for which it does not take the call
pub told_fault : (s : ClientState) (k back : Call) (o : Option IssueFault) (f : IssueFault) → Err (f, back) ≡ issue_answer s k o → Some f ≡ o
told_fault s k back None f is = absurd cc
told_fault s k back (Some g) f is = ap Some (ap (fault_in f) is)

-- more sent bytes than an offload takes
pub long_bytes : (number op out : ℕ) (w : Written) (n : ℕ) → PART_BYTES < n → n ≡ min (length (expanded w)) (2 ^ 32 - 1)
    → first_fault (call_faults (call_of (text.Offload number op out w))) ≡ Some (fault.TooLong n)
long_bytes number op out w n above is =
    let more : nat_lt PART_BYTES (length (expanded w)) ≡ true = grind (arith, nat_tests) in
    rw (more, is) refl

-- more bytes than an offload answers
pub long_answer : (number op out : ℕ) (w : Written) (n : ℕ) → PART_BYTES < out → out < 2 ^ 32 → n ≤ PART_BYTES → n ≡ min (length (expanded w)) (2 ^ 32 - 1)
    → first_fault (call_faults (call_of (text.Offload number op out w))) ≡ Some (fault.TooLong out)
long_answer number op out w n above fits few is =
    let less : nat_lt PART_BYTES (length (expanded w)) ≡ false = grind (arith, nat_tests) in
    let more : nat_lt PART_BYTES out ≡ true = grind (arith, nat_tests) in
    let told : as_far_as_told out ≡ out = grind (arith, nat_tests) in
    rw (less, length-replicate {A = ℕ} out 0, more, told) refl
