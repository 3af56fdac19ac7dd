-- Why a client does not take a call.
use Rattle.std.specs.Prelude.{ℕ, ◌+◌, ◌-◌, ◌*◌, ◌%◌, ◌^◌, ◌==◌, Bool, not, min, leb, nat_lt, List, [], ◌∷◌, ◌++◌, length, Option, Some, None}
use Rattle.cl_types.specs.declared.numbers.Addr.{Addr}
use Rattle.cl_types.specs.declared.call.Call.{Call}
use Rattle.cl_types.specs.declared.call.Call.TheVariants as call
use Rattle.cl_types.specs.declared.frame.IssueFault.{IssueFault}
use Rattle.cl_types.specs.declared.frame.IssueFault.TheVariants as fault
use Rattle.cl_types.specs.declared.limits.TheConstants.{ADDRESS_END, PAGE_BYTES, PART_BYTES, CALL_BYTES, RANGE_PAGES, HELD_CALLS}
use Rattle.client_model.specs.Client.{ClientState, held, after_issue}
use Rattle.frame_model.specs.Faults.{first_fault}

-- a number of a fault, as far as 32 bits tell it
abbrev pub as_far_as_told : ℕ → ℕ
as_far_as_told n = min n (2 ^ 32 - 1)

-- the faults of n bytes or pages at an address, in their order: whether each holds
abbrev pub bytes_faults : Addr → ℕ → ℕ → ℕ → List (Bool × IssueFault)
bytes_faults addr n most len =
    (n == 0, fault.Empty) ∷ (nat_lt most n, fault.TooLong (as_far_as_told n)) ∷ (nat_lt ADDRESS_END (addr.0 + len), fault.BadAddress addr (as_far_as_told len)) ∷ []

-- the faults of a call in their order, whatever the client holds: whether each holds
abbrev pub call_faults : Call → List (Bool × IssueFault)
call_faults (call.Alloc pages perm) = (pages == 0, fault.Empty) ∷ (nat_lt RANGE_PAGES pages, fault.TooLong (as_far_as_told pages)) ∷ []
call_faults (call.Free addr pages) = bytes_faults addr pages RANGE_PAGES (PAGE_BYTES * pages) ++ (not (addr.0 % PAGE_BYTES == 0), fault.Misaligned addr) ∷ []
call_faults (call.Read addr buf) = bytes_faults addr (length buf) CALL_BYTES (length buf)
call_faults (call.Write addr bytes) = bytes_faults addr (length bytes) CALL_BYTES (length bytes)
call_faults (call.Atomic addr op) = bytes_faults addr 8 8 8 ++ (not (addr.0 % 8 == 0), fault.Misaligned addr) ∷ []
call_faults (call.Offload number op bytes buf) =
    (nat_lt PART_BYTES (length bytes), fault.TooLong (as_far_as_told (length bytes))) ∷ (nat_lt PART_BYTES (length buf), fault.TooLong (as_far_as_told (length buf))) ∷ []
call_faults call.Fence = []

-- the first that holds: the client holds as many calls as it may, and else the first fault of the call
abbrev pub issue_fault : ClientState → Call → Option IssueFault
issue_fault s k = first_fault ((leb HELD_CALLS (held s), fault.QueueFull) ∷ call_faults k)

-- a call that was judged: taken where there is no fault
abbrev pub after_judged : Option IssueFault → Call → ClientState → ClientState
after_judged (Some fault) k s = s
after_judged None k s = after_issue k s
