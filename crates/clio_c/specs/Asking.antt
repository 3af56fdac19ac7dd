-- What comes of a call that C asks for.
use Rattle.std.specs.Prelude.{◌≡◌, ℕ, ◌+◌, ◌-◌, ◌^◌, List, Option, Some, None, Result, Ok, Err}
use Rattle.std.specs.Option.{option_map}
use Rattle.cl_types.specs.Bytes.{zeros}
use Rattle.cl_types.specs.declared.numbers.CallNo.{CallNo}
use Rattle.cl_types.specs.declared.call.Call.{Call}
use Rattle.cl_types.specs.declared.call.Call.TheVariants as call
use Rattle.client_model.specs.Client.{ClientState, after_issue}
use Rattle.client_model.specs.Issue.{issue_fault}
use Rattle.clio_c.specs.Numbers.{number_told, op_named, perm_named, status_number}
use Rattle.clio_c.specs.declared.issuing.NotIssued.{NotIssued}
use Rattle.clio_c.specs.declared.issuing.NotIssued.TheVariants as cause

-- ---- the calls of C's arguments
-- an Alloc, where the number is a permission's
abbrev pub alloc_call : (pages perm : ℕ) → Option Call
alloc_call pages perm = option_map (call.Alloc pages) (perm_named perm)

-- a Free
abbrev pub free_call : (addr pages : ℕ) → Call
free_call addr pages = call.Free (record { 0 = addr }) pages

-- a Read, its buffer of zeros
abbrev pub read_call : (addr len : ℕ) → Call
read_call addr len = call.Read (record { 0 = addr }) (zeros len)

-- a Write of the bytes
abbrev pub write_call : (addr : ℕ) → List ℕ → Call
write_call addr bytes = call.Write (record { 0 = addr }) bytes

-- an Atomic, where the number is an operation's
abbrev pub atomic_call : (addr op a b : ℕ) → Option Call
atomic_call addr op a b = option_map (call.Atomic (record { 0 = addr })) (op_named op a b)

-- an Offload of the bytes, its buffer of zeros
abbrev pub offload_call : (object op : ℕ) → List ℕ → (room : ℕ) → Call
offload_call object op bytes room = call.Offload object op bytes (zeros room)

-- ---- a client is asked
-- the client doesn't take the call for this cause; memory may be refused at any time
abbrev pub IsCause : ClientState → Call → NotIssued → Type 0
IsCause s k (cause.Fault fault) = issue_fault s k ≡ Some fault
IsCause s k cause.UsedUp = s.issued ≡ 2 ^ 32 - 1
IsCause s k cause.NoMemory = Unit {0}
IsCause s k cause.BadArgument = ⊥

-- the call is issued under the next number, or the client is as it was, for a cause
abbrev pub Asked : Call → (old new : ClientState) → Result CallNo NotIssued → Type 0
Asked k old new (Ok issued) = (issue_fault old k ≡ None) × (issued ≡ record { 0 = old.issued + 1 }) × (new ≡ after_issue k old)
Asked k old new (Err why) = IsCause old k why × (new ≡ old)

-- the same of arguments that may stand for no call
abbrev pub AskedFor : Option Call → (old new : ClientState) → Result CallNo NotIssued → Type 0
AskedFor (Some k) old new issued = Asked k old new issued
AskedFor None old new issued = (issued ≡ Err cause.BadArgument) × (new ≡ old)

-- C asked for a call, and is told its status and its number
pub record IsTold (k : Option Call) (client : ClientState) (status before after : ℕ) : Type 0 where
  pub left : ClientState
  pub issued : Result CallNo NotIssued
  pub asked : AskedFor k client left issued
  pub is_status : status ≡ status_number issued
  pub is_number : after ≡ number_told before issued
