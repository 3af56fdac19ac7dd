-- The numbers of `clio.h`.
use Rattle.std.specs.Prelude.{ℕ, ◌==◌, Option, Some, None, if◌then◌else◌, Result, Ok, Err}
use Rattle.cl_types.specs.declared.numbers.CallNo.{CallNo}
use Rattle.cl_types.specs.declared.call.AtomicOp.{AtomicOp}
use Rattle.cl_types.specs.declared.call.AtomicOp.TheVariants.{Lock, Unlock, Add, Cas}
use Rattle.cl_types.specs.declared.call.Perm.{Perm}
use Rattle.cl_types.specs.declared.call.Perm.TheVariants.{ReadOnly, WriteOnly, ReadWrite}
use Rattle.cl_types.specs.declared.frame.IssueFault.{IssueFault}
use Rattle.cl_types.specs.declared.frame.IssueFault.TheVariants as fault
use Rattle.client_core.specs.declared.answers.Heard.{Heard}
use Rattle.client_core.specs.declared.answers.Heard.TheVariants as heard
use Rattle.clio_c.specs.declared.issuing.NotIssued.{NotIssued}
use Rattle.clio_c.specs.declared.issuing.NotIssued.TheVariants as cause

-- ---- numbers that C hands in
-- the permission of a number, where it stands for one
abbrev pub perm_named : ℕ → Option Perm
perm_named n = if n == 1 then Some ReadOnly else if n == 2 then Some WriteOnly else if n == 3 then Some ReadWrite else None

-- the operation of a number on a word, where it stands for one: a is added or expected, b is put
abbrev pub op_named : ℕ → (a b : ℕ) → Option AtomicOp
op_named n a b =
    if n == 1 then Some Lock else if n == 2 then Some Unlock else if n == 3 then Some (Add a) else if n == 4 then Some (Cas a b) else None

-- ---- numbers that C is answered
-- the number of a fault
abbrev pub fault_number : IssueFault → ℕ
fault_number fault.QueueFull = 1
fault_number fault.Empty = 2
fault_number (fault.TooLong len) = 3
fault_number (fault.BadAddress addr len) = 4
fault_number (fault.Misaligned addr) = 5

-- the number of a cause for which a call is not issued
abbrev pub cause_number : NotIssued → ℕ
cause_number cause.BadArgument = 101
cause_number cause.UsedUp = 102
cause_number (cause.Fault fault) = fault_number fault
cause_number cause.NoMemory = 100

-- the status of a call that was asked for: 0 where it is issued
abbrev pub status_number : Result CallNo NotIssued → ℕ
status_number (Ok issued) = 0
status_number (Err cause) = cause_number cause

-- what stands in the place for the call's number, after what stood there: its number, where it is issued
abbrev pub number_told : ℕ → Result CallNo NotIssued → ℕ
number_told before (Ok issued) = issued.0
number_told before (Err cause) = before

-- the number of what was heard
abbrev pub heard_number : Heard → ℕ
heard_number (heard.Took part) = 0
heard_number (heard.Ended part) = 1
heard_number (heard.Late orig) = 2
heard_number (heard.Unfit orig) = 3
heard_number (heard.Other client) = 4
heard_number (heard.Bad fault) = 5
