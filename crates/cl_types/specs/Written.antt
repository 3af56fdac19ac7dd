-- What stands written in a line of a schedule: bytes, and a call.
use Rattle.std.specs.Prelude.{ℕ, List, replicate}
use Rattle.std.specs.List.{concat}
use Rattle.cl_types.specs.declared.call.Call.{Call}
use Rattle.cl_types.specs.declared.call.Call.TheVariants as call
use Rattle.cl_types.specs.declared.schedule.Written.{Written}
use Rattle.cl_types.specs.declared.schedule.CallText.{CallText}
use Rattle.cl_types.specs.declared.schedule.CallText.TheVariants as text
use Rattle.cl_types.specs.Bytes.{zeros}

-- the bytes that stand written
abbrev pub expanded : Written → List ℕ
expanded w = concat (replicate w.times w.bytes)

-- the call that a line of a schedule stands for, its buffer of zeros
abbrev pub call_of : CallText → Call
call_of (text.Alloc pages perm) = call.Alloc pages perm
call_of (text.Free addr pages) = call.Free addr pages
call_of (text.Read addr len) = call.Read addr (zeros len)
call_of (text.Write addr bytes) = call.Write addr (expanded bytes)
call_of (text.Atomic addr op) = call.Atomic addr op
call_of (text.Offload number op out bytes) = call.Offload number op (expanded bytes) (zeros out)
call_of text.Fence = call.Fence
