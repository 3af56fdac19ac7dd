-- What a contract sees of the objects in memory.
use Rattle.std.specs.Prelude.{◌≡◌, ℕ, ◌-◌, List, length, min, Option, slice_get, unwrap_or}
use Rattle.cl_outside.specs.Plan.{CallPlan}
use Rattle.cl_outside.specs.Wire.{Message, Binding}
use Rattle.cl_outside.specs.declared.faults.Faults.{Faults}
use Rattle.cl_outside.specs.declared.wire.Bound.{Bound}
use Rattle.cl_outside.specs.declared.source.Read.{Read}
use Rattle.cl_outside.specs.declared.source.Read.TheVariants.{Got}
use Rattle.cl_outside.specs.declared.sink.Wrote.{Wrote}
use Rattle.cl_outside.specs.declared.sink.Wrote.TheVariants.{Put}

-- a source: the bytes that are left, the reads that fail, and those that have failed
pub record Feed : Type 0 where
  pub left : List ℕ
  pub plan : CallPlan
  pub faults : Faults

-- a read gave as many bytes as were left and fit the buffer
abbrev pub GivesWhatFits : List ℕ → List ℕ → Read → Type 0
GivesWhatFits left buf (Got n) = n ≡ min (length left) (length buf)
GivesWhatFits left buf other = Unit {0}

-- a sink: the bytes that were written, the writes that fail, and those that have failed
pub record Store : Type 0 where
  pub written : List ℕ
  pub plan : CallPlan
  pub faults : Faults

-- a write took the whole piece
abbrev pub TakesAll : List ℕ → Wrote → Type 0
TakesAll piece (Put n) = n ≡ length piece
TakesAll piece other = Unit {0}

-- a clock repeats the last of its moments, or 0 where there is none
abbrev pub last_of : List ℕ → ℕ
last_of moments = unwrap_or (slice_get moments (length moments - 1)) 0

-- a wire: what it answers to a bind, what it tells, the receives and the sends that fail, and its counts
pub record Script : Type 0 where
  pub bound : Bound
  pub last_bind : Option Binding
  pub coming : List Message
  pub sent : List Message
  pub recv_plan : CallPlan
  pub send_plan : CallPlan
  pub faults : Faults
  pub idles : ℕ
