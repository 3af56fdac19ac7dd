-- The last line of a driven client, and what writing it does.
use Rattle.std.specs.Prelude.{◌≡◌, ℕ, List, [], ◌∷◌, codes, decimal}
use Rattle.std.specs.declared.option.Option.{Option}
use Rattle.cl_outside.specs.Counts.{LastFailed, NoneFailed}
use Rattle.cl_outside.specs.Loops.{WroteFront}
use Rattle.cl_outside.specs.Told.{Added}
use Rattle.cl_outside.specs.declared.faults.Faults.{Faults}
use Rattle.texts.specs.Text.{Text, line_of}
use Rattle.wire_loop.specs.Wired.{wire_fault_line}
use Rattle.client_command.specs.declared.ends.ClientEnd.{ClientEnd}
use Rattle.client_command.specs.declared.ends.ClientEnd.TheVariants as end

-- the line of a client that stalled at this moment, after so many turns in a row that were fruitless
abbrev pub stalled_line : (moment turns : ℕ) → Text
stalled_line moment turns = line_of (codes "stalled: moment" ∷ decimal moment ∷ codes "turns" ∷ decimal turns ∷ [])

-- the line of a failure of the wire was written, whole, or of all writes the last alone failed
abbrev pub EndsWireFault : Option (List ℕ) → Option (List ℕ) → Faults → Faults → ClientEnd → Type 0
EndsWireFault before after faults faults_after end.WireFault =
    Added wire_fault_line before after × NoneFailed faults faults_after
EndsWireFault before after faults faults_after end.WriteFault =
    WroteFront wire_fault_line before after × LastFailed faults faults_after
EndsWireFault before after faults faults_after other = ⊥

-- the line of a stall was written, whole, or of all writes the last alone failed, or nothing was written, out of memory
abbrev pub EndsStalled : Text → Option (List ℕ) → Option (List ℕ) → Faults → Faults → ClientEnd → Type 0
EndsStalled line before after faults faults_after end.Stalled = Added line before after × NoneFailed faults faults_after
EndsStalled line before after faults faults_after end.WriteFault = WroteFront line before after × LastFailed faults faults_after
EndsStalled line before after faults faults_after end.NoMemory = (after ≡ before) × NoneFailed faults faults_after
EndsStalled line before after faults faults_after other = ⊥
