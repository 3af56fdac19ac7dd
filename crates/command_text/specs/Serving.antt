-- What was taken off a source, why an input is refused, and how a command is served that writes a text.
use Rattle.std.specs.Prelude.{◌≡◌, ◌⊎◌, ℕ, List, Option, Result, Err}
use Rattle.cl_outside.specs.Counts.{LastFailed, NoneFailed}
use Rattle.cl_outside.specs.Loops.{WroteFront}
use Rattle.cl_outside.specs.Told.{Added}
use Rattle.cl_outside.specs.declared.faults.Faults.{Faults}
use Rattle.texts.specs.Commands.{Command}
use Rattle.schedule_text.specs.declared.fault.ScheduleFault.{ScheduleFault}
use Rattle.schedule_text.specs.declared.fault.ScheduleFault.TheVariants as fault
use Rattle.command_text.specs.Headline.{SucceedsInText}
use Rattle.command_text.specs.Outputs.{bad_line_output, too_long_output}
use Rattle.command_text.specs.TextEnds.{EndsInText}
use Rattle.command_text.specs.Streams.{IsInput, IsTooMany, Streams}
use Rattle.command_text.specs.declared.output.Output.{Output}
use Rattle.command_text.specs.declared.left.Left.{Left}
use Rattle.command_text.specs.declared.left.Left.TheVariants as left
use Rattle.command_text.specs.declared.status.Status.{Status}
use Rattle.command_text.specs.declared.status.Status.TheVariants as status
use Rattle.command_text.specs.declared.input.Halt.{Halt}
use Rattle.command_text.specs.declared.input.Halt.TheVariants as halt
use Rattle.command_text.specs.declared.input.Input.{Input}
use Rattle.command_text.specs.declared.input.Input.TheVariants as input

-- ---- refusals
-- the output on an input that could not be read for this fault; there is none where memory was refused
abbrev pub IsRefusalOf : ScheduleFault → Output → Type 0
IsRefusalOf (fault.Line number what) output = output ≡ bad_line_output (number, what)
IsRefusalOf (fault.TooLong of_bytes number) output = output ≡ too_long_output (fault.TooLong of_bytes number)
IsRefusalOf fault.NoMemory output = ⊥

-- ---- an input
-- what was taken off the source: all that it had, or too much
abbrev pub IsTaken : Option (List ℕ) → Option (List ℕ) → Input → Type 0
IsTaken before after (input.Whole bytes) = IsInput bytes.items before after
IsTaken before after input.TooMany = (bytes : List ℕ) × IsTooMany bytes before after

-- of the reads that were made the last alone failed, where one did, and else none
abbrev pub CountsHalt : {A : Type 0} → Faults → Faults → Result A Halt → Type 0
CountsHalt before now (Err halt.ReadFault) = LastFailed before now
CountsHalt before now other = NoneFailed before now

-- ---- the end
-- the output was written, whole, and its status is the answer, or of all writes the last alone failed
abbrev pub Says : Output → (before after : Option (List ℕ)) → (faults faults_after : Faults) → Status → Type 0
Says output before after faults faults_after st =
    ((st ≡ output.status) × Added output.text before after × NoneFailed faults faults_after)
    ⊎ ((st ≡ status.WriteFault) × WroteFront output.text before after × LastFailed faults faults_after)

-- what is left by a command that asks for an output: with success what it worked with, and else nothing
abbrev pub KeepsInText : Option Command → Streams → Streams → Left → Status → Type 0
KeepsInText command before after kept status.Ok = SucceedsInText command before after kept
KeepsInText command before after kept other = kept ≡ left.Nothing

-- how a command that asks for an output was served: with which status it ends, and what is left
pub record ServesInText (command : Option Command) (before after : Streams) (kept : Left) (st : Status) : Type 0 where
  pub ends : EndsInText command before after st
  pub keeps : KeepsInText command before after kept st
