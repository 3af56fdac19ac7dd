-- What a command is to write, and how one ends that writes a text.
use Rattle.std.specs.Prelude.{ℕ, Bool, true, false, Option, Some, None, ◌≡◌, ◌⊎◌, ◌+◌, List, IsTrue}
use Rattle.texts.specs.Commands.{Command, Replay, Check, Storm, Serve, Drive}
use Rattle.cl_outside.specs.Counts.{LastFailed, NoneFailed}
use Rattle.cl_outside.specs.Loops.{TookUpTo, WroteFront}
use Rattle.cl_outside.specs.Told.{Added}
use Rattle.cl_types.specs.declared.limits.TheConstants.{INPUT_BYTES}
use Rattle.command_text.specs.Outputs.{AnswersCheck, AnswersReplay, RefusesScript, bad_words, storm_output}
use Rattle.command_text.specs.declared.output.Output.{Output}
use Rattle.command_text.specs.declared.status.Status.{Status}
use Rattle.command_text.specs.declared.status.Status.TheVariants as status
use Rattle.command_text.specs.Streams.{Streams, Gave}

-- the command reads an input
abbrev pub reads_input : Option Command → Bool
reads_input (Some Replay) = true
reads_input (Some Check) = true
reads_input (Some (Drive port client pid)) = true
reads_input other = false

-- ---- what is to be written
-- the output that a command asks for, with what the source has left before and after: one that reads an input asks by
-- what the source gave, of which a client asks for an output only where its script is refused; any other leaves the
-- source as it was, and a node asks for none
abbrev pub Asks : Option Command → Option (List ℕ) → Option (List ℕ) → Output → Type 0
Asks (Some Replay) before after output = (bytes : List ℕ) × Gave bytes before after × AnswersReplay bytes output
Asks (Some Check) before after output = (bytes : List ℕ) × Gave bytes before after × AnswersCheck bytes output
Asks (Some (Storm seed calls)) before after output = (after ≡ before) × (output ≡ storm_output seed calls)
Asks (Some (Serve port config frames idles)) before after output = ⊥
Asks (Some (Drive port client pid)) before after output = (bytes : List ℕ) × Gave bytes before after × RefusesScript bytes output
Asks None before after output = (after ≡ before) × (output ≡ bad_words)

-- ---- the end
-- what was taken off the source, by whether an input is read: nothing, or at most so many bytes
abbrev pub TakesBy : Bool → ℕ → Option (List ℕ) → Option (List ℕ) → Type 0
TakesBy false most before after = after ≡ before
TakesBy true most before after = TookUpTo most before after

-- nothing was written, or a front of what was to be written
abbrev pub WroteSome : Option Command → Streams → Streams → Type 0
WroteSome command before after =
    ((after.written ≡ before.written) × TakesBy (reads_input command) (INPUT_BYTES + 1) before.left after.left)
    ⊎ ((output : Output) × Asks command before.left after.left output × WroteFront output.text before.written after.written)

-- with which status a command ends that asks for an output
abbrev pub EndsInText : Option Command → Streams → Streams → Status → Type 0
-- the command reads an input, of all reads the last alone failed, when no more was taken than an input may have, and
-- nothing was written
EndsInText command before after status.ReadFault =
    IsTrue (reads_input command) × LastFailed before.read_faults after.read_faults × (after.written ≡ before.written)
    × NoneFailed before.write_faults after.write_faults × TookUpTo INPUT_BYTES before.left after.left
-- of all writes the last alone failed, no read did, and a front of what was to be written was
EndsInText command before after status.WriteFault =
    LastFailed before.write_faults after.write_faults × NoneFailed before.read_faults after.read_faults
    × (output : Output) × Asks command before.left after.left output × WroteFront output.text before.written after.written
-- there was no memory, and a front of what was to be written was, or nothing
EndsInText command before after status.NoMemory =
    NoneFailed before.read_faults after.read_faults × NoneFailed before.write_faults after.write_faults × WroteSome command before after
-- no output has these
EndsInText command before after status.WireFault = ⊥
EndsInText command before after status.Stalled = ⊥
-- the output has this status, and its text was written, whole
EndsInText command before after status =
    NoneFailed before.read_faults after.read_faults × NoneFailed before.write_faults after.write_faults
    × (output : Output) × Asks command before.left after.left output × (output.status ≡ status) × Added output.text before.written after.written
