-- What `replay` writes for the bytes of a schedule, to be compared with worked texts.
use Rattle.std.specs.Prelude.{ℕ, List, [], ◌∷◌, ◌++◌, Option, Some, None, Result, Ok, Err}
use Rattle.cl_types.specs.declared.schedule.Schedule.{Schedule}
use Rattle.texts.specs.Text.{Text}
use Rattle.trace_texts.specs.Transcripts.{transcript}
use Rattle.texts.specs.Texts.{fault_line, open_fault_line}
use Rattle.texts.specs.Grammar.{Fault, schedule_of}
use Rattle.flat_model.specs.Opening.{open_fault}
use Rattle.cl_types.specs.declared.open_fault.OpenFault.{OpenFault}

-- lines, each with a line feed
abbrev pub text : List Text → Text
text [] = []
text (line ∷ lines) = line ++ 10 ∷ text lines

-- of a schedule: why its node doesn't open, or its transcript
abbrev pub opened : Schedule → Option OpenFault → Text
opened s None = transcript s
opened s (Some fault) = open_fault_line fault

-- the line of the first bad line, or what comes of the schedule
abbrev pub replayed : Result Schedule Fault → Text
replayed (Err fault) = fault_line fault
replayed (Ok s) = opened s (open_fault s.config.node)

-- what `replay` writes for these bytes
abbrev pub replay : List ℕ → Text
replay bytes = replayed (schedule_of bytes)
