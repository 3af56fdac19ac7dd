-- What the program writes, and with which status it then ends, by what it was given.
use Rattle.std.specs.Prelude.{◌≡◌, ℕ, true, List, [], ◌∷◌, ◌++◌, length, Option, None, Some, Result, Ok, Err, codes, decimal}
use Rattle.cl_types.specs.declared.config.Config.{Config}
use Rattle.cl_types.specs.declared.line.Entry.{Entry}
use Rattle.cl_types.specs.declared.open_fault.OpenFault.{OpenFault}
use Rattle.cl_types.specs.declared.schedule.CallText.{CallText}
use Rattle.cl_types.specs.declared.schedule.Schedule.{Schedule}
use Rattle.flat_model.specs.Opening.{open_fault}
use Rattle.history_check.specs.Verdicts.{IsVerdict}
use Rattle.history_check.specs.declared.history.Verdict.{Verdict}
use Rattle.history_check.specs.declared.history.Verdict.TheVariants.{Run, NotRun}
use Rattle.schedule_text.specs.Reading.{too_long_of}
use Rattle.schedule_text.specs.declared.fault.ScheduleFault.{ScheduleFault}
use Rattle.schedule_text.specs.declared.fault.ScheduleFault.TheVariants.{TooLong}
use Rattle.storm_gen.specs.Generated.{generated}
use Rattle.storm_gen.specs.SummaryTexts.{summary_text}
use Rattle.texts.specs.Grammar.{Fault, schedule_of, script_of}
use Rattle.texts.specs.Text.{Text, line_end, line_of}
use Rattle.texts.specs.Texts.{fault_line, open_fault_line}
use Rattle.trace.specs.Events.{account}
use Rattle.trace.specs.Summaries.{summary_of}
use Rattle.trace_texts.specs.Transcripts.{transcript}
use Rattle.transcript_text.specs.HistoryGrammar.{history_of}
use Rattle.command_text.specs.declared.output.Output.{Output}
use Rattle.command_text.specs.declared.status.Status.TheVariants as status

-- ---- texts
-- the line for an input of too many bytes
abbrev pub bytes_text : Text
bytes_text = codes "too long: bytes 16777217" ++ line_end

-- the line for an input of too many lines
abbrev pub lines_text : Text
lines_text = codes "too long: lines 200001" ++ line_end

-- the line for an input that is too long
abbrev pub too_long_text : ScheduleFault → Text
too_long_text (TooLong true number) = bytes_text
too_long_text other = lines_text

-- the output on words that are no command
abbrev pub bad_words : Output
bad_words = record { text = codes "bad words" ++ line_end; status = status.BadWords }

-- ---- an input, by the grammar that reads it and why the node of what was read doesn't open, if there is one and it doesn't
-- the input is within the limits, and a line of it is bad
pub record IsRefused (A : Type 0) (read : List ℕ → Result A Fault) (bytes : List ℕ) : Type 0 where
  pub short : too_long_of bytes ≡ None
  pub fault : Fault
  pub line : read bytes ≡ Err fault

-- the input encodes a value within the limits, and its node doesn't open
pub record HasBadNode (A : Type 0) (read : List ℕ → Result A Fault) (fault_of : A → Option OpenFault) (bytes : List ℕ) : Type 0 where
  pub short : too_long_of bytes ≡ None
  pub value : A
  pub encoded : read bytes ≡ Ok value
  pub fault : OpenFault
  pub closed : fault_of value ≡ Some fault

-- the input encodes this value, within the limits, and its node opens
pub record Encodes (A : Type 0) (read : List ℕ → Result A Fault) (fault_of : A → Option OpenFault) (bytes : List ℕ) (value : A) : Type 0 where
  pub short : too_long_of bytes ≡ None
  pub encoded : read bytes ≡ Ok value
  pub opens : fault_of value ≡ None

-- the input has too many bytes or lines
abbrev pub IsTooLong : List ℕ → Type 0
IsTooLong bytes = (fault : ScheduleFault) × (too_long_of bytes ≡ Some fault)

-- the output on a bad line
abbrev pub bad_line_output : Fault → Output
bad_line_output fault = record { text = fault_line fault; status = status.BadInput }

-- the output on an input that is too long
abbrev pub too_long_output : ScheduleFault → Output
too_long_output fault = record { text = too_long_text fault; status = status.TooLong }

-- the output on a node that doesn't open
abbrev pub bad_node_output : OpenFault → Output
bad_node_output fault = record { text = open_fault_line fault; status = status.BadNode }

-- the output on an input: why it is refused, or what its value asks for
pub data AnswersInput (A : Type 0) (read : List ℕ → Result A Fault) (fault_of : A → Option OpenFault) (Asked : A → Output → Type 0) (bytes : List ℕ) (output : Output) : Type 0 where
  OnLong : (long : IsTooLong bytes) → (is : output ≡ too_long_output long.0) → AnswersInput A read fault_of Asked bytes output
  OnBadLine : (refused : IsRefused A read bytes) → (is : output ≡ bad_line_output refused.fault) → AnswersInput A read fault_of Asked bytes output
  OnBadNode : (bad : HasBadNode A read fault_of bytes) → (is : output ≡ bad_node_output bad.fault) → AnswersInput A read fault_of Asked bytes output
  OnValue : (value : A) → (encoded : Encodes A read fault_of bytes value) → (asked : Asked value output) → AnswersInput A read fault_of Asked bytes output

-- ---- a schedule that is replayed
-- why the node of a schedule doesn't open, if it doesn't
abbrev pub schedule_fault : Schedule → Option OpenFault
schedule_fault s = open_fault s.config.node

-- a schedule asks for its transcript
abbrev pub AsksTranscript : Schedule → Output → Type 0
AsksTranscript s output = output ≡ record { text = transcript s; status = status.Ok }

-- the output of a replay of these bytes
abbrev pub AnswersReplay : List ℕ → Output → Type 0
AnswersReplay bytes output = AnswersInput Schedule schedule_of schedule_fault AsksTranscript bytes output

-- the input is this schedule, within the limits, and its node opens
abbrev pub IsReplayable : List ℕ → Schedule → Type 0
IsReplayable bytes s = Encodes Schedule schedule_of schedule_fault bytes s

-- ---- a transcript that is checked
-- a configuration and the entries of a history
abbrev pub History : Type 0
History = Config × List Entry

-- why the node of a history doesn't open, if it doesn't
abbrev pub history_fault : History → Option OpenFault
history_fault h = open_fault h.0.node

-- the output on a history of so many entries, by its verdict
abbrev pub verdict_output : ℕ → Verdict → Output
verdict_output count Run = record { text = line_of (codes "run" ∷ decimal count ∷ []); status = status.Ok }
verdict_output count (NotRun entry) = record { text = line_of (codes "not a run: entry" ∷ decimal entry ∷ []); status = status.NotRun }

-- a history asks for its verdict
abbrev pub AsksVerdict : History → Output → Type 0
AsksVerdict h output = (verdict : Verdict) × IsVerdict h.0.node h.1 verdict × (output ≡ verdict_output (length h.1) verdict)

-- the output of a check of these bytes
abbrev pub AnswersCheck : List ℕ → Output → Type 0
AnswersCheck bytes output = AnswersInput History history_of history_fault AsksVerdict bytes output

-- the input is this history, within the limits, and its node opens
abbrev pub IsCheckable : List ℕ → History → Type 0
IsCheckable bytes h = Encodes History history_of history_fault bytes h

-- the input is a history that is no run
pub record HasBadEntry (bytes : List ℕ) : Type 0 where
  pub history : History
  pub checkable : IsCheckable bytes history
  pub entry : ℕ
  pub fault : IsVerdict history.0.node history.1 (NotRun entry)

-- ---- a script that a client is driven through
-- the calls of a script, each with its line
abbrev pub Calls : Type 0
Calls = List (ℕ × CallText)

-- a script has no node
abbrev pub no_fault : Calls → Option OpenFault
no_fault calls = None

-- the output on a script that is refused
abbrev pub RefusesScript : List ℕ → Output → Type 0
RefusesScript bytes output = AnswersInput Calls script_of no_fault (λ calls o. ⊥) bytes output

-- the input is this script, within the limits
abbrev pub IsScript : List ℕ → Calls → Type 0
IsScript bytes calls = Encodes Calls script_of no_fault bytes calls

-- ---- a generated schedule
-- the output of a storm: what the account of its schedule counts
abbrev pub storm_output : (seed calls : ℕ) → Output
storm_output seed calls =
    let s : Schedule = generated seed calls in
    record { text = summary_text (summary_of (account s.config s.events)); status = status.Ok }
