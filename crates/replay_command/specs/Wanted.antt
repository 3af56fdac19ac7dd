-- What a replay asks of its input. No public clause cites this module.
use Rattle.std.specs.Prelude.{◌≡◌, ℕ, List, Option, Some, None}
use Rattle.cl_types.specs.declared.open_fault.OpenFault.{OpenFault}
use Rattle.cl_types.specs.declared.schedule.Schedule.{Schedule}
use Rattle.flat_model.specs.Opening.{open_fault}
use Rattle.texts.specs.Grammar.{schedule_of}
use Rattle.world.specs.Follows.{opened}
use Rattle.command_text.specs.Outputs.{AnswersInput, IsReplayable, bad_node_output, schedule_fault}
use Rattle.command_text.specs.Streams.{Gave, IsInput}
use Rattle.command_text.specs.declared.output.Output.{Output}
use Rattle.replay_command.specs.declared.judge.Wanted.{Wanted}
use Rattle.replay_command.specs.declared.judge.Wanted.TheVariants as wanted

-- these bytes are no schedule that is replayed, and the output is why
abbrev pub RefusesReplay : List ℕ → Output → Type 0
RefusesReplay bytes output = AnswersInput Schedule schedule_of schedule_fault (λ s o. ⊥) bytes output

-- ---- a replay
-- a schedule asks for this: a replay where its node opens, or the output that tells why it doesn't
abbrev pub IsOpened : Schedule → Wanted → Type 0
IsOpened s (wanted.Refused output) = (fault : OpenFault) × (open_fault s.config.node ≡ Some fault) × (output ≡ bad_node_output fault)
IsOpened s (wanted.Opened schedule world) = (schedule ≡ s) × (open_fault s.config.node ≡ None) × (world ≡ opened s.config)

-- these bytes ask for this: the output that tells why they are refused, or a replay of the schedule that they encode
abbrev pub IsWantedBy : List ℕ → Wanted → Type 0
IsWantedBy bytes (wanted.Refused output) = RefusesReplay bytes output
IsWantedBy bytes (wanted.Opened schedule world) = IsReplayable bytes schedule × (world ≡ opened schedule.config)

-- what a source gave asks for this
abbrev pub IsWantedOf : Option (List ℕ) → Option (List ℕ) → Wanted → Type 0
IsWantedOf before after (wanted.Refused output) = (bytes : List ℕ) × Gave bytes before after × RefusesReplay bytes output
IsWantedOf before after (wanted.Opened schedule world) =
    (bytes : List ℕ) × IsInput bytes before after × IsReplayable bytes schedule × (world ≡ opened schedule.config)
