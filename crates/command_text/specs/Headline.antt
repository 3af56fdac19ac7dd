-- What every history that is printed keeps, and what a command leaves that writes a text and succeeds.
use Rattle.std.specs.Prelude.{◌≡◌, ℕ, List, Ok, Option, Some, length}
use Rattle.std.specs.List.{AllByRecursion as Each}
use Rattle.cl_outside.specs.Told.{Added}
use Rattle.cl_types.specs.declared.config.Config.{Config}
use Rattle.cl_types.specs.declared.schedule.Schedule.{Schedule}
use Rattle.trace.specs.Account.{Account, Frame}
use Rattle.trace.specs.Events.{account, account_of_latest}
use Rattle.texts.specs.Commands.{Command, Replay, Check, Storm}
use Rattle.texts.specs.Grammar.{schedule_of}
use Rattle.trace.specs.Properties.{Once, Ordered, Peeks, Stands}
use Rattle.flat_model.specs.Run.{IsRun}
use Rattle.history_check.specs.declared.history.Verdict.TheVariants.{Run}
use Rattle.history_laws.specs.Ends.{AddsUp}
use Rattle.storm_gen.specs.Generated.{generated}
use Rattle.trace_laws.specs.Spelled.{SpellsLoad}
use Rattle.trace_laws.specs.Times.{AreOfAge}
use Rattle.trace_texts.specs.Transcripts.{transcript}
use Rattle.command_text.specs.Outputs.{History, IsCheckable, IsReplayable, storm_output, verdict_output}
use Rattle.command_text.specs.Streams.{IsInput, Streams}
use Rattle.world.specs.Follows.{StandsFor}
use Rattle.world.specs.Running.{Running}
use Rattle.command_text.specs.declared.left.Left.{Left}
use Rattle.command_text.specs.declared.left.Left.TheVariants as left

-- what the account of a schedule keeps, of whose history the transcript has a line for each entry
pub record Headline (config : Config) (a : Account) : Type 0 where
  -- the history is a run of the flat machine from empty spaces, which read as zeros
  pub run : IsRun config.node a.history
  -- each entry stands at a delivery of its own frame, which asks its request under the id of its part's first sending
  pub stands : Stands a
  -- each part of an answered call is there exactly once, with the reply that made its answer, and any other at most once
  pub once : Once config a
  -- the entries of a client's dependent calls stand in issue order
  pub ordered : Ordered a
  -- every peek shows the run's memory there
  pub peeks : Peeks config a
  -- no frame carries a part that is too old, or that was given up, or whose entry is as old as the span
  pub times : AreOfAge a

-- the account of every schedule that bytes spell keeps it
abbrev pub LawOfHeadline : Type 0
LawOfHeadline = (bytes : List ℕ) (s : Schedule) → schedule_of bytes ≡ Ok s → Headline s.config (account s.config s.events)

-- the account of the schedule keeps the headline, and the world that is left stands for the schedule's events
pub record Worked (s : Schedule) (kept : Left) : Type 0 where
  pub headline : Headline s.config (account s.config s.events)
  -- the bytes of each frame spell what the account says that it carries
  pub frames : Each (λ (f : Frame). SpellsLoad f.bytes f.line f.load) (account s.config s.events).frames
  -- as many calls were issued as are done, refused, timed out and unended together
  pub counts : AddsUp s.config (account s.config s.events)
  -- it is the account off which the world is read, whose node keeps its latest records alone
  pub same : account s.config s.events ≡ account_of_latest s.config s.events
  pub world : Running
  pub left : kept ≡ left.Replayed world
  pub stands : StandsFor s.config s.events world

-- the transcript of the schedule that the input encodes was written, whole, and its events were worked
pub record Replays (before after : Streams) (kept : Left) : Type 0 where
  pub bytes : List ℕ
  pub input : IsInput bytes before.left after.left
  pub schedule : Schedule
  pub replayable : IsReplayable bytes schedule
  pub printed : Added (transcript schedule) before.written after.written
  pub worked : Worked schedule kept

-- the history that the input encodes is a run, which was written, and nothing is left
pub record Checks (before after : Streams) (kept : Left) : Type 0 where
  pub bytes : List ℕ
  pub input : IsInput bytes before.left after.left
  pub history : History
  pub checkable : IsCheckable bytes history
  pub run : IsRun history.0.node history.1
  pub printed : Added (verdict_output (length history.1) Run).text before.written after.written
  pub left : kept ≡ left.Nothing

-- what the generated schedule comes to was written, whole, its events were worked, and the source was left
pub record Storms (seed calls : ℕ) (before after : Streams) (kept : Left) : Type 0 where
  pub unread : after.left ≡ before.left
  pub printed : Added (storm_output seed calls).text before.written after.written
  pub worked : Worked (generated seed calls) kept

-- with success this came about, by a command that asks for an output
abbrev pub SucceedsInText : Option Command → Streams → Streams → Left → Type 0
SucceedsInText (Some Replay) before after kept = Replays before after kept
SucceedsInText (Some Check) before after kept = Checks before after kept
SucceedsInText (Some (Storm seed calls)) before after kept = Storms seed calls before after kept
SucceedsInText other before after kept = ⊥
