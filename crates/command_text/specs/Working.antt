-- Working the events of a schedule, with and without their text.
use Rattle.std.specs.Prelude.{◌≡◌, ℕ, ◌+◌, ◌≤◌, List, ◌++◌, Option, length}
use Rattle.cl_outside.specs.Counts.{LastFailed, NoneFailed}
use Rattle.cl_outside.specs.Loops.{WroteFront}
use Rattle.cl_outside.specs.Told.{Added}
use Rattle.cl_outside.specs.declared.faults.Faults.{Faults}
use Rattle.cl_types.specs.declared.schedule.Event.{Event}
use Rattle.cl_types.specs.declared.schedule.Schedule.{Schedule}
use Rattle.texts.specs.Text.{Text}
use Rattle.trace.specs.Schedules.{IsGood, IsRisingFrom}
use Rattle.world.specs.Follows.{StandsFor}
use Rattle.world.specs.Running.{Running}
use Rattle.command_text.specs.Suited.{IsSuited}
use Rattle.command_text.specs.declared.left.Left.{Left}
use Rattle.command_text.specs.declared.left.Left.TheVariants as left
use Rattle.command_text.specs.declared.status.Status.{Status}
use Rattle.command_text.specs.declared.status.Status.TheVariants as status

-- the schedule was read, and its node keeps at least one reply
pub record IsServed (s : Schedule) : Type 0 where
  pub good : IsGood s.config s.events
  pub suited : IsSuited s
  pub keeps : 1 ≤ s.config.node.retry

-- after i of the events the world stands for them
pub record Reached (s : Schedule) (i : ℕ) (w : Running) : Type 0 where
  pub done : List (ℕ × Event)
  pub rest : List (ℕ × Event)
  pub split : s.events ≡ done ++ rest
  pub place : length done ≡ i
  pub late : i ≤ w.line
  pub rising : IsRisingFrom (w.line + 1) rest
  pub stands : StandsFor s.config done w

-- how working a schedule ends, by what the sink was given of its text and which writes failed: whole, with the world that
-- stands for the events, or cut, and then nothing is left
abbrev pub Plays : Schedule → Text → (before after : Option (List ℕ)) → (faults faults_after : Faults) → Left → Status → Type 0
Plays s text before after faults faults_after kept status.Ok =
    Added text before after × NoneFailed faults faults_after
    × (w : Running) × (kept ≡ left.Replayed w) × StandsFor s.config s.events w
Plays s text before after faults faults_after kept status.WriteFault =
    WroteFront text before after × LastFailed faults faults_after × (kept ≡ left.Nothing)
Plays s text before after faults faults_after kept status.NoMemory =
    WroteFront text before after × NoneFailed faults faults_after × (kept ≡ left.Nothing)
Plays s text before after faults faults_after kept other = ⊥
