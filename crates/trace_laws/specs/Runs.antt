-- The law of runs: the history is a run of the flat machine, and each peek shows the memory of that run.
use Rattle.std.specs.Prelude.{ℕ, List}
use Rattle.cl_types.specs.declared.config.Config.{Config}
use Rattle.cl_types.specs.declared.schedule.Event.{Event}
use Rattle.trace.specs.Account.{Account}
use Rattle.trace.specs.Events.{account}
use Rattle.trace.specs.Properties.{Peeks}
use Rattle.flat_model.specs.Run.{IsRun}
use Rattle.trace.specs.Schedules.{IsRisingFrom, AreTyped}

-- the history is a run of the flat machine, and each peek shows its memory
pub record RunsAndShows (config : Config) (a : Account) : Type 0 where
  pub run : IsRun config.node a.history
  pub peeks : Peeks config a

-- the history of every account of rising lines and typed events is a run, and its peeks show it
abbrev pub LawOfRuns : Type 0
LawOfRuns =
    (config : Config) (events : List (ℕ × Event)) → IsRisingFrom 0 events → AreTyped events
    → RunsAndShows config (account config events)
