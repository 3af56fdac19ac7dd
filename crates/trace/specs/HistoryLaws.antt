-- A law of histories, proved by a function of src/history_laws.rt.
use Rattle.std.specs.Prelude.{ℕ, List}
use Rattle.cl_types.specs.declared.config.Config.{Config}
use Rattle.cl_types.specs.declared.schedule.Event.{Event}
use Rattle.trace.specs.Events.{account, account_of_latest}
use Rattle.trace.specs.Properties.{IsInOrder}

-- the history of every account stands in the order of line and position, with all records and with the latest
abbrev pub HistoriesAreInOrder : Type 0
HistoriesAreInOrder =
    (config : Config) (events : List (ℕ × Event))
    → IsInOrder (account config events).history × IsInOrder (account_of_latest config events).history
