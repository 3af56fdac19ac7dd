-- The laws of the history: each part at most once and with its own request, dependent calls in order of issue, and each
-- entry at a delivery of its own frame.
use Rattle.std.specs.Prelude.{ℕ, List}
use Rattle.cl_types.specs.declared.config.Config.{Config}
use Rattle.cl_types.specs.declared.schedule.Event.{Event}
use Rattle.trace.specs.Events.{account}
use Rattle.trace.specs.Properties.{Stands, Once, Ordered}
use Rattle.trace.specs.Schedules.{IsRisingFrom, AreTyped}

-- Each entry stands at a delivery of a live frame that carries its part: for a changing part the first at which the node
-- was not busy, for a reading part the one that made the reply which the client took.
abbrev pub LawOfStands : Type 0
LawOfStands =
    (config : Config) (events : List (ℕ × Event)) → IsRisingFrom 0 events → AreTyped events
    → Stands (account config events)

-- Each entry is of a part of an issued call, no part has two, and each answered call has its answer from its parts'
-- entries.
abbrev pub LawOfParts : Type 0
LawOfParts =
    (config : Config) (events : List (ℕ × Event)) → IsRisingFrom 0 events → AreTyped events
    → Once config (account config events)

-- the entries of a client's dependent calls stand in order of issue
abbrev pub LawOfOrder : Type 0
LawOfOrder =
    (config : Config) (events : List (ℕ × Event)) → IsRisingFrom 0 events → AreTyped events
    → Ordered (account config events)
