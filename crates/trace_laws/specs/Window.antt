-- The law of the window: the latest records tell of what is live what all records tell.
use Rattle.std.specs.Prelude.{ℕ, ◌≤◌, ◌≡◌, true, List}
use Rattle.cl_types.specs.declared.config.Config.{Config}
use Rattle.cl_types.specs.declared.schedule.Event.{Event}
use Rattle.cl_types.specs.Times.{is_live}
use Rattle.trace.specs.Account.{Account, Frame, Carried}
use Rattle.trace.specs.Events.{account, account_of_latest, record_of}
use Rattle.node_model.specs.Handling.{latest}
use Rattle.flat_model.specs.Run.{changing_of}
use Rattle.trace.specs.Schedules.{IsRisingFrom, AreTyped}
use Rattle.trace_laws.specs.Times.{clock, EachItem}

-- from now on, while the frame is live, the latest changing entries tell of the item's part what all tell
abbrev pub LatestTell : Config → Account → Frame → Carried → Type 0
LatestTell config a f i =
    (t : ℕ) → clock a ≤ t → is_live t f.moment ≡ true
    → record_of (latest config.node.retry (changing_of a.history)) i.item.head.client i.part
    ≡ record_of (changing_of a.history) i.item.head.client i.part

-- in the account of every schedule the latest records tell of a live frame what all records tell
abbrev pub LawOfWindow : Type 0
LawOfWindow =
    (config : Config) (events : List (ℕ × Event))
    → 1 ≤ config.node.retry → IsRisingFrom 0 events → AreTyped events
    → EachItem (LatestTell config (account config events)) (account config events).frames

-- So the account that remembers the latest changing entries, so many as the node keeps, is the account that remembers
-- all.
abbrev pub OneAccount : Type 0
OneAccount =
    (config : Config) (events : List (ℕ × Event))
    → 1 ≤ config.node.retry → IsRisingFrom 0 events → AreTyped events
    → account config events ≡ account_of_latest config events
