-- What a world and the laws of traces ask of a schedule, and that each generated one has it.
use Rattle.std.specs.Prelude.{ℕ, ◌≡◌, ◌<◌, ◌≤◌, None, map}
use Rattle.std.specs.List.{AllByRecursion as Each}
use Rattle.cl_types.specs.declared.limits.TheConstants.{LINES_END}
use Rattle.cl_types.specs.declared.schedule.Event.{Event}
use Rattle.cl_types.specs.declared.schedule.Event.TheVariants as event
use Rattle.cl_types.specs.declared.schedule.Schedule.{Schedule}
use Rattle.client_model.specs.Apart.{AreApart}
use Rattle.flat_model.specs.Opening.{open_fault}
use Rattle.trace.specs.Schedules.{IsGood}
use Rattle.storm_gen.specs.Generated.{generated}
use Rattle.storm_gen.specs.declared.limits.TheConstants.{MOST_CALLS}

-- a call, a poll, a frame that is delivered or dropped, or 1 to 10 ticks
abbrev pub IsPlain : Event → Type 0
IsPlain (event.Call client call) = Unit {0}
IsPlain (event.Poll client) = Unit {0}
IsPlain (event.Deliver frame) = Unit {0}
IsPlain event.DeliverNext = Unit {0}
IsPlain event.Drop = Unit {0}
IsPlain (event.Tick by) = (1 ≤ by) × (by ≤ 10)
-- nothing is looked at, and no end gets garbage
IsPlain other = ⊥

-- the schedule suits a world
pub record IsSuitable (s : Schedule) : Type 0 where
  -- it has the premises of the laws of traces
  pub good : IsGood s.config s.events
  -- no line has a great number
  pub bounded : Each (λ (e : ℕ × Event). e.0 < LINES_END) s.events
  pub plain : Each (λ (e : ℕ × Event). IsPlain e.1) s.events
  -- each client has a number of its own
  pub apart : AreApart (map (λ given. given.0.0) s.config.clients)
  pub opens : open_fault s.config.node ≡ None

-- every generated schedule suits a world
abbrev pub GeneratedSuit : Type 0
GeneratedSuit = (seed calls : ℕ) → calls ≤ MOST_CALLS → IsSuitable (generated seed calls)
