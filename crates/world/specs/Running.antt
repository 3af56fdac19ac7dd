-- A running world: what a contract sees of it, and what its calls tell and ask.
use Rattle.std.specs.Prelude.{ℕ, ◌≤◌, Bool, length, map}
use Rattle.cl_types.specs.declared.config.Config.{Config}
use Rattle.cl_types.specs.declared.line.EventLine.{EventLine}
use Rattle.cl_types.specs.declared.line.Summary.{Summary}
use Rattle.cl_types.specs.declared.schedule.Event.{Event}
use Rattle.cl_types.specs.declared.schedule.Event.TheVariants as event
use Rattle.client_model.specs.Apart.{AreApart}
use Rattle.data_path.specs.Access.{IsPiece}
use Rattle.world.specs.Summed.{summed}
use Rattle.world.specs.Worlds.{WorldState, Stepped}
use Rattle.cl_types.specs.declared.limits.TheConstants.{MOST_TICKS}

-- a running world: the world, what its events came to, the line of the latest, and whether one has wanted memory and found none
pub record Running : Type 0 where
  pub world : WorldState
  pub summary : Summary
  pub line : ℕ
  pub spent : Bool

-- what an event did, told in its line, and the world after it
abbrev pub stepped : EventLine → WorldState → Stepped
stepped told w = record { did = told.did; ended = told.ended; world = w }

-- the counts after a step more
abbrev pub summed_on : Stepped → Summary → Summary
summed_on s counts = summed s.did s.ended (length s.world.history) counts

-- no two clients have one number
abbrev pub HaveNumbersApart : Config → Type 0
HaveNumbersApart config = AreApart (map (λ given. given.0.0) config.clients)

-- time goes on by at most `MOST_TICKS` ticks at once, and the bytes that are shown lie in one page
abbrev pub IsFair : Event → Type 0
IsFair (event.Tick by) = by ≤ MOST_TICKS
IsFair (event.Peek pid addr len) = IsPiece addr len
IsFair other = Unit {0}
