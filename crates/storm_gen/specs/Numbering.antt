-- The numbers of lines of a schedule in the making.
use Rattle.std.specs.Prelude.{ℕ, ◌+◌, ◌≡◌, List, length, map}
use Rattle.std.specs.List.{enumerate_from}
use Rattle.cl_types.specs.declared.schedule.Event.{Event}

-- the events have the numbers from 6 on, and the next one follows
pub record AreNumbered (events : List (ℕ × Event)) (next : ℕ) : Type 0 where
  pub numbered : events ≡ enumerate_from 6 (map (λ (e : ℕ × Event). e.1) events)
  pub follows : next ≡ 6 + length events
