-- What a world asks of a schedule, and that each one that was read has it.
use Rattle.std.specs.Prelude.{◌≡◌, ℕ, ◌<◌, ◌≤◌, List, None, Ok, length}
use Rattle.std.specs.List.{AllByRecursion as Each}
use Rattle.cl_types.specs.declared.limits.TheConstants.{MOST_CLIENTS, LINES_END}
use Rattle.cl_types.specs.declared.schedule.Event.{Event}
use Rattle.cl_types.specs.declared.schedule.Schedule.{Schedule}
use Rattle.texts.specs.Grammar.{schedule_of}
use Rattle.schedule_text.specs.Reading.{too_long_of}
use Rattle.world.specs.Running.{HaveNumbersApart, IsFair}

-- what a world asks of a schedule besides the premises of the laws
pub record IsSuited (s : Schedule) : Type 0 where
  -- 1 to 64 clients, each with a number of its own
  pub some : 1 ≤ length s.config.clients
  pub most : length s.config.clients ≤ MOST_CLIENTS
  pub apart : HaveNumbersApart s.config
  -- no line has a great number
  pub bounded : Each (λ (e : ℕ × Event). e.0 < LINES_END) s.events
  -- no step of time is long, and what is looked at lies within one page
  pub fair : Each (λ (e : ℕ × Event). IsFair e.1) s.events

-- every schedule that bytes within the limits spell has it
abbrev pub SchedulesAreSuited : Type 0
SchedulesAreSuited = (bytes : List ℕ) (s : Schedule) → too_long_of bytes ≡ None → schedule_of bytes ≡ Ok s → IsSuited s
