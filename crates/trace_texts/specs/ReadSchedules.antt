-- What holds of every schedule that was read from bytes.
use Rattle.std.specs.Prelude.{ℕ, ◌≡◌, List, Ok}
use Rattle.cl_types.specs.declared.schedule.Schedule.{Schedule}
use Rattle.texts.specs.Grammar.{schedule_of}
use Rattle.trace.specs.Schedules.{IsGood}

-- every schedule that bytes spell is such a one
abbrev pub SchedulesAreGood : Type 0
SchedulesAreGood = (bytes : List ℕ) (s : Schedule) → schedule_of bytes ≡ Ok s → IsGood s.config s.events
