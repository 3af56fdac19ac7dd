-- When bytes are read, and what a call tells of them.
use Rattle.std.specs.Prelude.{◌≡◌, ℕ, ◌+◌, nat_lt, true, false, List, length, if◌then◌else◌, Option, Some, None, Result, Ok, Err}
use Rattle.texts.specs.Text.{lines_in}
use Rattle.texts.specs.Grammar.{Fault}
use Rattle.schedule_text.specs.declared.fault.ScheduleFault.{ScheduleFault}
use Rattle.schedule_text.specs.declared.fault.ScheduleFault.TheVariants.{Line, TooLong, NoMemory}
use Rattle.cl_types.specs.declared.limits.TheConstants.{INPUT_BYTES, INPUT_LINES}

-- the fault of bytes that are too many, or whose lines are
abbrev pub too_long_of : List ℕ → Option ScheduleFault
too_long_of bytes =
    if nat_lt INPUT_BYTES (length bytes) then Some (TooLong true (INPUT_BYTES + 1))
    else if nat_lt INPUT_LINES (length (lines_in bytes)) then Some (TooLong false (INPUT_LINES + 1))
    else None

-- what was read, or the first bad line, is what the grammar gives, where the bytes aren't too long
abbrev pub Reads : {A : Type 0} → List ℕ → Result A Fault → Result A ScheduleFault → Type 0
Reads bytes given (Ok x) = (too_long_of bytes ≡ None) × (given ≡ Ok x)
Reads bytes given (Err (Line number what)) = (too_long_of bytes ≡ None) × (given ≡ Err (number, what))
Reads bytes given (Err (TooLong of_bytes number)) = too_long_of bytes ≡ Some (TooLong of_bytes number)
Reads bytes given (Err NoMemory) = too_long_of bytes ≡ None
