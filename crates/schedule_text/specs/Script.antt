-- The calls of a script, and what one line adds to them.
use Rattle.std.specs.Prelude.{ℕ, true, false, List, [], ◌∷◌, ◌++◌, Result, Ok, Err}
use Rattle.cl_types.specs.declared.schedule.CallText.{CallText}
use Rattle.cl_types.specs.declared.schedule.What.{What}
use Rattle.cl_types.specs.declared.schedule.Script.{Script}
use Rattle.schedule_text.specs.declared.fault.ScheduleFault.{ScheduleFault}
use Rattle.texts.specs.Text.{Text, is_skipped}
use Rattle.texts.specs.Grammar.{Fault, script_line}

-- calls, each with the number of its line
abbrev pub Calls : Type 0
Calls = List (ℕ × CallText)

-- the calls so far, and that of one good line more
abbrev pub with_call : Calls → ℕ → Result CallText What → Result Calls Fault
with_call calls number (Err what) = Err (number, what)
with_call calls number (Ok call) = Ok (calls ++ (number, call) ∷ [])

-- the calls so far, and that of one line more
abbrev pub with_line : Calls → ℕ → Text → Result Calls Fault
with_line calls number line = elim (is_skipped line) [ true ↦ Ok calls | false ↦ with_call calls number (script_line line) ]

-- the calls of a script
abbrev pub calls_of : Result Script ScheduleFault → Result Calls ScheduleFault
calls_of (Ok script) = Ok script.calls
calls_of (Err fault) = Err fault
