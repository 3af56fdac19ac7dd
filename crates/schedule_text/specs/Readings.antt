-- What a line of a schedule says.
use Rattle.std.specs.Prelude.{◌≡◌, Some, None, Result, Ok, Err}
use Rattle.cl_types.specs.declared.schedule.What.{What}
use Rattle.texts.specs.Text.{Text, first_word, words_in}
use Rattle.frame_model.specs.Faults.{first_fault}
use Rattle.texts.specs.Grammar.{Fault, place_faults, read_more, said_by_words, said_faults}
use Rattle.texts.specs.Grammar as grammar
use Rattle.schedule_text.specs.declared.fault.ScheduleFault.{ScheduleFault}
use Rattle.schedule_text.specs.declared.fault.ScheduleFault.TheVariants.{Line, TooLong, NoMemory}

-- what a line says, where nothing is wrong with that
abbrev pub sound : grammar.Reading → Result grammar.Statement What → Result grammar.Statement What
sound r (Err what) = Err what
sound r (Ok said) = elim (first_fault (said_faults r said)) [ Some what ↦ Err what | None ↦ Ok said ]

-- what a line says, where nothing is wrong with its bytes, its spaces and its place
abbrev pub line_said : grammar.Reading → Text → Result grammar.Statement What
line_said r line = elim (first_fault (place_faults r line (first_word (words_in line)))) [
  | Some what ↦ Err what
  | None ↦ sound r (said_by_words (words_in line))
]

-- a value, or the bad line, as the grammar gives it
abbrev pub Gives : {A : Type 0} → Result A Fault → Result A ScheduleFault → Type 0
Gives given (Ok x) = given ≡ Ok x
Gives given (Err (Line number what)) = given ≡ Err (number, what)
Gives given (Err NoMemory) = Unit {0}
-- what was read is never too long
Gives given (Err (TooLong of_bytes number)) = ⊥
