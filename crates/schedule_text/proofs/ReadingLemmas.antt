-- What a line is judged by, what it adds, and the lines one after another.
use Rattle.std.proofs.Common.{◌≡◌, ℕ, suc, ◌+◌, ◌==◌, true, false, List, [], ◌∷◌, length, refl, ◌∙◌, ap, arith, Option, Some, None, Result, Ok, Err}
use Rattle.std.proofs.lemmas.Bool.Decides.{nat_tests}
use Rattle.cl_types.specs.declared.schedule.Schedule.{Schedule}
use Rattle.cl_types.specs.declared.schedule.What.{What}
use Rattle.texts.specs.Text.{Text, first_word, is_empty, is_skipped, lines_in, words_in}
use Rattle.frame_model.specs.Faults.{first_fault}
use Rattle.texts.specs.Grammar.{Fault, Reading, Statement, at_end, judged_line, judged_said, line_read, place_faults, read_more, said_by_words, said_faults, schedule_from, schedule_of}
use Rattle.schedule_text.specs.Reading.{Reads, too_long_of}
use Rattle.schedule_text.specs.Readings.{Gives, line_said, sound}
use Rattle.schedule_text.specs.Telling.{LeavesOf}
use Rattle.schedule_text.specs.declared.fault.ScheduleFault.{ScheduleFault}
use Rattle.schedule_text.specs.declared.fault.ScheduleFault.TheVariants.{Line, TooLong, NoMemory}

-- a list is empty where its length is 0
pub is_empty-length : {A : Type 0} (xs : List A) → is_empty xs ≡ (length xs == 0)
is_empty-length [] = refl
is_empty-length (x ∷ xs) = grind (arith, nat_tests)

-- ---- a judged line
abbrev pub added : Reading → ℕ → Text → Result Statement What → Result Reading Fault
added r number line (Err what) = Err (number, what)
added r number line (Ok said) = Ok (read_more r number line said)

judged_said_by : (r : Reading) (number : ℕ) (line : Text) (said : Result Statement What) → judged_said r number line said ≡ added r number line (sound r said)
judged_said_by r number line (Err what) = refl
judged_said_by r number line (Ok said) = by (first_fault (said_faults r said))
  where
    by : (fault : Option What) → elim fault as (λ _. Result Reading Fault) [ Some what ↦ Err (number, what) | None ↦ Ok (read_more r number line said) ]
        ≡ added r number line (elim fault as (λ _. Result Statement What) [ Some what ↦ Err what | None ↦ Ok said ])
    by (Some what) = refl
    by None = refl

-- a line is judged by its place, and then by what it says
judged_line_said : (r : Reading) (number : ℕ) (line : Text) → judged_line r number line ≡ added r number line (line_said r line)
judged_line_said r number line = by (first_fault (place_faults r line (first_word (words_in line))))
  where
    by : (fault : Option What) → elim fault as (λ _. Result Reading Fault) [ Some what ↦ Err (number, what) | None ↦ judged_said r number line (said_by_words (words_in line)) ]
        ≡ added r number line (elim fault as (λ _. Result Statement What) [ Some what ↦ Err what | None ↦ sound r (said_by_words (words_in line)) ])
    by (Some what) = refl
    by None = judged_said_by r number line (said_by_words (words_in line))

not_skipped : (r : Reading) (number : ℕ) (line : Text) (given : Result Statement What) → false ≡ is_skipped line → line_said r line ≡ given → line_read r number line ≡ added r number line given
not_skipped r number line given kept said =
    let judged : line_read r number line ≡ judged_line r number line = rw (← kept, line_read) refl in
    judged ∙ judged_line_said r number line ∙ ap (λ (o : Result Statement What). added r number line o) said

-- a bad line, and a good one
pub line_bad : (r : Reading) (number : ℕ) (line : Text) (what : What) → false ≡ is_skipped line → line_said r line ≡ Err what → line_read r number line ≡ Err (number, what)
line_bad r number line what kept said = not_skipped r number line (Err what) kept said

pub line_good : (r : Reading) (number : ℕ) (line : Text) (said : Statement) → false ≡ is_skipped line → line_said r line ≡ Ok said → line_read r number line ≡ Ok (read_more r number line said)
line_good r number line said kept given = not_skipped r number line (Ok said) kept given

-- ---- lines, one after another
pub schedule_on : (r more : Reading) (number : ℕ) (line : Text) (lines : List Text) → line_read r number line ≡ Ok more
    → schedule_from r number (line ∷ lines) ≡ schedule_from more (number + 1) lines
schedule_on r more number line lines e = ap (λ (o : Result Reading Fault). elim o as (λ _. Result Schedule Fault) [ Err fault ↦ Err fault | Ok next ↦ schedule_from next (number + 1) lines ]) e

schedule_stop : (r : Reading) (number : ℕ) (line : Text) (lines : List Text) (fault : Fault) → line_read r number line ≡ Err fault
    → schedule_from r number (line ∷ lines) ≡ Err fault
schedule_stop r number line lines fault e = ap (λ (o : Result Reading Fault). elim o as (λ _. Result Schedule Fault) [ Err fault ↦ Err fault | Ok next ↦ schedule_from next (number + 1) lines ]) e

-- what a bad line makes of the whole
pub schedule_bad : (bytes : List ℕ) (r left : Reading) (number : ℕ) (line : Text) (lines : List Text) (fault : ScheduleFault) → too_long_of bytes ≡ None
    → schedule_of bytes ≡ schedule_from r number (line ∷ lines) → LeavesOf {Y = Unit {0}} left (Err fault) (line_read r number line)
    → Reads bytes (schedule_of bytes) (Err fault)
schedule_bad bytes r left number line lines (Line n what) short read bad = (short, read ∙ schedule_stop r number line lines (n, what) bad)
schedule_bad bytes r left number line lines (TooLong of_bytes n) short read bad = absurd bad
schedule_bad bytes r left number line lines NoMemory short read bad = short

no_lines : (rest : List ℕ) → true ≡ (length rest == 0) → lines_in rest ≡ []
no_lines [] none = refl
no_lines (b ∷ rest) none =
    let some : (suc (length rest) == 0) ≡ false = grind (arith, nat_tests) in
    absurd (cc)

given_whole : (bytes : List ℕ) (end : Result Schedule Fault) (result : Result Schedule ScheduleFault) → too_long_of bytes ≡ None → schedule_of bytes ≡ end
    → Gives end result → Reads bytes (schedule_of bytes) result
given_whole bytes end (Ok s) short read given = (short, read ∙ given)
given_whole bytes end (Err (Line n what)) short read given = (short, read ∙ given)
given_whole bytes end (Err (TooLong of_bytes n)) short read given = absurd given
given_whole bytes end (Err NoMemory) short read given = short

-- and the whole, where no line is left
pub schedule_end : (bytes rest : List ℕ) (r : Reading) (number : ℕ) (result : Result Schedule ScheduleFault) → too_long_of bytes ≡ None
    → schedule_of bytes ≡ schedule_from r number (lines_in rest) → true ≡ (length rest == 0) → Gives (at_end number r r.node) result
    → Reads bytes (schedule_of bytes) result
schedule_end bytes rest r number result short read none given =
    given_whole bytes (at_end number r r.node) result short (read ∙ ap (λ (lines : List Text). schedule_from r number lines) (no_lines rest none)) given
