-- The lines of a transcript, one after another.
use Rattle.std.proofs.Common.{◌≡◌, ℕ, zero, suc, ◌+◌, ◌==◌, Bool, true, false, cond, List, [], ◌∷◌, length, take, slice_get, find, ◌∙◌, refl, ap, arith, Some, None, Result, Ok, Err}
use Rattle.std.proofs.lemmas.Bool.Decides.{nat_tests}
use Rattle.cl_types.specs.declared.config.Config.{Config}
use Rattle.cl_types.specs.declared.line.Entry.{Entry}
use Rattle.schedule_text.specs.Reading.{Reads, too_long_of}
use Rattle.schedule_text.specs.Readings.{Gives}
use Rattle.schedule_text.specs.Telling.{LeavesOf}
use Rattle.schedule_text.specs.declared.fault.ScheduleFault.{ScheduleFault}
use Rattle.schedule_text.specs.declared.fault.ScheduleFault.TheVariants.{Line, TooLong, NoMemory}
use Rattle.texts.specs.Grammar.{Fault}
use Rattle.texts.specs.Text.{Text, lines_in}
use Rattle.transcript_text.specs.HistoryGrammar.{HistoryReading, history_at_end, history_from, history_line, history_of}

-- ---- what a search finds
-- nothing in front, and then what passes
pub found_at : {A : Type 0} (p : A → Bool) (xs : List A) (i : ℕ) (x : A) → find p (take i xs) ≡ None → slice_get xs i ≡ Some x → p x ≡ true → find p xs ≡ Some x
found_at p [] i x none there passes = absurd cc
found_at p (y ∷ xs) zero x none there passes =
    let same : y ≡ x = cc there in
    let here : p y ≡ true = ap p same ∙ passes in
    rw here (ap (λ z. Some z) same)
found_at p (y ∷ xs) (suc i) x none there passes = by (p y) refl none (λ front. found_at p xs i x front there passes)
  where
    by : (test : Bool) → p y ≡ test → cond test (Some y) (find p (take i xs)) ≡ None → (find p (take i xs) ≡ None → find p xs ≡ Some x) → cond test (Some y) (find p xs) ≡ Some x
    by true e front go = absurd cc
    by false e front go = go front

-- nothing in front, and then what doesn't pass
pub none_at : {A : Type 0} (p : A → Bool) (xs : List A) (i : ℕ) (x : A) → find p (take i xs) ≡ None → slice_get xs i ≡ Some x → p x ≡ false → find p (take (i + 1) xs) ≡ None
none_at p [] i x none there fails = absurd cc
none_at p (y ∷ xs) zero x none there fails =
    let same : y ≡ x = cc there in
    let here : p y ≡ false = ap p same ∙ fails in
    rw here refl
none_at p (y ∷ xs) (suc i) x none there fails =
    let next : suc i + 1 ≡ suc (i + 1) = omega arith in
    rw next (by (p y) refl none (λ front. none_at p xs i x front there fails))
  where
    by : (test : Bool) → p y ≡ test → cond test (Some y) (find p (take i xs)) ≡ None → (find p (take i xs) ≡ None → find p (take (i + 1) xs) ≡ None)
        → cond test (Some y) (find p (take (i + 1) xs)) ≡ None
    by true e front go = absurd cc
    by false e front go = go front

-- the tests of two numbers
pub same_test : (a b : ℕ) → a ≡ b → (a == b) ≡ true
same_test a b same = grind (arith, nat_tests)

pub other_test : (a b : ℕ) → (a ≡ b → ⊥) → (a == b) ≡ false
other_test a b differ = grind (arith, nat_tests)

-- ---- the lines
-- the configuration and the entries
abbrev pub Read : Type 0
Read = Config × List Entry

-- one line more
pub history_on : (h more : HistoryReading) (number : ℕ) (line : Text) (lines : List Text) → history_line h number line ≡ Ok more
    → history_from h number (line ∷ lines) ≡ history_from more (number + 1) lines
history_on h more number line lines e = ap (λ (o : Result HistoryReading Fault). elim o as (λ _. Result Read Fault) [ Err fault ↦ Err fault | Ok next ↦ history_from next (number + 1) lines ]) e

history_stop : (h : HistoryReading) (number : ℕ) (line : Text) (lines : List Text) (fault : Fault) → history_line h number line ≡ Err fault
    → history_from h number (line ∷ lines) ≡ Err fault
history_stop h number line lines fault e = ap (λ (o : Result HistoryReading Fault). elim o as (λ _. Result Read Fault) [ Err fault ↦ Err fault | Ok next ↦ history_from next (number + 1) lines ]) e

-- what a bad line makes of the whole
pub history_bad : (bytes : List ℕ) (h left : HistoryReading) (number : ℕ) (line : Text) (lines : List Text) (fault : ScheduleFault) → too_long_of bytes ≡ None
    → history_of bytes ≡ history_from h number (line ∷ lines) → LeavesOf {Y = Unit {0}} left (Err fault) (history_line h number line)
    → Reads bytes (history_of bytes) (Err fault)
history_bad bytes h left number line lines (Line n what) short read bad = (short, read ∙ history_stop h number line lines (n, what) bad)
history_bad bytes h left number line lines (TooLong of_bytes n) short read bad = absurd bad
history_bad bytes h left number line lines NoMemory short read bad = short

no_lines : (rest : List ℕ) → true ≡ (length rest == 0) → lines_in rest ≡ []
no_lines [] none = refl
no_lines (b ∷ rest) none =
    let some : (suc (length rest) == 0) ≡ false = grind (arith, nat_tests) in
    absurd (cc)

given_whole : (bytes : List ℕ) (end : Result Read Fault) (result : Result Read ScheduleFault) → too_long_of bytes ≡ None → history_of bytes ≡ end
    → Gives end result → Reads bytes (history_of bytes) result
given_whole bytes end (Ok s) short read given = (short, read ∙ given)
given_whole bytes end (Err (Line n what)) short read given = (short, read ∙ given)
given_whole bytes end (Err (TooLong of_bytes n)) short read given = absurd given
given_whole bytes end (Err NoMemory) short read given = short

-- and the whole, where no line is left
pub history_end : (bytes rest : List ℕ) (h : HistoryReading) (number : ℕ) (result : Result Read ScheduleFault) → too_long_of bytes ≡ None
    → history_of bytes ≡ history_from h number (lines_in rest) → true ≡ (length rest == 0) → Gives (history_at_end h number) result
    → Reads bytes (history_of bytes) result
history_end bytes rest h number result short read none given =
    given_whole bytes (history_at_end h number) result short (read ∙ ap (λ (lines : List Text). history_from h number lines) (no_lines rest none)) given
