-- A script's lines, one after another.
use Rattle.std.proofs.Common.{◌≡◌, ℕ, suc, ◌+◌, ◌==◌, Bool, length, arith, true, false, List, [], ◌∷◌, ◌++◌, refl, sym, ◌∙◌, ap, append_assoc, append-nil, Result, Ok, Err, None}
use Rattle.std.proofs.lemmas.Bool.Decides.{nat_tests}
use Rattle.cl_types.specs.declared.schedule.CallText.{CallText}
use Rattle.cl_types.specs.declared.schedule.What.{What}
use Rattle.texts.specs.Text.{Text, is_skipped, lines_in}
use Rattle.texts.specs.Grammar.{Fault, script_from, script_line, script_more, script_of}
use Rattle.schedule_text.specs.Reading.{Reads, too_long_of}
use Rattle.schedule_text.specs.Telling.{LeavesOf}
use Rattle.schedule_text.specs.declared.fault.ScheduleFault.{ScheduleFault}
use Rattle.schedule_text.specs.declared.fault.ScheduleFault.TheVariants.{Line, TooLong, NoMemory}
use Rattle.schedule_text.specs.Script.{Calls, with_call, with_line}

-- the calls so far, and those of more lines
unfoldable pub with_lines : Calls → ℕ → List Text → Result Calls Fault
with_lines calls number [] = Ok calls
with_lines calls number (line ∷ lines) = elim (with_line calls number line) [ Err fault ↦ Err fault | Ok more ↦ with_lines more (number + 1) lines ]

-- one line more
pub read_on : (calls more : Calls) (number : ℕ) (line : Text) (lines : List Text) → with_line calls number line ≡ Ok more
    → with_lines calls number (line ∷ lines) ≡ with_lines more (number + 1) lines
unfolding with_lines
read_on calls more number line lines e = rw (e, with_lines) refl

-- a bad line
pub read_stop : (calls : Calls) (number : ℕ) (line : Text) (lines : List Text) (fault : Fault) → with_line calls number line ≡ Err fault
    → with_lines calls number (line ∷ lines) ≡ Err fault
unfolding with_lines
read_stop calls number line lines fault e = rw (e, with_lines) refl

-- no line more
pub read_end : (calls : Calls) (number : ℕ) → with_lines calls number [] ≡ Ok calls
unfolding with_lines
read_end calls number = refl

-- ---- the lines as the grammar reads them
abbrev behind : Calls → Result Calls Fault → Result Calls Fault
behind calls (Ok more) = Ok (calls ++ more)
behind calls (Err fault) = Err fault

behind_one : (calls : Calls) (number : ℕ) (call : CallText) (rest : Result Calls Fault)
    → behind (calls ++ (number, call) ∷ []) rest ≡ behind calls (script_more number (Ok call) rest)
behind_one calls number call (Ok more) = ap (λ (all : Calls). Ok all) (append_assoc calls ((number, call) ∷ []) more)
behind_one calls number call (Err fault) = refl

-- a line that isn't passed over
read_line : (calls : Calls) (number : ℕ) (line : Text) (lines : List Text) (call : Result CallText What) → with_line calls number line ≡ with_call calls number call
    → ((more : Calls) → with_lines more (number + 1) lines ≡ behind more (script_from (number + 1) lines))
    → with_lines calls number (line ∷ lines) ≡ behind calls (script_more number call (script_from (number + 1) lines))
read_line calls number line lines (Err what) here go = read_stop calls number line lines (number, what) here
read_line calls number line lines (Ok call) here go =
    let more : Calls = calls ++ (number, call) ∷ [] in
    read_on calls more number line lines here ∙ go more ∙ behind_one calls number call (script_from (number + 1) lines)

lines_behind : (calls : Calls) (number : ℕ) (lines : List Text) → with_lines calls number lines ≡ behind calls (script_from number lines)
unfolding with_lines
lines_behind calls number [] = ap (λ (all : Calls). Ok all) (sym (append-nil calls))
lines_behind calls number (line ∷ lines) = step (is_skipped line) (script_line line) refl refl (λ (more : Calls). lines_behind more (number + 1) lines)
  where
    step : (skipped : Bool) (call : Result CallText What) → is_skipped line ≡ skipped → script_line line ≡ call
        → ((more : Calls) → with_lines more (number + 1) lines ≡ behind more (script_from (number + 1) lines))
        → with_lines calls number (line ∷ lines) ≡ behind calls (script_from number (line ∷ lines))
    step true call e f go =
        let here : with_line calls number line ≡ Ok calls = rw (e, with_line) refl in
        let there : script_from number (line ∷ lines) ≡ script_from (number + 1) lines = rw (e, script_from) refl in
        read_on calls calls number line lines here ∙ go calls ∙ ap (λ (r : Result Calls Fault). behind calls r) (sym there)
    step false call e f go =
        let here : with_line calls number line ≡ with_call calls number (script_line line) = rw (e, with_line) refl in
        let there : script_from number (line ∷ lines) ≡ script_more number (script_line line) (script_from (number + 1) lines) = rw (e, script_from) refl in
        read_line calls number line lines call (here ∙ ap (λ (r : Result CallText What). with_call calls number r) f) go
        ∙ ap (λ (r : Result Calls Fault). behind calls r) (sym (there ∙ ap (λ (r : Result CallText What). script_more number r (script_from (number + 1) lines)) f))

behind_none : (rest : Result Calls Fault) → behind [] rest ≡ rest
behind_none (Ok more) = refl
behind_none (Err fault) = refl

-- the lines of the whole bytes are the script
pub lines_script : (bytes : List ℕ) → with_lines [] 1 (lines_in bytes) ≡ script_of bytes
lines_script bytes = lines_behind [] 1 (lines_in bytes) ∙ behind_none (script_of bytes)

-- what a bad line makes of the whole
pub script_stop : (bytes : List ℕ) (calls left : Calls) (number : ℕ) (line : Text) (lines : List Text) (fault : ScheduleFault) → too_long_of bytes ≡ None
    → with_lines [] 1 (lines_in bytes) ≡ with_lines calls number (line ∷ lines) → LeavesOf {Y = Unit {0}} left (Err fault) (with_line calls number line)
    → Reads bytes (script_of bytes) (Err fault)
script_stop bytes calls left number line lines (Line n what) short read bad =
    (short, sym (lines_script bytes) ∙ read ∙ read_stop calls number line lines (n, what) bad)
script_stop bytes calls left number line lines (TooLong of_bytes n) short read bad = absurd bad
script_stop bytes calls left number line lines NoMemory short read bad = short

-- and the whole, where no line is left
pub script_end : (bytes rest : List ℕ) (calls : Calls) (number : ℕ) → too_long_of bytes ≡ None → with_lines [] 1 (lines_in bytes) ≡ with_lines calls number (lines_in rest)
    → true ≡ (length rest == 0) → Reads bytes (script_of bytes) (Ok calls)
script_end bytes [] calls number short read none = (short, sym (lines_script bytes) ∙ read ∙ read_end calls number)
script_end bytes (b ∷ rest) calls number short read none =
    let some : (suc (length rest) == 0) ≡ false = grind (arith, nat_tests) in
    absurd (cc)
