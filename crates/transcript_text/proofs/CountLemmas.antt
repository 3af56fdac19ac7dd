-- How many entries a transcript has: at most one a line.
use Rattle.std.proofs.Common.{◌≡◌, ℕ, suc, ◌+◌, ◌≤◌, ◌<◌, ◌==◌, ◌||◌, Bool, true, false, List, [], ◌∷◌, ◌++◌, length, length-append, refl, ap, subst, arith, Option, Some, None, Result, Ok, Err, IfOk, codes, nat_lt}
use Rattle.std.specs.Bool.{if◌then◌else◌}
use Rattle.std.specs.List.{list_any}
use Rattle.std.proofs.lemmas.Bool.Decides.{nat_tests}
use Rattle.cl_types.specs.declared.config.Config.{Config}
use Rattle.cl_types.specs.declared.limits.TheConstants.{INPUT_BYTES, INPUT_LINES}
use Rattle.cl_types.specs.declared.line.Entry.{Entry}
use Rattle.cl_types.specs.declared.schedule.Schedule.{Schedule}
use Rattle.cl_types.specs.declared.schedule.What.{What}
use Rattle.cl_types.specs.declared.schedule.What.TheVariants.{BadCount, BadEntry, EndExpected, UnknownWord}
use Rattle.frame_model.specs.Faults.{first_fault}
use Rattle.schedule_text.specs.Reading.{Reads, too_long_of}
use Rattle.schedule_text.specs.declared.fault.ScheduleFault.{ScheduleFault}
use Rattle.schedule_text.specs.declared.fault.ScheduleFault.TheVariants.{TooLong}
use Rattle.texts.specs.Grammar.{Fault, Reading, at_end, line_read, place_faults}
use Rattle.texts.specs.Text.{Text, first_word, is_skipped, is_text, lines_in, words_in}
use Rattle.transcript_text.proofs.HistoryLemmas.{Read}
use Rattle.transcript_text.specs.HistoryGrammar.{HistoryReading, by_first_word, count_in, end_line, entry_in, entry_line, header_words, history_at_end, history_from, history_line, history_of, is_event_line, judged_history_line, no_history, other_line, process_of, rises, with_count, with_end, with_entry, with_header, with_process}

-- what a line leaves has one entry more at most
abbrev Few : HistoryReading → Result HistoryReading Fault → Type 0
Few h result = (more : HistoryReading) → result ≡ Ok more → length more.entries ≤ length h.entries + 1

few_err : (h : HistoryReading) (fault : Fault) → Few h (Err fault)
few_err h fault more is = absurd cc

few_same : (h next : HistoryReading) → length next.entries ≤ length h.entries + 1 → Few h (Ok next)
few_same h next few more is = let same : next ≡ more = cc is in subst (λ (m : HistoryReading). length m.entries ≤ length h.entries + 1) same few

few_if : (h : HistoryReading) (b : Bool) (x y : Result HistoryReading Fault) → Few h x → Few h y → Few h (if b then x else y)
few_if h true x y first second = first
few_if h false x y first second = second

few_fault : (h : HistoryReading) (n : ℕ) (o : Option What) (y : Result HistoryReading Fault) → Few h y
    → Few h (elim o as (λ _. Result HistoryReading Fault) [ Some what ↦ Err (n, what) | None ↦ y ])
few_fault h n (Some what) y few = few_err h (n, what)
few_fault h n None y few = few

few_process : (h : HistoryReading) (n : ℕ) (e : Entry) (pid : Option ℕ) → Few h (with_process h n e pid)
few_process h n e None = few_err h _
few_process h n e (Some pid) = few_same h _ (omega (arith, length-append h.entries (record e { pid = pid } ∷ [])))

few_with_entry : (h : HistoryReading) (n : ℕ) (e : Option Entry) → Few h (with_entry h n e)
few_with_entry h n None = few_err h _
few_with_entry h n (Some e) = few_if h (rises h.entries e) _ _ (few_process h n e (process_of h.reading.clients e.client)) (few_err h (n, BadEntry))

few_count : (h : HistoryReading) (n : ℕ) (count : Option ℕ) → Few h (with_count h n count)
few_count h n None = few_err h _
few_count h n (Some count) =
    few_if h (count == length h.entries) _ _ (few_same h (record h { ended = true }) (omega arith)) (few_err h (n, BadCount))

few_header : (h : HistoryReading) (r : Result Reading Fault) → Few h (with_header h r)
few_header h (Err fault) = few_err h fault
few_header h (Ok r) = few_same h (record h { reading = r }) (omega arith)

few_by_word : (h : HistoryReading) (n : ℕ) (line word : Text) → Few h (by_first_word h n line word)
few_by_word h n line word =
    let faults : Option What = first_fault (place_faults h.reading line (first_word (words_in line))) in
    few_if h (is_text word (codes "h")) _ _ (few_fault h n faults _ (few_with_entry h n (entry_in line)))
    (few_if h (is_text word (codes "end")) _ _ (few_fault h n faults _ (few_count h n (count_in line)))
    (few_if h (list_any (is_text word) header_words) _ _ (few_header h (line_read h.reading n line))
    (few_fault h n faults _ (few_err h (n, UnknownWord)))))

few_line : (h : HistoryReading) (n : ℕ) (line : Text) → Few h (history_line h n line)
few_line h n line =
    few_if h (is_skipped line || is_event_line line) _ _ (few_same h h (omega arith))
    (few_if h h.ended _ _ (few_err h (n, EndExpected)) (few_by_word h n line (first_word (words_in line))))

-- the entries at the end are those that were read
few_end : (h : HistoryReading) (n : ℕ) (header : Result Schedule Fault) (read : Read) → with_end h n header ≡ Ok read → length read.1 ≤ length h.entries
few_end h n (Err fault) read is = absurd cc
few_end h n (Ok header) read is = by h.ended is
  where
    by : (ended : Bool) → if◌then◌else◌ {A = Result Read Fault} ended (Ok (header.config, h.entries)) (Err (n, EndExpected)) ≡ Ok read → length read.1 ≤ length h.entries
    by true is = let same : h.entries ≡ read.1 = cc is in subst (λ (es : List Entry). length es ≤ length h.entries) same (omega arith)
    by false is = absurd cc

few_from : (h : HistoryReading) (n : ℕ) (lines : List Text) (read : Read) → history_from h n lines ≡ Ok read → length read.1 ≤ length h.entries + length lines
few_from h n [] read is = let few = few_end h n (at_end n h.reading h.reading.node) read is in omega (arith, few)
few_from h n (line ∷ lines) read is = by (history_line h n line) (few_line h n line) is (λ more. few_from more (n + 1) lines read)
  where
    by : (result : Result HistoryReading Fault) → Few h result
        → elim result as (λ _. Result Read Fault) [ Err fault ↦ Err fault | Ok more ↦ history_from more (n + 1) lines ] ≡ Ok read
        → ((more : HistoryReading) → history_from more (n + 1) lines ≡ Ok read → length read.1 ≤ length more.entries + length lines)
        → length read.1 ≤ length h.entries + suc (length lines)
    by (Err fault) few is go = absurd cc
    by (Ok more) few is go = omega (arith, few more refl, go more is)

few_lines : (bytes : List ℕ) → too_long_of bytes ≡ None → length (lines_in bytes) ≤ INPUT_LINES
few_lines bytes short = by (nat_lt INPUT_BYTES (length bytes)) (nat_lt INPUT_LINES (length (lines_in bytes))) refl short
  where
    by : (much many : Bool) → nat_lt INPUT_LINES (length (lines_in bytes)) ≡ many
        → (if much then Some (TooLong true (INPUT_BYTES + 1)) else if many then Some (TooLong false (INPUT_LINES + 1)) else None) ≡ None
        → length (lines_in bytes) ≤ INPUT_LINES
    by true many is short = absurd cc
    by false true is short = absurd cc
    by false false is short = grind (arith, nat_tests)

-- what is read of bytes has an entry a line at most, and so not more than there may be lines
pub few_read : (bytes : List ℕ) (result : Result Read ScheduleFault) → Reads bytes (history_of bytes) result
    → IfOk result (λ (read : Read). length read.1 ≤ INPUT_LINES)
few_read bytes (Ok read) reads =
    let lines = few_lines bytes reads.0 in
    let few = few_from no_history 1 (lines_in bytes) read reads.1 in
    omega (arith, lines, few)
few_read bytes (Err fault) reads = tt
