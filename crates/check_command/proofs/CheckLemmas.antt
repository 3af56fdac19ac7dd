-- How serving a check ends.
use Rattle.std.proofs.Common.{◌≡◌, List, ℕ, Option, Some, None, Ok, inl, inr, sym, ap, subst, ◌∙◌, ◌+◌, true, refl, arith, length}
use Rattle.schedule_text.specs.Reading.{too_long_of}
use Rattle.schedule_text.specs.declared.fault.ScheduleFault.TheVariants as long
use Rattle.transcript_text.specs.HistoryGrammar.{history_of}
use Rattle.command_text.specs.Outputs.{AnswersCheck, History, OnLong, OnValue, AsksVerdict, history_fault, IsCheckable, verdict_output, too_long_output}
use Rattle.check_command.specs.Judged.{IsJudged}
use Rattle.command_text.specs.declared.output.Output.{Output}
use Rattle.cl_outside.specs.Counts.{NoneFailed}
use Rattle.cl_outside.specs.Told.{Added}
use Rattle.cl_types.specs.declared.limits.TheConstants.{INPUT_BYTES}
use Rattle.history_check.specs.Verdicts.{IsVerdict}
use Rattle.history_check.specs.declared.history.Verdict.TheVariants as verdict
use Rattle.texts.specs.Commands.{Check}
use Rattle.command_text.specs.Headline.{Checks}
use Rattle.command_text.specs.TextEnds.{Asks}
use Rattle.command_text.specs.Streams.{Gave, IsInput, IsTooMany, Streams}
use Rattle.command_text.specs.Serving.{KeepsInText, Says, ServesInText}
use Rattle.command_text.specs.declared.left.Left.TheVariants as left
use Rattle.command_text.specs.declared.status.Status.{Status}
use Rattle.command_text.specs.declared.status.Status.TheVariants as status
use Rattle.command_text.proofs.OutputLemmas.{IsFinal, answers_final, is_asked, many_long, none_some, status_is, history_answer, run_of}
use Rattle.command_text.proofs.InputLemmas.{on_bad_node}
use Rattle.command_text.proofs.ServeLemmas.{says_ends, long_of}

-- ---- a check
pub judged_answers : (bytes : List ℕ) (h : History) → too_long_of bytes ≡ None → history_of bytes ≡ Ok h → (output : Output) → IsJudged h output → AnswersCheck bytes output
judged_answers bytes h short encoded output (inl (opens, asked)) = OnValue h (record { short = short; encoded = encoded; opens = opens }) asked
judged_answers bytes h short encoded output (inr (fault, closed, is)) = on_bad_node History history_of history_fault AsksVerdict bytes output h fault short encoded closed is

-- ---- a check
module _ (before after : Streams) (output : Output) (asks : Asks (Some Check) before.left after.left output) (reads : NoneFailed before.read_faults after.read_faults) where
  check_final : IsFinal output.status
  check_final = answers_final History history_of history_fault AsksVerdict asks.0 output (λ h. history_answer h output) asks.2

  -- with success the history was a run, to its last byte
  checks_of : output.status ≡ status.Ok → Added output.text before.written after.written → Checks before after left.Nothing
  checks_of ok added = by asks.1 where
    asked : (h : History) × IsCheckable asks.0 h × AsksVerdict h output
    asked = is_asked History history_of history_fault AsksVerdict asks.0 output (λ h. history_answer h output) status.Ok tt asks.2 ok

    run : asked.2.0 ≡ verdict.Run
    run = run_of asked.0 asked.2.0 asked.2.1 (sym (status_is asked.2.2) ∙ ok)

    by : Gave asks.0 before.left after.left → Checks before after left.Nothing
    by (inl input) = record {
      bytes = asks.0;
      input = input;
      history = asked.0;
      checkable = asked.1;
      run = subst (IsVerdict asked.0.0.node asked.0.1) run asked.2.1;
      printed = subst (λ (o : Output). Added o.text before.written after.written) (asked.2.2 ∙ ap (verdict_output (length asked.0.1)) run) added;
      left = refl;
    }
    by (inr many) = absurd (none_some (too_long_of asks.0) _ asked.1.short (let count = many.count in many_long asks.0 (omega (arith, count))))

  keeps : (st : Status) → IsFinal st → output.status ≡ st → Added output.text before.written after.written → KeepsInText (Some Check) before after left.Nothing st
  keeps status.Ok final is added = checks_of is added
  keeps status.BadWords final is added = refl
  keeps status.BadInput final is added = refl
  keeps status.NotRun final is added = refl
  keeps status.TooLong final is added = refl
  keeps status.BadNode final is added = refl
  keeps status.ReadFault final is added = absurd final
  keeps status.WriteFault final is added = absurd final
  keeps status.NoMemory final is added = absurd final
  keeps status.WireFault final is added = absurd final
  keeps status.Stalled final is added = absurd final

  pub checked_serves : (st : Status) → Says output before.written after.written before.write_faults after.write_faults st → ServesInText (Some Check) before after left.Nothing st
  checked_serves st says = record { ends = says_ends (Some Check) before after reads output asks check_final st says; keeps = by says } where
    by : Says output before.written after.written before.write_faults after.write_faults st → KeepsInText (Some Check) before after left.Nothing st
    by (inl (is, added, writes)) = subst (KeepsInText (Some Check) before after left.Nothing) (sym is) (keeps output.status check_final refl added)
    by (inr (is, front, failed)) = subst (KeepsInText (Some Check) before after left.Nothing) (sym is) refl

-- ---- what was taken off the source
module _ (before after : Option (List ℕ)) where
  pub whole_checked : (bytes seen : List ℕ) (output : Output) → IsInput bytes before after → seen ≡ bytes → AnswersCheck seen output → Asks (Some Check) before after output
  whole_checked bytes seen output input same answers = (bytes, inl input, subst (λ bytes. AnswersCheck bytes output) same answers)

  pub many_checked : (bytes : List ℕ) (output : Output) → IsTooMany bytes before after → output ≡ too_long_output (long.TooLong true (INPUT_BYTES + 1)) → Asks (Some Check) before after output
  many_checked bytes output many is = (bytes, inr many, OnLong (long.TooLong true (INPUT_BYTES + 1), long_of before after bytes many) is)
