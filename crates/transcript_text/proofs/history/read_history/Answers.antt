use Rattle.std.proofs.Common.{List, ap, sym, ◌∙◌}
use Rattle.texts.specs.Text.{Text, lines_in}
use Rattle.transcript_text.specs.HistoryGrammar.{history_from}
use Rattle.transcript_text.proofs.CountLemmas.{few_read}
use Rattle.transcript_text.proofs.HistoryLemmas.{history_bad, history_end}
use Rattle.transcript_text.proofs.history.read_history.Goals as goal

pub returns-in-Err-clause-reads : goal.returns-in-Err-clause-reads
returns-in-Err-clause-reads c =
    let h = c.loop-rest.history in
    let read = c.loop-rest.invariant.read ∙ ap (λ (lines : List Text). history_from h c.loop-rest.number lines) c.next_line.ensures.lines in
    history_bad c.args.bytes.now h c.read_line.new.self c.loop-rest.number c.next_line.result.0.now (lines_in c.next_line.result.1.now) c.in-Err.fault (sym c.in_default.ensures) read c.in-Err.ensures

pub returns-clause-reads : goal.returns-clause-reads
returns-clause-reads c =
    history_end c.args.bytes.now c.loop-rest.rest.now c.loop-rest.history c.loop-rest.number c.finish.result (sym c.in_default.ensures) c.loop-rest.invariant.read c.loop-rest-test.ensures c.finish.ensures

pub returns-clause-few : goal.returns-clause-few
returns-clause-few c =
    few_read c.args.bytes.now c.finish.result
    (history_end c.args.bytes.now c.loop-rest.rest.now c.loop-rest.history c.loop-rest.number c.finish.result (sym c.in_default.ensures) c.loop-rest.invariant.read c.loop-rest-test.ensures c.finish.ensures)
