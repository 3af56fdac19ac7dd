use Rattle.std.proofs.Common.{sym, ◌∙◌, ap, List}
use Rattle.texts.specs.Text.{Text, lines_in}
use Rattle.texts.specs.Grammar.{schedule_from}
use Rattle.schedule_text.proofs.ReadingLemmas.{schedule_bad, schedule_end}
use Rattle.schedule_text.proofs.schedule.read.Goals as goal

pub returns-in-Err : goal.returns-in-Err
returns-in-Err c =
    let r = c.loop-rest.reading in
    let read = c.loop-rest.invariant.read ∙ ap (λ (lines : List Text). schedule_from r c.loop-rest.number lines) c.next_line.ensures.lines in
    schedule_bad c.args.bytes.now r c.read_line.new.self c.loop-rest.number c.next_line.result.0.now (lines_in c.next_line.result.1.now) c.in-Err.fault (sym c.in_default.ensures) read c.in-Err.ensures

pub returns : goal.returns
returns c =
    schedule_end c.args.bytes.now c.loop-rest.rest.now c.loop-rest.reading c.loop-rest.number c.finish.result (sym c.in_default.ensures) c.loop-rest.invariant.read c.loop-rest-test.ensures c.finish.ensures
