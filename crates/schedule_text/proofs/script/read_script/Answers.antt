use Rattle.std.proofs.Common.{sym, ◌∙◌, ap, List}
use Rattle.texts.specs.Text.{Text}
use Rattle.schedule_text.proofs.ScriptLemmas.{script_end, script_stop, with_lines}
use Rattle.schedule_text.proofs.script.read_script.Goals as goal

pub returns : goal.returns
returns c =
    script_end c.args.bytes.now c.loop-rest.rest.now c.loop-rest.calls c.loop-rest.number (sym c.in_default.ensures) c.loop-rest.invariant.read c.loop-rest-test.ensures

pub returns-in-Err : goal.returns-in-Err
returns-in-Err c =
    let read = c.loop-rest.invariant.read ∙ ap (λ (lines : List Text). with_lines c.loop-rest.calls c.loop-rest.number lines) c.next_line.ensures.lines in
    script_stop c.args.bytes.now c.loop-rest.calls c.read_line.new.calls c.loop-rest.number _ _ c.in-Err.fault (sym c.in_default.ensures) read c.in-Err.ensures
