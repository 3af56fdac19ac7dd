use Rattle.std.proofs.Common.{subst}
use Rattle.command_text.specs.Serving.{IsTaken}
use Rattle.clio_cli.proofs.ServeLemmas.{many_scripted, whole_scripted}
use Rattle.clio_cli.proofs.script.wanted_script.Goals as goal

pub returns-in_ok-judge_script-in-Whole-clause-wanted : goal.returns-in_ok-judge_script-in-Whole-clause-wanted
returns-in_ok-judge_script-in-Whole-clause-wanted g c =
    let taken = subst (IsTaken (g.S.Source.left c.args.source.now) (g.S.Source.left c.take_input.new.source)) c.in-Whole.is c.in_ok-bytes.ensures.taken in
    whole_scripted (g.S.Source.left c.args.source.now) (g.S.Source.left c.take_input.new.source) c.in-Whole.bytes.items c.deref.result.now c.in_ok-judge_script-in-Whole.field-0 taken c.deref.ensures.value
    c.in_ok-judge_script-in-Whole.ensures

pub returns-in_ok-too_many-in-TooMany-clause-wanted : goal.returns-in_ok-too_many-in-TooMany-clause-wanted
returns-in_ok-too_many-in-TooMany-clause-wanted g c =
    let taken = subst (IsTaken (g.S.Source.left c.args.source.now) (g.S.Source.left c.take_input.new.source)) c.in-TooMany.is c.in_ok-bytes.ensures.taken in
    many_scripted (g.S.Source.left c.args.source.now) (g.S.Source.left c.take_input.new.source) taken.0 c.in_ok-too_many-in-TooMany.field-0 taken.1 c.in_ok-too_many-in-TooMany.ensures
