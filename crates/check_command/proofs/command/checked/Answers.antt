use Rattle.std.proofs.Common.{refl, subst}
use Rattle.command_text.specs.Serving.{IsTaken}
use Rattle.check_command.proofs.CheckLemmas.{many_checked, whole_checked}
use Rattle.check_command.proofs.command.checked.Goals as goal

pub returns-in_ok-judge_history-in-Whole-clause-checked : goal.returns-in_ok-judge_history-in-Whole-clause-checked
returns-in_ok-judge_history-in-Whole-clause-checked g c =
    let taken = subst (IsTaken (g.S.Source.left c.args.source.now) (g.S.Source.left c.take_input.new.source)) c.in-Whole.is c.in_ok-bytes.ensures.taken in
    whole_checked (g.S.Source.left c.args.source.now) (g.S.Source.left c.take_input.new.source) c.in-Whole.bytes.items c.in-Whole.bytes.items c.in_ok-judge_history-in-Whole.field-0 taken refl
    c.in_ok-judge_history-in-Whole.ensures

pub returns-in_ok-too_many-in-TooMany-clause-checked : goal.returns-in_ok-too_many-in-TooMany-clause-checked
returns-in_ok-too_many-in-TooMany-clause-checked g c =
    let taken = subst (IsTaken (g.S.Source.left c.args.source.now) (g.S.Source.left c.take_input.new.source)) c.in-TooMany.is c.in_ok-bytes.ensures.taken in
    many_checked (g.S.Source.left c.args.source.now) (g.S.Source.left c.take_input.new.source) taken.0 c.in_ok-too_many-in-TooMany.field-0 taken.1 c.in_ok-too_many-in-TooMany.ensures
