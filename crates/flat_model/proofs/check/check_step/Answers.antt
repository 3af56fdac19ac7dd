use Rattle.std.proofs.Common.{sym, ◌∙◌}
use Rattle.flat_model.proofs.CheckLemmas.{may_step}
use Rattle.flat_model.proofs.check.check_step.Goals as goal

pub returns-clause-allowed : goal.returns-clause-allowed
returns-clause-allowed c =
    may_step c.args.flat.now _ c.args.pid c.args.request.now c.args.reply.now c.check_reply.result c.number.ensures.value
    (sym c.may_be_sent.ensures ∙ c.if-not-may_be_sent.false) c.check_reply.ensures.allowed
