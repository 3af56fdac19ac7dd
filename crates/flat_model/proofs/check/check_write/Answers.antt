use Rattle.flat_model.proofs.CheckLemmas.{checks_refused, checks_write, checks_no_write, opened_within, wants_write}
use Rattle.flat_model.specs.Step.{may_write, puts}
use Rattle.cl_types.specs.declared.reply.Reply.TheVariants.{Nothing}
use Rattle.flat_model.proofs.check.check_write.Goals as goal

pub put-requires-clause-entry : goal.put-requires-clause-entry
put-requires-clause-entry c = opened_within c.args.flat.now c.args.pid c.args.addr may_write c.in-Ok.i c.in-Ok.ensures

pub returns-in-Err-clause-checks : goal.returns-in-Err-clause-checks
returns-in-Err-clause-checks c =
    checks_refused _ _ _ c.in-Err.refusal _ (c.in-Err.ensures (λ page. puts c.args.flat.now c.args.pid c.args.addr page c.args.bytes.now Nothing)) c.is_refusal.ensures

pub returns-then-not-is_nothing-clause-checks : goal.returns-then-not-is_nothing-clause-checks
returns-then-not-is_nothing-clause-checks c =
    checks_no_write c.args.flat.now c.args.pid c.args.addr c.in-Ok.i c.args.bytes.now c.args.reply.now _ c.is_nothing.ensures c.in-Ok.ensures c.if-not-is_nothing.true

pub returns-in_ok-put-in-Ok-clause-checks : goal.returns-in_ok-put-in-Ok-clause-checks
returns-in_ok-put-in-Ok-clause-checks c =
    checks_write c.args.flat.now c.args.pid c.args.addr c.in-Ok.i c.args.bytes.now c.args.reply.now _ c.is_nothing.ensures _ c.in-Ok.ensures c.if-not-is_nothing.false c.in_ok-put-in-Ok.ensures.put

pub returns-in_err-put-in-Ok-clause-wanted : goal.returns-in_err-put-in-Ok-clause-wanted
returns-in_err-put-in-Ok-clause-wanted c =
    wants_write c.args.flat.now c.args.pid c.args.addr c.in-Ok.i c.args.bytes.now c.args.reply.now _ c.is_nothing.ensures _ c.in-Ok.ensures c.if-not-is_nothing.false
