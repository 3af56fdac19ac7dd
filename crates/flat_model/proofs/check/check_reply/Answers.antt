use Rattle.std.proofs.Common.{IfOk, IsTrue, ◌↔◌, sym, subst}
use Rattle.cl_types.specs.declared.request.Request.{Request}
use Rattle.flat_model.specs.Step.{MayReply}
use Rattle.flat_model.proofs.check.check_reply.Goals as goal

pub returns-in-Alloc-clause-allowed : goal.returns-in-Alloc-clause-allowed
returns-in-Alloc-clause-allowed c =
    subst (λ (request : Request). IfOk c.check_alloc.result (λ may. IsTrue may ↔ MayReply c.args.flat.now c.args.pid request c.args.reply.now)) (sym c.in-Alloc.is)
    c.check_alloc.ensures.allowed
