-- The answer is cut to the bytes that were asked for.
use Rattle.std.proofs.Common.{◌≤◌, ℕ, drop, Result, IfOk, sym, ap, ◌∙◌, subst}
use Rattle.cl_types.specs.declared.reply.Refusal.{Refusal}
use Rattle.cl_types.specs.declared.reply.Reply.TheVariants.{Got}
use Rattle.cl_types.specs.Bytes.{bytes_at}
use Rattle.offload_host.specs.Laws.{replied}
use Rattle.node_core.proofs.Pieces.{cut_twice}
use Rattle.node_core.proofs.offloads.answer_placed.Goals as goal

pub returns-in-Ok-clause-reply : goal.returns-in-Ok-clause-reply
returns-in-Ok-clause-reply c out =
    let few : c.in-Ok.len ≤ 1024 = subst (λ (r : Result ℕ Refusal). IfOk r (λ len. len ≤ 1024)) c.in-Ok.is c.requires.within in
    ap (λ n. Got (bytes_at 27 n out)) c.min.ensures ∙ ap Got (cut_twice c.in-Ok.len c.args.most (drop 27 out) few)
    ∙ sym (ap (λ (r : Result ℕ Refusal). replied c.args.most r (bytes_at 27 1024 out)) c.in-Ok.is)
