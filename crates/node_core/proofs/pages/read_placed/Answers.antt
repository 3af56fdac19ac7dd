-- The bytes stand at their place, behind the header and the status.
use Rattle.std.proofs.Common.{◌≡◌, length, ap, ◌∙◌}
use Rattle.cl_types.specs.declared.reply.Reply.TheVariants.{Got}
use Rattle.data_path.specs.Store.{memory_of}
use Rattle.flat_model.specs.Step.{read}
use Rattle.node_core.proofs.Pieces.{middle}
use Rattle.node_core.proofs.pages.read_placed.Goals as goal

pub returns-in-Ok-clause-reply : goal.returns-in-Ok-clause-reply
returns-in-Ok-clause-reply g c =
    let body : length c.split_at_mut-body.result.0.now ≡ c.args.len = c.split_at_mut-body.ensures.front_len in
    let same : length c.read_part.new.out ≡ length c.split_at_mut-body.result.0.now = c.read_part.auto.out in
    ap Got (middle c.split_at_mut-tail.result.0.now c.read_part.new.out c.split_at_mut-body.result.1.now 27 c.args.len
    c.split_at_mut-tail.ensures.front_len (same ∙ body))
    ∙ c.in-Ok.ensures.reply
    ∙ (λ i. (read (memory_of c.args.store.now) (c.number.ensures.value i) c.args.addr (body i)).reply)
