-- A request that changes nothing leaves the machine.
use Rattle.std.proofs.Common.{◌≡◌, false, refl, ap, ◌∙◌}
use Rattle.cl_types.specs.Requests.{is_changing, request_of}
use Rattle.frame_model.specs.Frames.{Item, reply_frame, status_in}
use Rattle.flat_model.specs.State.{FlatState}
use Rattle.flat_model.specs.Step.{outcome}
use Rattle.node_core.specs.Fields.{kept_node}
use Rattle.node_core.specs.Keeping.{KeptNode, item_of}
use Rattle.node_core.proofs.Recorded.{looks_up, shown}
use Rattle.node_core.proofs.Smalls.{looked_keeps, status_written}
use Rattle.node_core.proofs.keeper.Keeper.look.Goals as goal

pub returns-clause-node : goal.returns-clause-node
returns-clause-node g c =
    let item : Item = item_of c.args.head.now c.args.request.now in
    let noted = c.self.inside.retry in
    let shows = shown _ _ noted c.self.inside.last c.args.self.now c.self.view_is in
    let reading : is_changing item.request ≡ false = looks_up c.args.self.now noted c.self.inside.last item shows c.requires.looks in
    let kept = c.execute-placed.ensures.state ∙ looked_keeps _ item.head.pid item.request reading in
    let cache = g.M.Machine.cache c.execute-placed.new.self in
    ap (λ (flat : FlatState). kept_node flat cache noted c.self.inside.last) kept ∙ ap (λ (k : KeptNode). record k { cache = cache }) c.self.view_is

pub returns-clause-answer : goal.returns-clause-answer
returns-clause-answer g c =
    let request = request_of c.args.request.now in
    let flat = ap (λ (k : KeptNode). k.node.flat) c.self.view_is in
    let reply = c.execute-placed.ensures.reply ∙ ap (λ (s : FlatState). (outcome s c.args.head.now.pid request).reply) flat in
    let written = c.write_frame-len.ensures.written in (
      refl,
      status_written c.args.head.now c.kind_of.result _ c.write_frame-len.result _ _ written ∙ ap status_in reply,
      c.write_frame-len.ensures.short,
      written.spelling ∙ (λ i. reply_frame c.args.head.now (c.kind_of.ensures i) (reply i)),
      tt,
    )
