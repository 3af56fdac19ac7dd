use Rattle.std.proofs.Common.{◌≡◌, List, Some, ap, sym, subst, ◌∙◌}
use Rattle.client_model.specs.Client.{ClientState}
use Rattle.node_core.specs.Keeping.{KeptNode}
use Rattle.world.specs.Fields.{AreKeyed, world_of}
use Rattle.world.specs.Saying.{listened_step}
use Rattle.world.specs.Worlds.{note_on}
use Rattle.world.proofs.ClientLemmas.{keyed_after, written}
use Rattle.world.proofs.Results.{if_ok_weaker}
use Rattle.world.proofs.StepLemmas.{is_there, to_client, to_node}
use Rattle.world.proofs.whole.Whole.deliver.Goals as goal

pub returns-in_ok-said-in-Live-default-Node-default-clause-step : goal.returns-in_ok-said-in-Live-default-Node-default-clause-step
returns-in_ok-said-in-Live-default-Node-default-clause-step c =
    let noted = subst (λ ns. Some c.in-Some.note.now ≡ note_on ns c.args.frame) c.deref.ensures.value c.in-Some.ensures in
    if_ok_weaker _ _ c.said.result
    (λ told is. is ∙ to_node (world_of c.args.self.now) c.args.line c.args.frame c.in-Some.note.now c.in-Live-default-Node-default.bytes.now
    c.in-Live-default-Node-default.end c.in-Live-default-Node-default.line c.ask.new.node.node c.in_ok-said-in-Live-default-Node-default.said c.ask.new.out noted
    c.in-Live-default-Node-default.ensures c.in-Live-default-Node-default.end-is (ap (λ (k : KeptNode). k.node) c.ask.ensures.node)
    c.in_ok-said-in-Live-default-Node-default.ensures.said)
    c.said.ensures.step

pub returns-in_ok-heard-in-Live-default-Client-default-clause-step : goal.returns-in_ok-heard-in-Live-default-Client-default-clause-step
returns-in_ok-heard-in-Live-default-Client-default-clause-step c =
    let w = world_of c.args.self.now in
    let no = c.in-Live-default-Client-default.no in
    let at = c.in-Some-client_at.at in
    let noted = subst (λ ns. Some c.in-Some.note.now ≡ note_on ns c.args.frame) c.deref.ensures.value c.in-Some.ensures in
    let there = is_there w no at c.index_mut.result.now c.in-Some-client_at.ensures.client c.index_mut.ensures.value in
    if_ok_weaker _ _ c.heard.result
    (λ told is. is
    ∙ ap (λ (xs : List ClientState). listened_step (record w { clients = xs }) c.args.frame no c.in_ok-heard-in-Live-default-Client-default.heard) (written c.args.self.now.clients.entries at c.listen.new.client)
    ∙ to_client w c.args.line c.args.frame c.in-Some.note.now c.in-Live-default-Client-default.bytes.now
    c.in-Live-default-Client-default.end c.in-Live-default-Client-default.sent no at c.index_mut.result.now c.listen.new.client
    c.in_ok-heard-in-Live-default-Client-default.heard noted c.in-Live-default-Client-default.ensures c.in-Live-default-Client-default.end-is there
    c.requires.ready.world.apart c.in_ok-heard-in-Live-default-Client-default.ensures.state c.in_ok-heard-in-Live-default-Client-default.ensures.listened)
    c.heard.ensures.step

pub returns-in_ok-heard-in-Live-default-Client-default-clause-keyed : goal.returns-in_ok-heard-in-Live-default-Client-default-clause-keyed
returns-in_ok-heard-in-Live-default-Client-default-clause-keyed c =
    subst AreKeyed (sym c.heard.ensures.clients)
    (keyed_after c.args.self.now.clients.entries c.in-Some-client_at.at c.index_mut.result.now c.listen.new.client c.index_mut.ensures.value c.listen.ensures.number c.requires.keyed)

pub returns-in_err-heard-in-Live-default-Client-default-clause-keyed : goal.returns-in_err-heard-in-Live-default-Client-default-clause-keyed
returns-in_err-heard-in-Live-default-Client-default-clause-keyed c =
    keyed_after c.args.self.now.clients.entries c.in-Some-client_at.at c.index_mut.result.now c.listen.new.client c.index_mut.ensures.value c.listen.ensures.number c.requires.keyed
