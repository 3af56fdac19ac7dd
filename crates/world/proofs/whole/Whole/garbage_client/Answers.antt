use Rattle.std.proofs.Common.{List, ap, set, ◌∙◌}
use Rattle.client_model.specs.Client.{ClientState}
use Rattle.frame_model.specs.Frames.{reply_fault}
use Rattle.world.specs.Fields.{world_of}
use Rattle.world.specs.Running.{stepped}
use Rattle.world.specs.Worlds.{garbage}
use Rattle.world.proofs.ClientLemmas.{keyed_after, same_at, written}
use Rattle.world.proofs.whole.Whole.garbage_client.Goals as goal

pub returns-clause-step : goal.returns-clause-step
returns-clause-step c =
    let w = world_of c.args.self.now in
    let at = c.in-Some.at in
    let same = written c.args.self.now.clients.entries at c.client_refuses-did.new.client ∙ ap (set w.clients at) c.client_refuses-did.ensures.client ∙ same_at w.clients at c.index_mut.result.now c.index_mut.ensures.value in
    ap (λ (xs : List ClientState). stepped c.alone-2.result (record w { clients = xs })) same
    ∙ (λ i. record { did = (c.alone-2.ensures.did ∙ c.client_refuses-did.ensures.did ∙ ap (λ bytes. garbage (reply_fault bytes)) (c.as_slice-2.ensures ∙ c.in_ok-bytes.ensures)) i; ended = c.alone-2.ensures.ended i; world = w })

pub returns-clause-keyed : goal.returns-clause-keyed
returns-clause-keyed c =
    keyed_after c.args.self.now.clients.entries c.in-Some.at c.index_mut.result.now c.client_refuses-did.new.client c.index_mut.ensures.value
    (ap (λ (s : ClientState). s.client) c.client_refuses-did.ensures.client) c.requires
