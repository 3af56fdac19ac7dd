use Rattle.std.proofs.Common.{List, ap, sym, subst, ◌∙◌}
use Rattle.client_model.specs.Client.{ClientState}
use Rattle.world.specs.Fields.{AreKeyed, world_of}
use Rattle.world.specs.Saying.{turned_step}
use Rattle.world.proofs.ClientLemmas.{keyed_after, written}
use Rattle.world.proofs.Results.{if_ok_weaker}
use Rattle.world.proofs.StepLemmas.{is_there, polled_so}
use Rattle.world.proofs.whole.Whole.poll.Goals as goal

pub returns-clause-step : goal.returns-clause-step
returns-clause-step c =
    let w = world_of c.args.self.now in
    let at = c.in-Some.at in
    let there = is_there w c.args.no at c.index_mut.result.now c.in-Some.ensures.client c.index_mut.ensures.value in
    if_ok_weaker _ _ c.turned.result
    (λ told is. is
    ∙ ap (λ (xs : List ClientState). turned_step (record w { clients = xs }) c.args.line c.args.no c.in_ok-turned.turned c.turn.new.out) (written c.args.self.now.clients.entries at c.turn.new.client)
    ∙ polled_so w c.args.line c.args.no at c.index_mut.result.now c.turn.new.client c.in_ok-turned.turned c.turn.new.out there
    c.requires.ready.world.apart c.in_ok-turned.ensures.state c.in_ok-turned.ensures.turned)
    c.turned.ensures.step

pub returns-clause-keyed : goal.returns-clause-keyed
returns-clause-keyed c =
    subst AreKeyed (sym c.turned.ensures.clients)
    (keyed_after c.args.self.now.clients.entries c.in-Some.at c.index_mut.result.now c.turn.new.client c.index_mut.ensures.value c.turn.ensures.number c.requires.keyed)

pub returns-in_err-turned-clause-keyed : goal.returns-in_err-turned-clause-keyed
returns-in_err-turned-clause-keyed c = keyed_after c.args.self.now.clients.entries c.in-Some.at c.index_mut.result.now c.turn.new.client c.index_mut.ensures.value c.turn.ensures.number c.requires.keyed
