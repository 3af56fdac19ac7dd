use Rattle.std.proofs.Common.{List, ap, ◌∙◌}
use Rattle.client_model.specs.Client.{ClientState}
use Rattle.cl_types.specs.Written.{call_of}
use Rattle.world.specs.Fields.{world_of}
use Rattle.world.specs.Running.{stepped}
use Rattle.world.proofs.ClientLemmas.{keyed_after, written}
use Rattle.world.proofs.StepLemmas.{called_so, is_there}
use Rattle.world.proofs.whole.Whole.call.Goals as goal

pub returns-clause-step : goal.returns-clause-step
returns-clause-step c =
    let w = world_of c.args.self.now in
    let at = c.in-Some.at in
    let there = is_there w c.args.no at c.index_mut.result.now c.in-Some.ensures.client c.index_mut.ensures.value in
    ap (λ (xs : List ClientState). stepped c.alone-2.result (record w { clients = xs })) (written c.args.self.now.clients.entries at c.issue.new.client)
    ∙ called_so w c.args.no (call_of c.args.text.now) at c.index_mut.result.now c.issue.new.client c.in_ok-did.did c.alone-2.result there
    c.requires.ready.world.apart c.alone-2.ensures.did c.alone-2.ensures.ended c.in_ok-did.ensures.did c.in_ok-did.ensures.state

pub returns-clause-keyed : goal.returns-clause-keyed
returns-clause-keyed c = keyed_after c.args.self.now.clients.entries c.in-Some.at c.index_mut.result.now c.issue.new.client c.index_mut.ensures.value c.issue.ensures.number c.requires.keyed

pub returns-in_err-did-clause-keyed : goal.returns-in_err-did-clause-keyed
returns-in_err-did-clause-keyed c = keyed_after c.args.self.now.clients.entries c.in-Some.at c.index_mut.result.now c.issue.new.client c.index_mut.ensures.value c.issue.ensures.number c.requires.keyed
