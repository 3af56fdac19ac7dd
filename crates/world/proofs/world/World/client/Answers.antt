-- The client under the number is the client of the number, and was given no later moment than the world.
use Rattle.std.proofs.Common.{◌≡◌, ◌≤◌, Option, None, ap, is_some, subst, sym, ◌∙◌}
use Rattle.client_model.specs.Client.{ClientState}
use Rattle.world.specs.Fields.{IsWithin, world_of}
use Rattle.world.specs.Running.{Running}
use Rattle.world.specs.Worlds.{client_in}
use Rattle.world.proofs.ClientLemmas.{found_under}
use Rattle.world.proofs.Sound.{each_found}
use Rattle.world.proofs.world.World.client.Goals as goal

pub unreachable-requires : goal.unreachable-requires
unreachable-requires c =
    let none : None ≡ client_in c.args.self.now.world.clients c.args.no =
    c.in_default.ensures.value ∙ found_under c.self.inside.whole.clients.entries c.args.no c.self.invariant.0
    ∙ ap (λ (r : Running). client_in r.world.clients c.args.no) c.self.view_is in
    let absent = ap (λ (o : Option ClientState). is_some o) none in
    cc

pub returns-clause-client : goal.returns-clause-client
returns-clause-client c =
    c.in-Some.ensures.value ∙ found_under c.self.inside.whole.clients.entries c.args.no c.self.invariant.0
    ∙ ap (λ (r : Running). client_in r.world.clients c.args.no) c.self.view_is

pub returns-clause-last : goal.returns-clause-last
returns-clause-last c = λ unspent.
    let w = world_of c.self.inside.whole in
    let found = sym (c.in-Some.ensures.value ∙ found_under c.self.inside.whole.clients.entries c.args.no c.self.invariant.0) in
    let sound = c.self.invariant.1 (ap (λ (r : Running). r.spent) c.self.view_is ∙ unspent) in
    let within = each_found (IsWithin c.self.inside.line w.moment) w.clients c.args.no c.in-Some.client.now sound.world.clients found in
    subst (λ (r : Running). c.in-Some.client.now.last ≤ r.world.moment) c.self.view_is within.last
