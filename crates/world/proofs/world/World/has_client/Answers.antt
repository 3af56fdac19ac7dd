-- The client under the number is the client of the number.
use Rattle.std.proofs.Common.{Option, ap, is_some, ◌∙◌}
use Rattle.client_model.specs.Client.{ClientState}
use Rattle.world.specs.Running.{Running}
use Rattle.world.specs.Worlds.{client_in}
use Rattle.world.proofs.ClientLemmas.{found_under}
use Rattle.world.proofs.world.World.has_client.Goals as goal

pub returns : goal.returns
returns c =
    c.contains_key.ensures
    ∙ ap (λ (o : Option ClientState). is_some o)
    (found_under c.self.inside.whole.clients.entries c.args.no c.self.invariant.0 ∙ ap (λ (r : Running). client_in r.world.clients c.args.no) c.self.view_is)
