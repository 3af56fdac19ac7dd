-- A client for each that was passed, under its number.
use Rattle.std.proofs.Common.{◌≡◌, map, take}
use Rattle.client_model.specs.Client.{new_client}
use Rattle.world.proofs.create.clients_of.Given as goal

abbrev pub invariant-loop-no : goal.invariant-loop-no
invariant-loop-no l = l.clients.entries ≡ map (λ g. (g.0.0, new_client g.0 g.1)) (take l.no-index l.given)
