-- The records are sound at every moment.
use Rattle.node_core.proofs.Recorded.{set_up}
use Rattle.node_core.proofs.keeper.Keeper.last.Goals as goal

pub returns-clause-set_up : goal.returns-clause-set_up
returns-clause-set_up g c = set_up c.args.self.now _ _ c.self.inside.retry c.self.inside.last c.self.view_is c.self.invariant
