use Rattle.std.proofs.Common.{refl}
use Rattle.client_core.proofs.CallLemmas.{there_in, not_there}
use Rattle.client_core.proofs.calls.Calls.is_ready.Goals as goal

pub ready-requires : goal.ready-requires
ready-requires c = there_in c.self.inside.order c.self.inside.rows c.self.inside.rows c.args.no.0 c.has.result c.self.invariant.ordered c.has.ensures refl c.if-has.true

pub returns-else-has : goal.returns-else-has
returns-else-has c = rw (← c.self.view_is) (not_there c.self.inside.rows c.self.inside.rows c.args.no.0 c.has.result c.has.ensures refl c.if-has.false)
