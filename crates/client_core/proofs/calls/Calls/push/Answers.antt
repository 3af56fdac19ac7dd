use Rattle.std.proofs.Common.{◌<◌, subst, sym}
use Rattle.std.specs.List.{All}
use Rattle.client_core.proofs.CallLemmas.{prints_below}
use Rattle.client_core.proofs.calls.Calls.push.Goals as goal

pub add-requires-clause-later : goal.add-requires-clause-later
add-requires-clause-later c =
    subst (All (λ k. k.0 < c.args.no.0)) (sym c.self.invariant.ordered) (prints_below c.args.no.0 c.self.inside.rows (rw (← c.self.view_is) at c.requires.later))
