use Rattle.std.proofs.Common.{arith, rules, subst, sym}
use Rattle.client_model.specs.Cut.{GivenUp}
use Rattle.client_core.proofs.RowLemmas.{came_within, row_waits, row_came}
use Rattle.client_core.proofs.row.CallRow.give_up.Goals as goal

pub give_up-requires : goal.give_up-requires
give_up-requires c = came_within c.self.inside.gather c.self.inside.call c.args.i _ (rw (← c.self.view_is) at c.requires)

pub overflow_sub-self : goal.overflow_sub-self
overflow_sub-self c = row_waits c.args.i c.self.invariant (rw (← c.self.view_is) at c.requires)

pub invariant_of-self : goal.invariant_of-self
invariant_of-self c =
    row_came c.args.i (GivenUp c.args.first_sent c.args.now) c.self.invariant (rw (← c.self.view_is) at c.requires)
    (c.give_up.ensures.gathered c.self.inside.call c.self.invariant.gathers) (c.give_up.ensures.came c.self.inside.call)
