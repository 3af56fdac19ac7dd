use Rattle.std.proofs.Common.{arith}
use Rattle.index_lists.proofs.Looks.{held_below}
use Rattle.index_lists.proofs.Changes.{remove_done}
use Rattle.index_lists.proofs.lists.Lists.remove.Goals as goal

pub cut-requires-clause-node_in : goal.cut-requires-clause-node_in
cut-requires-clause-node_in c = (held_below c.self.invariant c.self.view_is c.requires).next_in

pub cut-requires-clause-before_in : goal.cut-requires-clause-before_in
cut-requires-clause-before_in c = (held_below c.self.invariant c.self.view_is c.requires).before_in

pub cut-requires-clause-behind_in : goal.cut-requires-clause-behind_in
cut-requires-clause-behind_in c = (held_below c.self.invariant c.self.view_is c.requires).behind_in

pub index_mut-requires : goal.index_mut-requires
index_mut-requires c = omega (arith, (held_below c.self.invariant c.self.view_is c.requires).owner_in)

pub invariant_of-self : goal.invariant_of-self
invariant_of-self c = (remove_done c.self.invariant c.self.view_is _ _ c.requires.1 c.cut.ensures.next c.cut.ensures.prev).sound

pub returns-clause-lists : goal.returns-clause-lists
returns-clause-lists c = λ list h. (remove_done c.self.invariant c.self.view_is _ _ h c.cut.ensures.next c.cut.ensures.prev).seen

pub returns-clause-valid : goal.returns-clause-valid
returns-clause-valid c = (remove_done c.self.invariant c.self.view_is _ _ c.requires.1 c.cut.ensures.next c.cut.ensures.prev).valid
