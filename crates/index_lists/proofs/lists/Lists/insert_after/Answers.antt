use Rattle.std.proofs.Common.{arith}
use Rattle.index_lists.proofs.Looks.{held_below}
use Rattle.index_lists.proofs.Changes.{insert_after_done}
use Rattle.index_lists.proofs.lists.Lists.insert_after.Goals as goal

pub put-requires-clause-place_in : goal.put-requires-clause-place_in
put-requires-clause-place_in c = (held_below c.self.invariant c.self.view_is c.requires.after_held).next_in

pub put-requires-clause-behind_in : goal.put-requires-clause-behind_in
put-requires-clause-behind_in c = (held_below c.self.invariant c.self.view_is c.requires.after_held).behind_in

pub index-requires : goal.index-requires
index-requires c = omega (arith, (held_below c.self.invariant c.self.view_is c.requires.after_held).owner_in)

pub invariant_of-self : goal.invariant_of-self
invariant_of-self c = (insert_after_done c.self.invariant c.self.view_is _ _ c.requires.node_in c.requires.free c.requires.after_held.1 c.index.ensures c.put.ensures.next c.put.ensures.prev).sound

pub returns-clause-lists : goal.returns-clause-lists
returns-clause-lists c = λ list h. (insert_after_done c.self.invariant c.self.view_is _ _ c.requires.node_in c.requires.free h c.index.ensures c.put.ensures.next c.put.ensures.prev).seen

pub returns-clause-valid : goal.returns-clause-valid
returns-clause-valid c = (insert_after_done c.self.invariant c.self.view_is _ _ c.requires.node_in c.requires.free c.requires.after_held.1 c.index.ensures c.put.ensures.next c.put.ensures.prev).valid
