use Rattle.std.proofs.Common.{arith}
use Rattle.index_lists.proofs.Looks.{list_below, last_below}
use Rattle.index_lists.proofs.Changes.{push_back_done}
use Rattle.index_lists.proofs.lists.Lists.push_back.Goals as goal

pub index-last-requires : goal.index-last-requires
index-last-requires c = omega (arith, list_below c.self.invariant c.self.view_is c.requires.list_in)

pub put-requires-clause-place_in : goal.put-requires-clause-place_in
put-requires-clause-place_in c = (last_below c.self.invariant c.self.view_is c.requires.list_in c.index-last.ensures).0

pub put-requires-clause-behind_in : goal.put-requires-clause-behind_in
put-requires-clause-behind_in c = (last_below c.self.invariant c.self.view_is c.requires.list_in c.index-last.ensures).1

pub invariant_of-self : goal.invariant_of-self
invariant_of-self c = (push_back_done c.self.invariant c.self.view_is c.requires.list_in c.requires.node_in c.requires.free c.index-last.ensures c.put.ensures.next c.put.ensures.prev).sound

pub returns : goal.returns
returns c =
    let done = push_back_done c.self.invariant c.self.view_is c.requires.list_in c.requires.node_in c.requires.free c.index-last.ensures c.put.ensures.next c.put.ensures.prev in
    record { lists = done.seen; valid = done.valid }
