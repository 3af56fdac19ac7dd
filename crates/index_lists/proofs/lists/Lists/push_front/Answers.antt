use Rattle.index_lists.proofs.Looks.{list_below, first_below}
use Rattle.index_lists.proofs.Changes.{push_front_done}
use Rattle.index_lists.proofs.lists.Lists.push_front.Goals as goal

pub put-requires-clause-place_in : goal.put-requires-clause-place_in
put-requires-clause-place_in c = (list_below c.self.invariant c.self.view_is c.requires.list_in).0

pub put-requires-clause-behind_in : goal.put-requires-clause-behind_in
put-requires-clause-behind_in c = first_below c.self.invariant c.self.view_is c.requires.list_in

pub invariant_of-self : goal.invariant_of-self
invariant_of-self c = (push_front_done c.self.invariant c.self.view_is c.requires.list_in c.requires.node_in c.requires.free c.put.ensures.next c.put.ensures.prev).sound

pub returns : goal.returns
returns c =
    let done = push_front_done c.self.invariant c.self.view_is c.requires.list_in c.requires.node_in c.requires.free c.put.ensures.next c.put.ensures.prev in
    record { lists = done.seen; valid = done.valid }
