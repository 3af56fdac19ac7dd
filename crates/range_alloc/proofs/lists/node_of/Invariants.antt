use Rattle.range_alloc.proofs.NodeLemmas.{IsWalked, from_on}
use Rattle.index_lists.specs.NodeLists.{list_at}
use Rattle.range_alloc.proofs.lists.node_of.Given as goal

abbrev pub invariant-loop-at : goal.invariant-loop-at
invariant-loop-at l = IsWalked l.ranges (list_at l.lists l.list) l.start l.at

abbrev pub decreases-loop-at : goal.decreases-loop-at
decreases-loop-at l = from_on l.at (list_at l.lists l.list)
