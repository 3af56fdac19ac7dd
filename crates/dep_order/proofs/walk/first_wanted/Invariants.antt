use Rattle.std.proofs.Common.{length}
use Rattle.index_lists.specs.NodeLists.{list_at}
use Rattle.dep_order.specs.WaitLists.{wanted_at}
use Rattle.dep_order.proofs.Walks.{HasCome}
use Rattle.dep_order.proofs.walk.first_wanted.Given as goal
use Rattle.index_lists.proofs.Walks.{rest_from}

abbrev pub invariant-loop-at : goal.invariant-loop-at
invariant-loop-at l = HasCome (wanted_at l.rows l.wanted) (list_at l.lists l.list) l.at

abbrev pub decreases-loop-at : goal.decreases-loop-at
decreases-loop-at l = length (rest_from l.at (list_at l.lists l.list))
