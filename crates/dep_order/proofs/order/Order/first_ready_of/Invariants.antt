use Rattle.std.proofs.Common.{length}
use Rattle.index_lists.specs.NodeLists.{list_at}
use Rattle.dep_order.proofs.Going.{goes_from}
use Rattle.dep_order.proofs.Walks.{HasCome}
use Rattle.dep_order.proofs.order.Order.first_ready_of.Given as goal
use Rattle.index_lists.proofs.Walks.{rest_from}

abbrev pub invariant-loop-at : goal.invariant-loop-at
invariant-loop-at l = HasCome (goes_from l.self-inside.rows.items l.self-inside.places l.from.0) (list_at l.self-inside.places 0) l.at

abbrev pub decreases-loop-at : goal.decreases-loop-at
decreases-loop-at l = length (rest_from l.at (list_at l.self-inside.places 0))
