use Rattle.dep_order.proofs.Joining.{HasLeft}
use Rattle.dep_order.proofs.wait_lists.leave.Given as goal

abbrev pub invariant-loop-k : goal.invariant-loop-k
invariant-loop-k l = HasLeft l.initial.waits l.waits l.first l.k
