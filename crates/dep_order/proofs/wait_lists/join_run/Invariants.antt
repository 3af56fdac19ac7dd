use Rattle.dep_order.proofs.Joining.{HasJoined}
use Rattle.dep_order.proofs.wait_lists.join_run.Given as goal

abbrev pub invariant-loop-k : goal.invariant-loop-k
invariant-loop-k l = HasJoined l.initial.waits l.waits l.run.from l.first l.k
