use Rattle.std.proofs.Common.{◌≡◌, ℕ, ◌<◌, ◌≤◌, false}
use Rattle.index_lists.specs.NodeLists.{IsIn}
use Rattle.dep_order.specs.WaitLists.{wanted_at}
use Rattle.dep_order.specs.declared.walk.Wanted.TheVariants.{AwaitedBy}
use Rattle.dep_order.proofs.walk.waits_in.Given as goal

abbrev pub invariant-loop-list : goal.invariant-loop-list
invariant-loop-list l = (list node : ℕ) → l.fn.run.from ≤ list → list < l.list → IsIn l.lists list node → wanted_at l.rows (AwaitedBy l.row) node ≡ false
