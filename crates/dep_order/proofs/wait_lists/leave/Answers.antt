use Rattle.dep_order.proofs.Joining.{left_more}
use Rattle.dep_order.proofs.wait_lists.leave.Goals as goal

pub loop-k-preserved : goal.loop-k-preserved
loop-k-preserved c =
    left_more c.loop-k.invariant c.leave_one.new.waits c.leave_one.ensures.nodes c.leave_one.ensures.count c.leave_one.ensures.valid
    c.leave_one.ensures.kept c.leave_one.ensures.only c.leave_one.ensures.order
