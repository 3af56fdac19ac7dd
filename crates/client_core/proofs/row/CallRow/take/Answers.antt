use Rattle.std.proofs.Common.{arith, rules, subst, sym}
use Rattle.cl_types.specs.Requests.{reply_of}
use Rattle.client_model.specs.Cut.{Replied}
use Rattle.client_core.proofs.RowLemmas.{row_waits, row_came}
use Rattle.client_core.proofs.row.CallRow.take.Goals as goal

pub overflow_sub-self : goal.overflow_sub-self
overflow_sub-self c = row_waits c.args.i c.self.invariant (rw (← c.self.view_is) at c.requires.still)

pub invariant_of-self : goal.invariant_of-self
invariant_of-self c =
    row_came c.args.i (Replied (reply_of c.args.reply.now)) c.self.invariant (rw (← c.self.view_is) at c.requires.still)
    c.take.ensures.gathered c.take.ensures.came
