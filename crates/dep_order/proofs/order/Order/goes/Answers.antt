use Rattle.std.proofs.Common.{sym, ◌∙◌}
use Rattle.dep_order.specs.Rows.{print_of}
use Rattle.dep_order.proofs.Going.{none_before, fence_stays}
use Rattle.dep_order.proofs.order.Order.goes.Goals as goal

pub returns-then-has_none_before : goal.returns-then-has_none_before
returns-then-has_none_before c = sym (none_before c.args.self.now (print_of c.args.row.now) (sym c.has_none_before.ensures ∙ c.if-has_none_before.true))

pub returns-then-row : goal.returns-then-row
returns-then-row c = sym (fence_stays c.args.self.now (print_of c.args.row.now) c.if-row.true (sym c.has_none_before.ensures ∙ c.if-has_none_before.false))
