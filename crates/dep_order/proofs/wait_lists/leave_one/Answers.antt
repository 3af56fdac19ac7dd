use Rattle.std.proofs.Common.{sym, subst, ◌∙◌}
use Rattle.index_lists.specs.NodeLists.{list_at}
use Rattle.dep_order.specs.WaitLists.{IsInOrder}
use Rattle.dep_order.proofs.InOrder.{order_without}
use Rattle.dep_order.proofs.Joining.{held_there}
use Rattle.dep_order.proofs.Listed.{removed_in, removed_old, removed_there}
use Rattle.dep_order.proofs.wait_lists.leave_one.Goals as goal

pub returns-then-is_some-clause-kept : goal.returns-then-is_some-clause-kept
returns-then-is_some-clause-kept c =
    let held = held_there c.args.waits.now c.args.node c.list_of.result (sym c.is_some.ensures ∙ c.if-is_some.true) c.list_of.ensures.found in
    removed_old c.args.waits.now held.0 c.args.node c.remove.new.self (c.remove.ensures.lists held.0 held.1) (c.requires.valid.in_range held.0 c.args.node held.1).0

pub returns-then-is_some-clause-only : goal.returns-then-is_some-clause-only
returns-then-is_some-clause-only c =
    let held = held_there c.args.waits.now c.args.node c.list_of.result (sym c.is_some.ensures ∙ c.if-is_some.true) c.list_of.ensures.found in
    λ l n h. removed_in c.args.waits.now held.0 c.args.node c.remove.new.self (c.remove.ensures.lists held.0 held.1) (c.requires.valid.in_range held.0 c.args.node held.1).0 l n
    (λ k h. c.requires.valid.apart k held.0 c.args.node h held.1) h

pub returns-then-is_some-clause-order : goal.returns-then-is_some-clause-order
returns-then-is_some-clause-order c =
    let held = held_there c.args.waits.now c.args.node c.list_of.result (sym c.is_some.ensures ∙ c.if-is_some.true) c.list_of.ensures.found in
    λ number list h.
    let now = removed_there c.args.waits.now held.0 c.args.node c.remove.new.self (c.remove.ensures.lists held.0 held.1) (c.requires.valid.in_range held.0 c.args.node held.1).0 list
    (λ k h. c.requires.valid.apart k held.0 c.args.node h held.1) in
    subst (IsInOrder number) (sym now) (order_without number c.args.node (list_at c.args.waits.now list) h)
