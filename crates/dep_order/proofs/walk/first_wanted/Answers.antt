use Rattle.std.proofs.Common.{◌≤◌, arith, sym, ap, ◌∙◌, option_map}
use Rattle.index_lists.specs.NodeLists.{list_at}
use Rattle.dep_order.specs.WaitLists.{number_at, place_of, wanted_at}
use Rattle.dep_order.proofs.Walks.{begins, ends, stands_in, found, goes_on, shorter}
use Rattle.dep_order.proofs.InOrder.{may_stop, none_past}
use Rattle.dep_order.proofs.walk.first_wanted.Goals as goal

pub loop-at-init : goal.loop-at-init
loop-at-init c = begins (wanted_at c.args.rows.now c.args.wanted) (list_at c.args.lists.now c.args.list) c.first-at.result c.first-at.ensures.first

pub returns-then-is_wanted : goal.returns-then-is_wanted
returns-then-is_wanted c =
    sym (ap (option_map place_of) (found c.loop-at.invariant c.in-Some.node c.in-Some.is (c.first-at.ensures.valid.distinct c.args.list) (sym c.is_wanted.ensures ∙ c.if-is_wanted.true)))

pub loop-at-smaller : goal.loop-at-smaller
loop-at-smaller c =
    shorter c.loop-at.invariant c.in-Some.node c.in-Some.is (c.next-at.ensures.valid.distinct c.args.list) c.next-at.result
    (c.next-at.ensures.next c.args.list (stands_in c.loop-at.invariant c.in-Some.node c.in-Some.is))

pub loop-at-preserved : goal.loop-at-preserved
loop-at-preserved c =
    goes_on c.loop-at.invariant c.in-Some.node c.in-Some.is (c.next-at.ensures.valid.distinct c.args.list) (sym c.is_wanted.ensures ∙ c.if-is_wanted.false) c.next-at.result
    (c.next-at.ensures.next c.args.list (stands_in c.loop-at.invariant c.in-Some.node c.in-Some.is))

pub returns : goal.returns
returns c = sym (ap (option_map place_of) (ends c.loop-at.invariant c.in_default.is))

pub returns-then-row-number : goal.returns-then-row-number
returns-then-row-number c =
    let no_less : c.number.result.0 ≤ number_at c.args.rows.now c.in-Some.node = c.if-row-number.true in
    sym (ap (option_map place_of) (
    may_stop (number_at c.args.rows.now) c.loop-at.invariant c.in-Some.node c.in-Some.is (c.first-at.ensures.valid.distinct c.args.list) c.requires.in_order
    (λ m le. none_past c.args.rows.now c.args.wanted c.in-Some.node m (sym c.is_wanted.ensures ∙ c.if-is_wanted.false) (omega (arith, no_less, c.number.ensures)) le)))
