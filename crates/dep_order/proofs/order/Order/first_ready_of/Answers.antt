use Rattle.std.proofs.Common.{◌≡◌, None, Some, length, sym, ap, subst, ◌∙◌, arith, rules}
use Rattle.std.specs.Vec.{vec_len}
use Rattle.index_lists.specs.NodeLists.{list_at}
use Rattle.dep_order.specs.declared.row.WaitRow.{WaitRow}
use Rattle.dep_order.specs.WaitLists.{AreFit}
use Rattle.dep_order.proofs.Going.{goes_from, first_from, goes_here, stays_before, stays_waiting}
use Rattle.dep_order.proofs.Rows.{row_read}
use Rattle.dep_order.proofs.Sound.{below}
use Rattle.dep_order.proofs.Walks.{begins, ends, stands_in, found, goes_on, shorter}
use Rattle.dep_order.proofs.order.Order.first_ready_of.Goals as goal
use Rattle.dep_order.proofs.order.Order.first_ready_of.Goals.{else-from-row-via-then-from-row+else-goes, else-from-row-via-else-from-row}

pub loop-at-init : goal.loop-at-init
loop-at-init c = begins (goes_from c.self.inside.rows.items c.self.inside.places c.args.from.0) (list_at c.self.inside.places 0) c.first-at.result c.first-at.ensures.first

pub index-requires : goal.index-requires
index-requires c =
    let lt = below c.self.invariant 0 c.in-Some.place (stands_in c.loop-at.invariant c.in-Some.place c.in-Some.is) in
    let all = c.self.invariant.row_count in
    let same : vec_len c.self.inside.rows ≡ length c.self.inside.rows.items = search rules in
    omega arith

pub goes-requires : goal.goes-requires
goes-requires c =
    let lt = below c.self.invariant 0 c.in-Some.place (stands_in c.loop-at.invariant c.in-Some.place c.in-Some.is) in
    let read = row_read c.self.inside.rows.items c.in-Some.place c.index.result.now (omega (arith, c.self.invariant.row_count)) c.index.ensures in
    subst (λ (r : WaitRow). AreFit r.pages) (sym read) (c.self.invariant.fit c.in-Some.place)

pub returns-then-goes : goal.returns-then-goes
returns-then-goes c =
    let lt = below c.self.invariant 0 c.in-Some.place (stands_in c.loop-at.invariant c.in-Some.place c.in-Some.is) in
    let read = row_read c.self.inside.rows.items c.in-Some.place c.index.result.now (omega (arith, c.self.invariant.row_count)) c.index.ensures in
    let goes = goes_here c.self.inside.rows.items c.self.inside.places c.self.view_is c.args.from.0 c.in-Some.place c.index.result.now read c.goes.result c.if-from-row.true c.goes.ensures c.if-goes.true in
    ap (λ (r : WaitRow). Some r.no) read
    ∙ first_from c.self.inside.rows.items c.self.inside.places c.self.view_is c.args.from.0 (Some c.in-Some.place)
    (found c.loop-at.invariant c.in-Some.place c.in-Some.is (c.self.invariant.places_valid.distinct 0) goes)

pub loop-at-smaller : goal.loop-at-smaller
loop-at-smaller c =
    shorter c.loop-at.invariant c.in-Some.place c.in-Some.is (c.self.invariant.places_valid.distinct 0) c.next-at.result
    (c.next-at.ensures.next 0 (stands_in c.loop-at.invariant c.in-Some.place c.in-Some.is))

pub loop-at-preserved : goal.loop-at-preserved
loop-at-preserved c =
    let lt = below c.self.invariant 0 c.in-Some.place (stands_in c.loop-at.invariant c.in-Some.place c.in-Some.is) in
    let read = row_read c.self.inside.rows.items c.in-Some.place c.index.result.now (omega (arith, c.self.invariant.row_count)) c.index.ensures in
    let next = c.next-at.ensures.next 0 (stands_in c.loop-at.invariant c.in-Some.place c.in-Some.is) in
    elim c.else-from-row.branch [
      | else-from-row-via-then-from-row+else-goes w ↦
          goes_on c.loop-at.invariant c.in-Some.place c.in-Some.is (c.self.invariant.places_valid.distinct 0)
          (stays_waiting c.self.inside.rows.items c.self.inside.places c.self.view_is c.args.from.0 c.in-Some.place c.index.result.now read w.goes.result w.goes.ensures w.if-goes.false) c.next-at.result next
      | else-from-row-via-else-from-row w ↦
          goes_on c.loop-at.invariant c.in-Some.place c.in-Some.is (c.self.invariant.places_valid.distinct 0)
          (stays_before c.self.inside.rows.items c.self.inside.places c.self.view_is c.args.from.0 c.in-Some.place c.index.result.now read w.if-from-row.false) c.next-at.result next
    ]

pub returns : goal.returns
returns c = first_from c.self.inside.rows.items c.self.inside.places c.self.view_is c.args.from.0 None (ends c.loop-at.invariant c.in_default.is)
