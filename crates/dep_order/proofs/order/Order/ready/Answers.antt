use Rattle.std.proofs.Common.{◌≡◌, length, sym, ap, ◌∙◌, arith, rules, subst}
use Rattle.std.specs.Vec.{vec_len}
use Rattle.client_model.specs.Order.{may_go}
use Rattle.dep_order.specs.declared.row.WaitRow.{WaitRow}
use Rattle.dep_order.specs.Rows.{print_of}
use Rattle.dep_order.specs.WaitLists.{AreFit}
use Rattle.dep_order.proofs.Going.{found_place, place_there, found_ready}
use Rattle.dep_order.proofs.Rows.{row_read}
use Rattle.dep_order.proofs.Sound.{below}
use Rattle.dep_order.proofs.order.Order.ready.Goals as goal

pub unreachable-requires : goal.unreachable-requires
unreachable-requires c = place_there c.self.invariant c.deref.result.now c.deref.ensures.value c.self.view_is c.args.no.0 c.requires (sym c.in_default.is ∙ c.place_of_number.ensures)

pub index-requires : goal.index-requires
index-requires c =
    let there =
    found_place c.self.invariant c.deref.result.now c.deref.ensures.value c.self.view_is c.args.no.0 c.in-Some.place
    (sym c.in-Some.is ∙ c.place_of_number.ensures) in
    let lt = below c.self.invariant 0 c.in-Some.place there.0 in
    let all = c.self.invariant.row_count in
    let same : vec_len c.self.inside.rows ≡ length c.self.inside.rows.items = search rules in
    omega arith

pub goes-requires : goal.goes-requires
goes-requires c =
    let there =
    found_place c.self.invariant c.deref.result.now c.deref.ensures.value c.self.view_is c.args.no.0 c.in-Some.place
    (sym c.in-Some.is ∙ c.place_of_number.ensures) in
    let lt = below c.self.invariant 0 c.in-Some.place there.0 in
    let read = row_read c.self.inside.rows.items c.in-Some.place c.index.result.now (omega (arith, c.self.invariant.row_count)) c.index.ensures in
    subst (λ (r : WaitRow). AreFit r.pages) (sym read) (c.self.invariant.fit c.in-Some.place)

pub returns : goal.returns
returns c =
    let there =
    found_place c.self.invariant c.deref.result.now c.deref.ensures.value c.self.view_is c.args.no.0 c.in-Some.place
    (sym c.in-Some.is ∙ c.place_of_number.ensures) in
    let lt = below c.self.invariant 0 c.in-Some.place there.0 in
    let read = row_read c.self.inside.rows.items c.in-Some.place c.index.result.now (omega (arith, c.self.invariant.row_count)) c.index.ensures in
    c.goes.ensures
    ∙ ap (λ (r : WaitRow). may_go c.args.self.now (print_of r)) read
    ∙ found_ready c.self.invariant c.deref.result.now c.deref.ensures.value c.self.view_is c.args.no.0 c.in-Some.place there.0 there.1
