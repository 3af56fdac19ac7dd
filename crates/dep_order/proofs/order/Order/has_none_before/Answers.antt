use Rattle.std.proofs.Common.{◌≡◌, leb, not, nat_lt, length, sym, ap, ◌∙◌, arith, rules}
use Rattle.std.specs.List.{list_all}
use Rattle.std.specs.Vec.{vec_len}
use Rattle.index_lists.specs.NodeLists.{list_at}
use Rattle.dep_order.specs.declared.row.WaitRow.{WaitRow}
use Rattle.dep_order.specs.Fields.{print_at}
use Rattle.dep_order.proofs.Rising.{first_tells}
use Rattle.dep_order.proofs.Rows.{row_read}
use Rattle.dep_order.proofs.Sound.{below}
use Rattle.dep_order.proofs.order.Order.has_none_before.Goals as goal
use Rattle.index_lists.proofs.Members.{has_at}

pub index-requires : goal.index-requires
index-requires c =
    let lt = below c.self.invariant 0 c.in-Some.place (has_at (list_at c.self.inside.places 0) 0 c.in-Some.place (sym c.first.ensures.first ∙ c.in-Some.is)) in
    let all = c.self.invariant.row_count in
    let same : vec_len c.self.inside.rows ≡ length c.self.inside.rows.items = search rules in
    omega arith

pub returns : goal.returns
returns c =
    let lt = below c.self.invariant 0 c.in-Some.place (has_at (list_at c.self.inside.places 0) 0 c.in-Some.place (sym c.first.ensures.first ∙ c.in-Some.is)) in
    ap (λ (r : WaitRow). leb c.args.row.now.no.0 r.no.0) (row_read c.self.inside.rows.items c.in-Some.place c.index.result.now (omega (arith, c.self.invariant.row_count)) c.index.ensures)
    ∙ sym (first_tells (print_at c.self.inside.rows.items) (list_at c.self.inside.places 0) c.args.row.now.no.0 c.in-Some.place c.self.invariant.rising (sym c.in-Some.is ∙ c.first.ensures.first))
    ∙ ap (list_all (λ k. not (nat_lt k.0 c.args.row.now.no.0))) c.self.view_is
