use Rattle.std.proofs.Common.{refl, sym, ◌∙◌, arith}
use Rattle.dep_order.proofs.Going.{found_place, place_there}
use Rattle.dep_order.proofs.Sound.{below, out_free, out_seen, out_sound}
use Rattle.dep_order.proofs.order.Order.end.Goals as goal

pub unreachable-requires : goal.unreachable-requires
unreachable-requires c = place_there c.self.invariant c.deref.result.now c.deref.ensures.value c.self.view_is c.args.no.0 c.requires (sym c.in_default.is ∙ c.place_of_number.ensures)

pub remove-requires : goal.remove-requires
remove-requires c =
    let there =
    found_place c.self.invariant c.deref.result.now c.deref.ensures.value c.self.view_is c.args.no.0 c.in-Some.place
    (sym c.in-Some.is ∙ c.place_of_number.ensures) in
    (0, there.0)

pub push_back-requires-clause-node_in : goal.push_back-requires-clause-node_in
push_back-requires-clause-node_in c =
    let there =
    found_place c.self.invariant c.deref.result.now c.deref.ensures.value c.self.view_is c.args.no.0 c.in-Some.place
    (sym c.in-Some.is ∙ c.place_of_number.ensures) in
    omega (arith, below c.self.invariant 0 c.in-Some.place there.0, c.self.invariant.place_count, c.remove.ensures.nodes)

pub push_back-requires-clause-free : goal.push_back-requires-clause-free
push_back-requires-clause-free c =
    let there =
    found_place c.self.invariant c.deref.result.now c.deref.ensures.value c.self.view_is c.args.no.0 c.in-Some.place
    (sym c.in-Some.is ∙ c.place_of_number.ensures) in
    out_free c.self.invariant c.in-Some.place there.0 c.remove.new.self c.remove.ensures.lists

pub leave-requires-clause-within : goal.leave-requires-clause-within
leave-requires-clause-within c =
    let there =
    found_place c.self.invariant c.deref.result.now c.deref.ensures.value c.self.view_is c.args.no.0 c.in-Some.place
    (sym c.in-Some.is ∙ c.place_of_number.ensures) in
    below c.self.invariant 0 c.in-Some.place there.0

pub invariant_of-self : goal.invariant_of-self
invariant_of-self c =
    let there =
    found_place c.self.invariant c.deref.result.now c.deref.ensures.value c.self.view_is c.args.no.0 c.in-Some.place
    (sym c.in-Some.is ∙ c.place_of_number.ensures) in
    out_sound c.self.invariant c.in-Some.place there.0 c.remove.new.self c.remove.ensures.lists c.push_back.new.self c.leave.new.waits c.push_back.ensures.lists
    c.push_back.ensures.valid c.leave.ensures.nodes c.leave.ensures.count c.leave.ensures.valid c.leave.ensures.kept c.leave.ensures.only c.leave.ensures.order

pub returns : goal.returns
returns c =
    let there =
    found_place c.self.invariant c.deref.result.now c.deref.ensures.value c.self.view_is c.args.no.0 c.in-Some.place
    (sym c.in-Some.is ∙ c.place_of_number.ensures) in
    out_seen c.self.invariant c.in-Some.place there.0 c.remove.new.self c.remove.ensures.lists c.push_back.new.self c.leave.new.waits c.push_back.ensures.lists c.args.no.0 there.1
    ∙ rw c.self.view_is refl
