use Rattle.std.proofs.Common.{◌≡◌, length, sym, ap, refl, ◌∙◌, arith, rules}
use Rattle.std.specs.Vec.{vec_len}
use Rattle.dep_order.proofs.Rising.{below_all}
use Rattle.dep_order.proofs.Sound.{new_below, new_apart, new_free, new_seen, new_sound}
use Rattle.dep_order.proofs.order.Order.add.Goals as goal

pub index_mut-requires : goal.index_mut-requires
index_mut-requires c =
    let below = new_below c.self.invariant c.in-Some.place (sym c.in-Some.is ∙ c.pop_front.ensures.first) in
    let all = c.self.invariant.row_count in
    let same : vec_len c.self.inside.rows ≡ length c.self.inside.rows.items = search rules in
    omega arith

pub push_back-requires-clause-node_in : goal.push_back-requires-clause-node_in
push_back-requires-clause-node_in c =
    let below = new_below c.self.invariant c.in-Some.place (sym c.in-Some.is ∙ c.pop_front.ensures.first) in
    omega (arith, ap (λ v. v.nodes) c.pop_front.ensures.rest, c.self.invariant.place_count)

pub push_back-requires-clause-free : goal.push_back-requires-clause-free
push_back-requires-clause-free c = new_free c.self.invariant c.in-Some.place (sym c.in-Some.is ∙ c.pop_front.ensures.first) c.pop_front.new.self c.pop_front.ensures.rest

pub join-requires-clause-within : goal.join-requires-clause-within
join-requires-clause-within c = new_below c.self.invariant c.in-Some.place (sym c.in-Some.is ∙ c.pop_front.ensures.first)

pub join-requires-clause-apart : goal.join-requires-clause-apart
join-requires-clause-apart c = new_apart c.self.invariant c.in-Some.place (sym c.in-Some.is ∙ c.pop_front.ensures.first)

pub invariant_of-self : goal.invariant_of-self
invariant_of-self c =
    new_sound c.self.invariant c.in-Some.place (sym c.in-Some.is ∙ c.pop_front.ensures.first) c.pop_front.new.self c.pop_front.ensures.rest
    c.row_of-row.result _ refl c.push_back.new.self c.join.new.waits c.push_back.ensures.lists
    (rw (ap (λ k. k.0) c.row_of-row.ensures.print, c.self.view_is) (below_all c.args.no.0 c.args.self.now c.requires.later))
    c.row_of-row.ensures.fit c.push_back.ensures.valid c.join.ensures.nodes c.join.ensures.count c.join.ensures.valid c.join.ensures.stands c.join.ensures.grown

pub returns : goal.returns
returns c =
    new_seen c.self.invariant c.in-Some.place (sym c.in-Some.is ∙ c.pop_front.ensures.first) c.pop_front.new.self c.pop_front.ensures.rest
    c.row_of-row.result _ refl c.push_back.new.self c.join.new.waits c.push_back.ensures.lists
    ∙ rw (c.self.view_is, c.row_of-row.ensures.print) refl
