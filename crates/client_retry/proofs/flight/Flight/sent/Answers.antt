-- A free place takes the part, and its fields stand for the parts with one more.
use Rattle.std.proofs.Common.{◌+◌, ◌∷◌, ◌++◌, [], ap, sym, subst, ◌∙◌, arith}
use Rattle.std.specs.List.{position_or_len}
use Rattle.index_lists.specs.NodeLists.{list_at, with_list}
use Rattle.client_retry.specs.declared.flown.Flown.{Flown}
use Rattle.client_retry.specs.declared.walk.Wanted.TheVariants.{Behind}
use Rattle.client_retry.specs.Fields.{IsSound, flown_at, flying}
use Rattle.client_retry.specs.Flights.{has_orig, with_flown}
use Rattle.client_retry.specs.Walks.{wanted_at}
use Rattle.client_retry.proofs.Flying.{none_has}
use Rattle.client_retry.proofs.Sound.{new_below, new_free, new_seen, new_sound}
use Rattle.client_retry.proofs.flight.Flight.sent.Goals as goal

pub put-requires-clause-within : goal.put-requires-clause-within
put-requires-clause-within c =
    let f : Flown = record { part = c.args.part; orig = c.args.id; first = c.args.now; last = c.args.now } in
    new_below c.self.invariant c.in-Some.place (sym c.in-Some.is ∙ c.pop_front.ensures.first) f

pub push_back-requires-clause-node_in : goal.push_back-requires-clause-node_in
push_back-requires-clause-node_in c =
    let f : Flown = record { part = c.args.part; orig = c.args.id; first = c.args.now; last = c.args.now } in
    omega (arith, new_below c.self.invariant c.in-Some.place (sym c.in-Some.is ∙ c.pop_front.ensures.first) f, c.self.invariant.chained_count)

pub put_in_order-requires-clause-within : goal.put_in_order-requires-clause-within
put_in_order-requires-clause-within c =
    let f : Flown = record { part = c.args.part; orig = c.args.id; first = c.args.now; last = c.args.now } in
    new_below c.self.invariant c.in-Some.place (sym c.in-Some.is ∙ c.pop_front.ensures.first) f

pub put_in_order-requires-clause-free : goal.put_in_order-requires-clause-free
put_in_order-requires-clause-free c =
    let f : Flown = record { part = c.args.part; orig = c.args.id; first = c.args.now; last = c.args.now } in
    new_free c.self.invariant c.in-Some.place (sym c.in-Some.is ∙ c.pop_front.ensures.first) f c.pop_front.new.self c.pop_front.ensures.rest

pub invariant_of-self : goal.invariant_of-self
invariant_of-self c =
    let f : Flown = record { part = c.args.part; orig = c.args.id; first = c.args.now; last = c.args.now } in
    let chains = c.push_back.ensures.lists ∙ ap (λ l. with_list c.self.inside.chains l (list_at c.self.inside.chains l ++ c.in-Some.place ∷ [])) c.chain_of.ensures in
    subst (λ v. IsSound v c.put_in_order.new.places c.push_back.new.self (c.self.inside.count + 1)) (sym c.put.ensures) (
    new_sound c.self.invariant c.in-Some.place (sym c.in-Some.is ∙ c.pop_front.ensures.first) f c.pop_front.new.self c.pop_front.ensures.rest
    c.put_in_order.new.places c.push_back.new.self (position_or_len (wanted_at c.put.new.self (Behind c.args.part)) (list_at c.pop_front.new.self 0))
    c.put_in_order.ensures.places c.put_in_order.ensures.valid chains c.push_back.ensures.valid
    (none_has (flown_at c.self.inside.slots) c.args.id (list_at c.self.inside.places 0) (ap (λ v. has_orig c.args.id v.flown) c.self.view_is ∙ c.requires.id)))

pub returns-clause-flown : goal.returns-clause-flown
returns-clause-flown c =
    let f : Flown = record { part = c.args.part; orig = c.args.id; first = c.args.now; last = c.args.now } in
    let chains = c.push_back.ensures.lists ∙ ap (λ l. with_list c.self.inside.chains l (list_at c.self.inside.chains l ++ c.in-Some.place ∷ [])) c.chain_of.ensures in
    ap (λ v. flying v c.put_in_order.new.places) c.put.ensures
    ∙ new_seen c.self.invariant c.in-Some.place (sym c.in-Some.is ∙ c.pop_front.ensures.first) f c.pop_front.new.self c.pop_front.ensures.rest
    c.put_in_order.new.places c.push_back.new.self (position_or_len (wanted_at c.put.new.self (Behind c.args.part)) (list_at c.pop_front.new.self 0))
    c.put_in_order.ensures.places c.put_in_order.ensures.valid chains c.push_back.ensures.valid
    (ap (λ v. position_or_len (wanted_at v (Behind c.args.part)) (list_at c.pop_front.new.self 0)) c.put.ensures)
    ∙ ap (λ v. with_flown f v.flown) c.self.view_is
