-- The place leaves its chain and the parts in flight, and is free again.
use Rattle.std.proofs.Common.{refl, ◌-◌, Some, option_map, ap, sym, subst, ◌∙◌, arith}
use Rattle.index_lists.specs.NodeLists.{list_at}
use Rattle.client_retry.specs.declared.flown.Flown.{Flown}
use Rattle.client_retry.specs.Fields.{chain_of, IsSound, flown_at, chain_at, flying}
use Rattle.client_retry.specs.Flights.{without}
use Rattle.client_retry.proofs.Flying.{without_none}
use Rattle.client_retry.proofs.Sound.{chain_walked, chain_walked_to, part_there, out_free, out_seen, out_sound}
use Rattle.client_retry.proofs.flight.Flight.hear.Goals as goal
use Rattle.index_lists.proofs.Members.{length-without}

pub returns-in_default-clause-part : goal.returns-in_default-clause-part
returns-in_default-clause-part c =
    sym (ap (option_map (λ (f : Flown). f.part)) (chain_walked c.self.invariant (ap (λ v. v.flown) c.self.view_is) c.args.orig (chain_of c.args.orig) c.place_of.result refl c.place_of.ensures ∙ ap (option_map (flown_at c.self.inside.slots)) c.in_default.is))

pub returns-in_default-clause-flown : goal.returns-in_default-clause-flown
returns-in_default-clause-flown c =
    sym (without_none c.args.orig c.args.self.now.flown (chain_walked c.self.invariant (ap (λ v. v.flown) c.self.view_is) c.args.orig (chain_of c.args.orig) c.place_of.result refl c.place_of.ensures ∙ ap (option_map (flown_at c.self.inside.slots)) c.in_default.is))

pub take-flown-requires : goal.take-flown-requires
take-flown-requires c = c.self.invariant.filled c.in-Some.place (chain_walked_to c.self.invariant c.args.orig (chain_of c.args.orig) c.in-Some.place refl (sym c.in-Some.is ∙ c.place_of.ensures)).0

pub remove-requires : goal.remove-requires
remove-requires c =
    (chain_at c.self.inside.slots c.in-Some.place, c.self.invariant.chained c.in-Some.place (chain_walked_to c.self.invariant c.args.orig (chain_of c.args.orig) c.in-Some.place refl (sym c.in-Some.is ∙ c.place_of.ensures)).0)

pub remove-requires-2 : goal.remove-requires-2
remove-requires-2 c = (0, (chain_walked_to c.self.invariant c.args.orig (chain_of c.args.orig) c.in-Some.place refl (sym c.in-Some.is ∙ c.place_of.ensures)).0)

pub push_back-requires-clause-free : goal.push_back-requires-clause-free
push_back-requires-clause-free c =
    out_free c.self.invariant c.in-Some.place (chain_walked_to c.self.invariant c.args.orig (chain_of c.args.orig) c.in-Some.place refl (sym c.in-Some.is ∙ c.place_of.ensures)).0
    c.remove.new.self c.remove.ensures.lists c.remove-2.new.self c.remove-2.ensures.lists

pub overflow_sub-self : goal.overflow_sub-self
overflow_sub-self c =
    omega (
      arith,
      c.self.invariant.counted,
      length-without c.in-Some.place (list_at c.self.inside.places 0) (c.self.invariant.places_valid.distinct 0) (chain_walked_to c.self.invariant c.args.orig (chain_of c.args.orig) c.in-Some.place refl (sym c.in-Some.is ∙ c.place_of.ensures)).0,
    )

pub invariant_of-self : goal.invariant_of-self
invariant_of-self c =
    subst (λ v. IsSound v c.push_back.new.self c.remove.new.self (c.self.inside.count - 1)) (sym c.take-flown.ensures.slots) (
    out_sound c.self.invariant c.in-Some.place (chain_walked_to c.self.invariant c.args.orig (chain_of c.args.orig) c.in-Some.place refl (sym c.in-Some.is ∙ c.place_of.ensures)).0
    c.remove.new.self c.remove.ensures.lists c.remove-2.new.self c.remove-2.ensures.lists c.push_back.new.self c.push_back.ensures.lists c.push_back.ensures.valid c.remove.ensures.valid)

pub returns-clause-part : goal.returns-clause-part
returns-clause-part c =
    sym (ap (option_map (λ (f : Flown). f.part)) (
    chain_walked c.self.invariant (ap (λ v. v.flown) c.self.view_is) c.args.orig (chain_of c.args.orig) c.place_of.result refl c.place_of.ensures
    ∙ ap (option_map (flown_at c.self.inside.slots)) c.in-Some.is
    ∙ ap Some (part_there c.self.invariant c.in-Some.place c.take-flown.result c.take-flown.ensures.part)))

pub returns-clause-flown : goal.returns-clause-flown
returns-clause-flown c =
    let to = chain_walked_to c.self.invariant c.args.orig (chain_of c.args.orig) c.in-Some.place refl (sym c.in-Some.is ∙ c.place_of.ensures) in
    ap (λ v. flying v c.push_back.new.self) c.take-flown.ensures.slots
    ∙ out_seen c.self.invariant c.in-Some.place to.0 c.remove.new.self c.remove.ensures.lists c.remove-2.new.self c.remove-2.ensures.lists c.push_back.new.self c.push_back.ensures.lists c.push_back.ensures.valid c.remove.ensures.valid c.args.orig to.1
    ∙ ap (λ v. without c.args.orig v.flown) c.self.view_is
