-- The chain of the orig has its part, whose last moment alone changes.
use Rattle.std.proofs.Common.{refl, Some, option_map, set, ap, sym, ◌∙◌}
use Rattle.client_retry.specs.declared.flown.Flown.{Flown}
use Rattle.client_retry.specs.Fields.{chain_of, flown_at}
use Rattle.client_retry.specs.Flights.{again, sent_again}
use Rattle.client_retry.proofs.Flying.{absent, again_here}
use Rattle.client_retry.proofs.Sound.{chain_walked, chain_walked_to, part_there, again_seen, again_sound}
use Rattle.client_retry.proofs.flight.Flight.resent.Goals as goal

pub unreachable-requires : goal.unreachable-requires
unreachable-requires c =
    let none = absent c.args.orig c.args.self.now.flown (chain_walked c.self.invariant (ap (λ v. v.flown) c.self.view_is) c.args.orig (chain_of c.args.orig) c.place_of.result refl c.place_of.ensures ∙ ap (option_map (flown_at c.self.inside.slots)) c.in_default.is) in
    let both = sym none ∙ c.requires.there in
    cc

pub take-flown-requires : goal.take-flown-requires
take-flown-requires c = c.self.invariant.filled c.in-Some.place (chain_walked_to c.self.invariant c.args.orig (chain_of c.args.orig) c.in-Some.place refl (sym c.in-Some.is ∙ c.place_of.ensures)).0

pub invariant_of-self : goal.invariant_of-self
invariant_of-self c =
    let to = chain_walked_to c.self.invariant c.args.orig (chain_of c.args.orig) c.in-Some.place refl (sym c.in-Some.is ∙ c.place_of.ensures) in
    let there = part_there c.self.invariant c.in-Some.place c.take-flown.result c.take-flown.ensures.part in
    let f : Flown = record c.take-flown.result { last = c.args.now } in
    again_sound c.self.invariant c.args.orig c.args.now c.in-Some.place to.0 to.1 f (again_here c.args.orig c.args.now c.take-flown.result (ap (λ (g : Flown). g.orig) (sym there) ∙ to.1) ∙ ap (again c.args.orig c.args.now) (sym there)) c.put.new.self (c.put.ensures ∙ ap (λ v. set v c.in-Some.place (Some f)) c.take-flown.ensures.slots)

pub returns-clause-flown : goal.returns-clause-flown
returns-clause-flown c =
    let to = chain_walked_to c.self.invariant c.args.orig (chain_of c.args.orig) c.in-Some.place refl (sym c.in-Some.is ∙ c.place_of.ensures) in
    let there = part_there c.self.invariant c.in-Some.place c.take-flown.result c.take-flown.ensures.part in
    let f : Flown = record c.take-flown.result { last = c.args.now } in
    again_seen c.self.invariant c.args.orig c.args.now c.in-Some.place to.0 to.1 f (again_here c.args.orig c.args.now c.take-flown.result (ap (λ (g : Flown). g.orig) (sym there) ∙ to.1) ∙ ap (again c.args.orig c.args.now) (sym there)) c.put.new.self (c.put.ensures ∙ ap (λ v. set v c.in-Some.place (Some f)) c.take-flown.ensures.slots)
    ∙ ap (λ v. sent_again c.args.orig c.args.now v.flown) c.self.view_is
