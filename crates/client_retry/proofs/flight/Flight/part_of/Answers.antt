-- The chain of the orig has the place of its part, and of no other.
use Rattle.std.proofs.Common.{refl, Some, option_map, ap, sym, ◌∙◌}
use Rattle.client_retry.specs.declared.flown.Flown.{Flown}
use Rattle.client_retry.specs.Fields.{chain_of, flown_at}
use Rattle.client_retry.proofs.Sound.{chain_walked, chain_walked_to, part_there}
use Rattle.client_retry.proofs.flight.Flight.part_of.Goals as goal

pub returns-in_default : goal.returns-in_default
returns-in_default c =
    sym (ap (option_map (λ (f : Flown). f.part)) (chain_walked c.self.invariant (ap (λ v. v.flown) c.self.view_is) c.args.orig (chain_of c.args.orig) c.place_of.result refl c.place_of.ensures ∙ ap (option_map (flown_at c.self.inside.slots)) c.in_default.is))

pub part-requires : goal.part-requires
part-requires c = c.self.invariant.filled c.in-Some.place (chain_walked_to c.self.invariant c.args.orig (chain_of c.args.orig) c.in-Some.place refl (sym c.in-Some.is ∙ c.place_of.ensures)).0

pub returns : goal.returns
returns c =
    sym (ap (option_map (λ (f : Flown). f.part)) (
    chain_walked c.self.invariant (ap (λ v. v.flown) c.self.view_is) c.args.orig (chain_of c.args.orig) c.place_of.result refl c.place_of.ensures
    ∙ ap (option_map (flown_at c.self.inside.slots)) c.in-Some.is
    ∙ ap Some (part_there c.self.invariant c.in-Some.place c.part.result c.part.ensures)))
