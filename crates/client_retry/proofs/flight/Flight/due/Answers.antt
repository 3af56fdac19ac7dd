-- What a walk in order of call and part finds is the first such part.
use Rattle.std.proofs.Common.{Some, option_map, ap, sym, ◌∙◌}
use Rattle.client_retry.specs.Fields.{flown_at}
use Rattle.client_retry.specs.declared.walk.Wanted.TheVariants.{Old, Due}
use Rattle.client_retry.proofs.Sound.{walked, walked_filled, part_there}
use Rattle.client_retry.proofs.Dues.{due_old, due_again, due_nothing}
use Rattle.client_retry.proofs.flight.Flight.due.Goals as goal

pub part-old-requires : goal.part-old-requires
part-old-requires c = walked_filled c.self.invariant (Old c.args.now) c.in-Some.place (sym c.in-Some.is ∙ c.walk.ensures.here)

pub returns-in-Some : goal.returns-in-Some
returns-in-Some c =
    let old = walked c.self.invariant (ap (λ v. v.flown) c.self.view_is) (Old c.args.now) c.walk.result.here c.walk.ensures.here ∙ ap (option_map (flown_at c.self.inside.slots)) c.in-Some.is ∙ ap Some (part_there c.self.invariant c.in-Some.place c.part-old.result c.part-old.ensures) in
    due_old c.args.self.now.flown c.args.now c.part-old.result old

pub returns-in_default-here : goal.returns-in_default-here
returns-in_default-here c =
    let old = walked c.self.invariant (ap (λ v. v.flown) c.self.view_is) (Old c.args.now) c.walk.result.here c.walk.ensures.here ∙ ap (option_map (flown_at c.self.inside.slots)) c.in_default.is in
    let again = walked c.self.invariant (ap (λ v. v.flown) c.self.view_is) (Due c.args.now) c.walk-2.result.here c.walk-2.ensures.here ∙ ap (option_map (flown_at c.self.inside.slots)) c.in_default-here.is in
    due_nothing c.args.self.now.flown c.args.now old again

pub part-due-requires : goal.part-due-requires
part-due-requires c = walked_filled c.self.invariant (Due c.args.now) c.in-Some-here.place (sym c.in-Some-here.is ∙ c.walk-2.ensures.here)

pub returns : goal.returns
returns c =
    let old = walked c.self.invariant (ap (λ v. v.flown) c.self.view_is) (Old c.args.now) c.walk.result.here c.walk.ensures.here ∙ ap (option_map (flown_at c.self.inside.slots)) c.in_default.is in
    let again = walked c.self.invariant (ap (λ v. v.flown) c.self.view_is) (Due c.args.now) c.walk-2.result.here c.walk-2.ensures.here ∙ ap (option_map (flown_at c.self.inside.slots)) c.in-Some-here.is ∙ ap Some (part_there c.self.invariant c.in-Some-here.place c.part-due.result c.part-due.ensures) in
    due_again c.args.self.now.flown c.args.now c.part-due.result old again
