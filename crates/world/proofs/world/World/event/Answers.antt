-- The step of the machine is the account's.
use Rattle.std.proofs.Common.{ℕ, List, Ok, Result, false, length, ap, refl, sym, subst, ◌∙◌}
use Rattle.cl_types.specs.declared.line.Entry.{Entry}
use Rattle.cl_types.specs.declared.line.EventLine.{EventLine}
use Rattle.world.specs.Fields.{world_of}
use Rattle.world.specs.Follows.{StandsFor}
use Rattle.world.specs.Running.{Running}
use Rattle.world.specs.Summed.{summed}
use Rattle.world.proofs.Standing.{stands_on}
use Rattle.world.proofs.world.World.event.Goals as goal

pub returns-clause-stands : goal.returns-clause-stands
returns-clause-stands c config events good stands =
    let inside = c.self.inside in
    let old : Running = record { world = world_of inside.whole; summary = inside.summary; line = inside.line; spent = inside.spent } in
    let new : Running = record { world = world_of c.happen.new.self; summary = c.summed-self-inside.result; line = c.args.line; spent = false } in
    let told : Result EventLine ℕ = Ok c.in_ok-told.told in
    let counted = c.summed-self-inside.ensures ∙ ap (λ (h : List Entry). summed c.in_ok-told.told.did c.in_ok-told.told.ended (length h) inside.summary) c.as_slice-entries.ensures.value in
    stands_on config events c.args.line c.args.event.now old new told c.requires.few
    c.in_ok-told.ensures.step counted refl refl good (subst (StandsFor config events) (sym c.self.view_is) stands)
