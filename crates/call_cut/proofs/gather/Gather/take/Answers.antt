-- The outcome and the bytes of one part are put in, and the others stay.
use Rattle.std.proofs.Common.{arith, ap, length}
use Rattle.std.proofs.lemmas.List.{length-take}
use Rattle.call_cut.specs.declared.outcome.PartOutcome.{PartOutcome}
use Rattle.call_cut.proofs.Takings.{within, take_done}
use Rattle.call_cut.proofs.gather.Gather.take.Goals as goal

pub bounds-self-inside-i : goal.bounds-self-inside-i
bounds-self-inside-i c =
    omega (arith, within c.requires.gathered c.requires.fits, ap (length {A = PartOutcome}) c.self.view_is, length-take c.self.inside.parts c.self.inside.outcomes)

pub returns : goal.returns
returns c =
    let done = take_done c.self.inside.outcomes c.self.inside.parts c.self.view_is c.requires.gathered c.requires.fits c.kept.ensures.outcome c.kept.ensures.call in
    record { came = done.came_is; call = done.emptied_is; gathered = done.gathers }
