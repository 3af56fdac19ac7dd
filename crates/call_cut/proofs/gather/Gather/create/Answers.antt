-- As many outcomes as there are parts, and each of them waits.
use Rattle.std.proofs.Common.{ap, length, subst, sym, ◌∙◌}
use Rattle.std.proofs.lemmas.List.{take-replicate, length-replicate}
use Rattle.call_cut.specs.declared.outcome.PartOutcome.{PartOutcome}
use Rattle.call_cut.specs.declared.outcome.PartOutcome.TheVariants.{Waiting}
use Rattle.call_cut.specs.Came.{came}
use Rattle.call_cut.specs.Taking.{Gathers}
use Rattle.call_cut.proofs.Takings.{nothing_came, gathers_none}
use Rattle.call_cut.proofs.gather.Gather.create.Goals as goal

pub returns : goal.returns
returns c =
    let none = take-replicate c.args.parts 65 Waiting c.requires in
    record {
      size = ap (length {A = PartOutcome}) none ∙ length-replicate c.args.parts Waiting;
      waiting = λ k e. ap (λ os. came os k) none ∙ nothing_came k c.args.parts e;
      gathered = λ k good e. subst (λ os. Gathers os k) (sym none) (gathers_none k c.args.parts good e);
    }
