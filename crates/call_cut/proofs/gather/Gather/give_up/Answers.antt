-- The outcome of one part is put in, and the others stay.
use Rattle.std.proofs.Common.{ap, subst, sym, ◌∙◌}
use Rattle.call_cut.specs.declared.outcome.PartOutcome.TheVariants.{GivenUp}
use Rattle.call_cut.specs.Came.{came}
use Rattle.call_cut.specs.Taking.{Gathers}
use Rattle.call_cut.proofs.Takings.{put_among, gave_up, gathers_given_up}
use Rattle.call_cut.proofs.gather.Gather.give_up.Goals as goal

pub returns : goal.returns
returns c =
    let put = put_among c.self.inside.outcomes c.self.inside.parts (GivenUp c.args.first_sent c.args.now) c.self.view_is c.requires in
    record {
      came = λ k. ap (λ os. came os k) put ∙ gave_up c.args.self.now c.args.i c.args.first_sent c.args.now k;
      gathered = λ k g. subst (λ os. Gathers os k) (sym put) (gathers_given_up c.args.self.now c.args.i c.args.first_sent c.args.now k g);
    }
