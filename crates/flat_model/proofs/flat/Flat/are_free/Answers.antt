use Rattle.std.proofs.Common.{◌∙◌, sym, ap, not}
use Rattle.flat_model.specs.State.{is_mapped, places}
use Rattle.flat_model.proofs.FitLemmas.{all_places_next}
use Rattle.flat_model.proofs.flat.Flat.are_free.Goals as goal

pub loop-i-preserved : goal.loop-i-preserved
loop-i-preserved c =
    sym (all_places_next (λ place. not (is_mapped (places c.args.self.now) place)) c.args.pid c.args.start c.args.n c.loop-i.i c.loop-i-test.true
    (ap not (sym c.holds.ensures ∙ c.if-holds.false))) ∙ c.loop-i.invariant
