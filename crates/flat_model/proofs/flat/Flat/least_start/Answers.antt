use Rattle.std.proofs.Common.{◌+◌, ◌∙◌, sym, ap, arith}
use Rattle.flat_model.specs.State.{least_from, places}
use Rattle.flat_model.proofs.LeastLemmas.{least_is, least_here, least_next, least_past}
use Rattle.flat_model.proofs.flat.Flat.least_start.Goals as goal

pub loop-start-init : goal.loop-start-init
loop-start-init c = least_is _ _ _ _

pub loop-start-preserved : goal.loop-start-preserved
loop-start-preserved c =
    c.loop-start.invariant ∙ least_next _ _ _ _ c.loop-start.start _ (omega arith) (sym c.fits.ensures ∙ c.if-fits.false)
    ∙ ap (least_from c.args.self.now.buckets (places c.args.self.now) c.args.pid c.args.n (c.loop-start.start + 1)) (omega arith)

pub returns-then-fits : goal.returns-then-fits
returns-then-fits c = sym (c.loop-start.invariant ∙ least_here _ _ _ _ c.loop-start.start _ (omega arith) (sym c.fits.ensures ∙ c.if-fits.true))

pub returns : goal.returns
returns c = sym (c.loop-start.invariant ∙ least_past _ _ _ _ c.loop-start.start _ (omega arith))
