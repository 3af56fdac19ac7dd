use Rattle.std.proofs.Common.{arith}
use Rattle.flat_model.proofs.FitLemmas.{homes_next}
use Rattle.flat_model.proofs.buckets.pages_at.Goals as goal

pub loop-i-preserved : goal.loop-i-preserved
loop-i-preserved c = record {
  small = omega (arith, c.one_at-found.ensures.small);
  sum = homes_next _ _ _ _ _ c.loop-i.i _ _ _ c.loop-i-test.true c.loop-i.invariant.sum c.one_at-found.ensures.value;
}
