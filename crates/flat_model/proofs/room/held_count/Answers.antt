use Rattle.std.proofs.Common.{ap, arith, ◌+◌, ℕ}
use Rattle.flat_model.proofs.OpeningLemmas.{count_next}
use Rattle.flat_model.proofs.room.held_count.Goals as goal

pub loop-j-preserved : goal.loop-j-preserved
loop-j-preserved c = record {
  counted = count_next c.args.config.now c.loop-j.j c.loop-j.count c.page_count.result _ (omega (arith, c.requires.within)) c.loop-j.invariant.counted c.page_count.ensures.value
      (ap (λ (n : ℕ). c.loop-j.count + n) c.from-count.ensures);
  small = omega (arith, c.loop-j.invariant.small, c.page_count.ensures.small, c.from-count.ensures);
}
