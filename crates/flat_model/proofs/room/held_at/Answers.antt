use Rattle.std.proofs.Common.{◌∙◌, ℕ, ap, arith, refl}
use Rattle.cl_types.specs.Places.{homes_at}
use Rattle.flat_model.specs.State.{places_of}
use Rattle.flat_model.proofs.OpeningLemmas.{homes_next}
use Rattle.flat_model.proofs.room.held_at.Goals as goal

pub loop-j-preserved : goal.loop-j-preserved
loop-j-preserved c = record {
  counted = homes_next c.args.config.now c.loop-j.j c.args.bucket c.loop-j.found c.pages_at-found.result _ c.page_count.result (omega (arith, c.requires.within)) c.loop-j.invariant.counted
      c.page_count.ensures.value
      (c.pages_at-found.ensures.value ∙ ap (λ (b : ℕ). homes_at b c.args.bucket (places_of c.space_of.result 1 c.page_count.result)) c.bucket_count-buckets.ensures.value
      ∙ ap (λ (space : ℕ). homes_at c.args.config.now.buckets c.args.bucket (places_of space 1 c.page_count.result)) c.space_of.ensures)
      refl;
  small = omega (arith, c.loop-j.invariant.small, c.page_count.ensures.small, c.pages_at-found.ensures.small);
}
