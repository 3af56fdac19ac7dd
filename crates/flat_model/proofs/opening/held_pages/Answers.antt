use Rattle.std.proofs.Common.{◌++◌, ◌∙◌, ℕ, ap, arith}
use Rattle.flat_model.specs.State.{places_of}
use Rattle.flat_model.proofs.OpeningLemmas.{held_next}
use Rattle.flat_model.proofs.opening.held_pages.Goals as goal

pub loop-k-preserved : goal.loop-k-preserved
loop-k-preserved c =
    held_next c.args.config.now c.loop-k.k c.page_count.result c.loop-k.held.items _ (omega (arith, c.offload_count-count.ensures.value)) c.loop-k.invariant c.page_count.ensures.value
    (c.in_ok-add_pages.ensures ∙ ap (λ (space : ℕ). c.loop-k.held.items ++ places_of space 1 c.page_count.result) c.space_of.ensures)
