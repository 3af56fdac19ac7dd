use Rattle.std.proofs.Common.{sym, ap, ◌∙◌, ◌++◌, [], ◌∷◌}
use Rattle.call_text.proofs.CopyLemmas.{zeros_more}
use Rattle.call_text.proofs.copies.zeros.Goals as goal

pub loop-preserved : goal.loop-preserved
loop-preserved c = c.in_ok-push.ensures.pushed ∙ ap (λ front. front ++ 0 ∷ []) c.loop.invariant ∙ sym (zeros_more c.loop.counter)
