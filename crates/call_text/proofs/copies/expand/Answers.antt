use Rattle.std.proofs.Common.{sym, ap, ◌∙◌, ◌++◌, replicate}
use Rattle.std.specs.List.{concat}
use Rattle.call_text.proofs.CopyLemmas.{repeats_more}
use Rattle.call_text.proofs.copies.expand.Goals as goal

pub loop-preserved : goal.loop-preserved
loop-preserved c =
    c.in_ok-append.ensures.appended ∙ ap (λ front. front ++ c.as_slice.result.now) c.loop.invariant
    ∙ ap (λ bytes. concat (replicate c.loop.counter c.args.written.now.bytes) ++ bytes) c.as_slice.ensures
    ∙ sym (repeats_more c.loop.counter c.args.written.now.bytes)
