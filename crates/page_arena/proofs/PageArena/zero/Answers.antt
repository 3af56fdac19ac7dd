use Rattle.std.proofs.Common.{ap, set, ◌∙◌}
use Rattle.page_arena.proofs.ZeroPage.{replicate-zero_page}
use Rattle.page_arena.proofs.PageArena.zero.Goals as goal

pub returns : goal.returns
returns c = ap (set c.args.self.now c.args.i) (c.fill.ensures.after (λ y h. h) ∙ replicate-zero_page _ c.page_mut.ensures.size)
