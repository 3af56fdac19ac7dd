use Rattle.std.proofs.Common.{refl, ◌∙◌}
use Rattle.page_arena.proofs.ZeroPage.{resized, replicate-zero_page}
use Rattle.page_arena.proofs.PageArena.create.Goals as goal

pub returns : goal.returns
returns c = c.in_ok-resize.ensures.items ∙ resized _ _ _ _ c.new-zeros.ensures.items c.new-zeros.ensures.len (replicate-zero_page 4096 refl)
