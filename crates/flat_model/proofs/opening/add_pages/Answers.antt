use Rattle.std.proofs.Common.{◌+◌}
use Rattle.flat_model.proofs.OpeningLemmas.{pages_push, pushed}
use Rattle.flat_model.proofs.opening.add_pages.Goals as goal

pub loop-i-preserved : goal.loop-i-preserved
loop-i-preserved c =
    pages_push c.loop-i.held.items c.push.new.self.items c.args.held.now.items c.args.space c.loop-i.i c.loop-i.invariant
    (pushed c.loop-i.held.items c.push.new.self.items (c.args.space, c.loop-i.i + 1) _ _ c.push.ensures.items c.is_err.ensures.negation c.if-is_err.false)
