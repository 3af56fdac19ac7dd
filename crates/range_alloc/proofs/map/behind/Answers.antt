use Rattle.std.proofs.Common.{arith}
use Rattle.range_alloc.proofs.Skips.{behind_inside}
use Rattle.range_alloc.proofs.map.behind.Goals as goal

pub returns-clause-inside : goal.returns-clause-inside
returns-clause-inside c =
    omega (arith, behind_inside c.args.table.now c.args.space.0 c.args.page c.span.result c.requires.ranges c.requires.page c.span.ensures.span, c.max.ensures, c.from.ensures)
