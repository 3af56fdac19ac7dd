use Rattle.std.proofs.Common.{arith, subst}
use Rattle.range_alloc.specs.Joins.{SkipsTo}
use Rattle.range_alloc.proofs.Fitting.{some_pages}
use Rattle.range_alloc.proofs.Skips.{skips_blocked, skips_rest}
use Rattle.range_alloc.proofs.map.candidate.Goals as goal

pub loop-start-preserved : goal.loop-start-preserved
loop-start-preserved c =
    let some = some_pages c.args.pages c.requires.pages in
    record {
      skips = skips_blocked c.args.table.now c.args.space.0 c.from-pages.result c.args.first c.loop-start.start c.in-Some.page c.behind-start.result c.requires.valid c.loop-start.invariant.skips
          c.in-Some.ensures.0 c.in-Some.ensures.1 c.behind-start.ensures.onward c.behind-start.ensures.inside (omega (arith, some, c.from-pages.ensures)) c.in-Some.ensures.2 c.behind-start.ensures.mapped;
      ahead = omega arith;
    }

pub returns : goal.returns
returns c =
    subst (λ n. SkipsTo c.args.table.now c.args.space.0 n c.args.first 65536) c.from-pages.ensures
    (skips_rest c.args.table.now c.args.space.0 c.from-pages.result c.args.first c.loop-start.start c.loop-start.invariant.skips (omega (arith, c.loop-start-test.false)))
