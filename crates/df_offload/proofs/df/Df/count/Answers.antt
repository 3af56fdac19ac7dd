use Rattle.std.proofs.Common.{true, false, length, arith, ap, ◌∙◌}
use Rattle.df_offload.proofs.HitLemmas.{seen, hit_here, no_hit_here, no_hit_left}
use Rattle.df_offload.proofs.df.Df.count.Goals as goal
use Rattle.df_offload.proofs.df.Df.count.Goals.{then-is_hit, else-is_hit}

pub loop-row-preserved : goal.loop-row-preserved
loop-row-preserved g c = record {
  count = elim c.if-is_hit.branch [
    | then-is_hit w ↦
        let hit = seen c.args.self.now.columns c.loop-row.row c.args.by.now (g.P.Space.contents c.args.space.now) _ c.is_hit.result true w.if-is_hit.true c.is_hit.ensures.hit c.loop-row.invariant.contents in
        let more = ap length (hit_here c.args.self.now.columns (g.P.Space.contents c.args.space.now) c.args.by.now c.loop-row.row (omega (arith, c.loop-row-test.true, c.rows_held-held.ensures.number)) hit) in
        omega (arith, w.count-is, c.loop-row.invariant.count, more)
    | else-is_hit w ↦
        let miss = seen c.args.self.now.columns c.loop-row.row c.args.by.now (g.P.Space.contents c.args.space.now) _ c.is_hit.result false w.if-is_hit.false c.is_hit.ensures.hit c.loop-row.invariant.contents in
        let same = ap length (no_hit_here c.args.self.now.columns (g.P.Space.contents c.args.space.now) c.args.by.now c.loop-row.row (omega (arith, c.loop-row-test.true, c.rows_held-held.ensures.number)) miss) in
        omega (arith, w.count-is, c.loop-row.invariant.count, same)
  ];
  few = elim c.if-is_hit.branch [
    | then-is_hit w ↦ omega (arith, w.count-is, c.loop-row.invariant.few)
    | else-is_hit w ↦ omega (arith, w.count-is, c.loop-row.invariant.few)
  ];
  contents = c.is_hit.ensures.contents ∙ c.loop-row.invariant.contents;
  rest = c.is_hit.ensures.rest ∙ c.loop-row.invariant.rest;
  honest = c.is_hit.ensures.honest;
}

pub returns-clause-count : goal.returns-clause-count
returns-clause-count g c =
    let none = no_hit_left c.args.self.now.columns (g.P.Space.contents c.args.space.now) c.args.by.now c.loop-row.row (omega (arith, c.loop-row-test.false, c.rows_held-held.ensures.number)) in
    let zero = ap length none in
    omega (arith, c.loop-row.invariant.count, zero)
