use Rattle.std.proofs.Common.{true, false, refl, arith, ap, subst, sym, ◌∙◌, ◌+◌, ◌≡◌, List, ℕ}
use Rattle.std.specs.List.{sum_by}
use Rattle.df_offload.specs.Rows.{cell}
use Rattle.df_offload.specs.Layout.{row_at}
use Rattle.df_offload.proofs.HitLemmas.{seen, sum_here, sum_more, sum_same, no_hit_here, no_hit_left}
use Rattle.df_offload.proofs.df.Df.sum.Goals as goal
use Rattle.df_offload.proofs.df.Df.sum.Goals.{then-is_hit, else-is_hit}

pub loop-row-preserved : goal.loop-row-preserved
loop-row-preserved g c =
    let kept = c.is_hit.ensures.contents ∙ c.loop-row.invariant.contents in
    record {
      sum = elim c.if-is_hit.branch [
        | then-is_hit w ↦
            let hit = seen c.args.self.now.columns c.loop-row.row c.args.by.now (g.P.Space.contents c.args.space.now) _ c.is_hit.result true w.if-is_hit.true c.is_hit.ensures.hit c.loop-row.invariant.contents in
            let more = sum_here c.args.self.now.columns (g.P.Space.contents c.args.space.now) c.args.by.now c.args.column c.loop-row.row (omega (arith, c.loop-row-test.true, c.rows_held-held.ensures.number)) hit in
            let number : w.number.result ≡ cell c.args.column (row_at c.args.self.now.columns (g.P.Space.contents c.args.space.now) c.loop-row.row) =
            w.number.ensures.number ∙ ap (λ (m : List ℕ). cell c.args.column (row_at c.args.self.now.columns m c.loop-row.row)) kept in
            sum_more _ _ _ _ _ _ _ w.sum-is number more c.loop-row.invariant.sum
        | else-is_hit w ↦
            let miss = seen c.args.self.now.columns c.loop-row.row c.args.by.now (g.P.Space.contents c.args.space.now) _ c.is_hit.result false w.if-is_hit.false c.is_hit.ensures.hit c.loop-row.invariant.contents in
            let same = ap (sum_by (cell c.args.column)) (no_hit_here c.args.self.now.columns (g.P.Space.contents c.args.space.now) c.args.by.now c.loop-row.row (omega (arith, c.loop-row-test.true, c.rows_held-held.ensures.number)) miss) in
            sum_same _ _ _ _ _ w.sum-is same c.loop-row.invariant.sum
      ];
      few = elim c.if-is_hit.branch [
        | then-is_hit w ↦ omega (arith, w.sum-is, c.loop-row.invariant.few, w.number.type_inv)
        | else-is_hit w ↦ omega (arith, w.sum-is, c.loop-row.invariant.few)
      ];
      contents = elim c.if-is_hit.branch [
        | then-is_hit w ↦ ap g.P.Space.contents w.space-is ∙ w.number.ensures.contents ∙ kept
        | else-is_hit w ↦ ap g.P.Space.contents w.space-is ∙ kept
      ];
      rest = elim c.if-is_hit.branch [
        | then-is_hit w ↦ ap g.P.Space.rest w.space-is ∙ w.number.ensures.rest ∙ c.is_hit.ensures.rest ∙ c.loop-row.invariant.rest
        | else-is_hit w ↦ ap g.P.Space.rest w.space-is ∙ c.is_hit.ensures.rest ∙ c.loop-row.invariant.rest
      ];
      honest = elim c.if-is_hit.branch [
        | then-is_hit w ↦ subst g.P.Space.honest (sym w.space-is) w.number.ensures.honest
        | else-is_hit w ↦ subst g.P.Space.honest (sym w.space-is) c.is_hit.ensures.honest
      ];
    }

pub returns-clause-sum : goal.returns-clause-sum
returns-clause-sum g c =
    let none = no_hit_left c.args.self.now.columns (g.P.Space.contents c.args.space.now) c.args.by.now c.loop-row.row (omega (arith, c.loop-row-test.false, c.rows_held-held.ensures.number)) in
    let zero : ℕ = 0 in
    sym (let e : c.loop-row.sum + 0 ≡ c.loop-row.sum = omega arith in e) ∙ sum_same _ _ zero _ _ refl (ap (sum_by (cell c.args.column)) none) c.loop-row.invariant.sum
