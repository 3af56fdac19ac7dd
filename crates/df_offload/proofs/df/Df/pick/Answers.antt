use Rattle.std.proofs.Common.{true, false, Some, Option, arith, ap, subst, sym, ◌∙◌, ◌+◌, List, ℕ}
use Rattle.std.specs.Option.{ok_or}
use Rattle.cl_types.specs.declared.reply.Refusal.TheVariants.{NoKey}
use Rattle.df_offload.specs.Rows.{DataRows, cell, in_column}
use Rattle.df_offload.specs.Layout.{row_at, picked_on}
use Rattle.df_offload.proofs.HitLemmas.{seen, hits_on, picked_of, pick_here, picked_all, no_hit_here, no_hit_left}
use Rattle.df_offload.proofs.df.Df.pick.Goals as goal
use Rattle.df_offload.proofs.df.Df.pick.Goals.{then-is_hit, else-is_hit}

pub loop-row-preserved : goal.loop-row-preserved
loop-row-preserved g c =
    let kept = c.is_hit.ensures.contents ∙ c.loop-row.invariant.contents in
    record {
      best = elim c.if-is_hit.branch [
        | then-is_hit w ↦
            let hit = seen c.args.self.now.columns c.loop-row.row c.args.by.now (g.P.Space.contents c.args.space.now) _ c.is_hit.result true w.if-is_hit.true c.is_hit.ensures.hit c.loop-row.invariant.contents in
            let best = w.best-is ∙ ap Some (w.on.ensures ∙ ap (picked_on c.args.pick c.loop-row.best) (w.number-number.ensures.number ∙ ap (λ (m : List ℕ). cell c.args.column (row_at c.args.self.now.columns m c.loop-row.row)) kept)) in
            c.loop-row.invariant.best
            ∙ pick_here c.args.self.now.columns (g.P.Space.contents c.args.space.now) c.args.by.now c.args.pick c.loop-row.best c.args.column c.loop-row.row (omega (arith, c.loop-row-test.true, c.rows_held-held.ensures.number)) hit
            ∙ ap (λ (b : Option ℕ). picked_of c.args.pick b (in_column c.args.column (hits_on c.args.self.now.columns (g.P.Space.contents c.args.space.now) c.args.by.now (c.loop-row.row + 1)))) (sym best)
        | else-is_hit w ↦
            let miss = seen c.args.self.now.columns c.loop-row.row c.args.by.now (g.P.Space.contents c.args.space.now) _ c.is_hit.result false w.if-is_hit.false c.is_hit.ensures.hit c.loop-row.invariant.contents in
            c.loop-row.invariant.best
            ∙ ap (λ (those : DataRows). picked_of c.args.pick c.loop-row.best (in_column c.args.column those))
            (no_hit_here c.args.self.now.columns (g.P.Space.contents c.args.space.now) c.args.by.now c.loop-row.row (omega (arith, c.loop-row-test.true, c.rows_held-held.ensures.number)) miss)
            ∙ ap (λ (b : Option ℕ). picked_of c.args.pick b (in_column c.args.column (hits_on c.args.self.now.columns (g.P.Space.contents c.args.space.now) c.args.by.now (c.loop-row.row + 1)))) (sym w.best-is)
      ];
      contents = elim c.if-is_hit.branch [
        | then-is_hit w ↦ ap g.P.Space.contents w.space-is ∙ w.number-number.ensures.contents ∙ kept
        | else-is_hit w ↦ ap g.P.Space.contents w.space-is ∙ kept
      ];
      rest = elim c.if-is_hit.branch [
        | then-is_hit w ↦ ap g.P.Space.rest w.space-is ∙ w.number-number.ensures.rest ∙ c.is_hit.ensures.rest ∙ c.loop-row.invariant.rest
        | else-is_hit w ↦ ap g.P.Space.rest w.space-is ∙ c.is_hit.ensures.rest ∙ c.loop-row.invariant.rest
      ];
      honest = elim c.if-is_hit.branch [
        | then-is_hit w ↦ subst g.P.Space.honest (sym w.space-is) w.number-number.ensures.honest
        | else-is_hit w ↦ subst g.P.Space.honest (sym w.space-is) c.is_hit.ensures.honest
      ];
    }

pub returns-clause-pick : goal.returns-clause-pick
returns-clause-pick g c =
    let none = no_hit_left c.args.self.now.columns (g.P.Space.contents c.args.space.now) c.args.by.now c.loop-row.row (omega (arith, c.loop-row-test.false, c.rows_held-held.ensures.number)) in
    c.ok_or.ensures.value
    ∙ ap (λ (b : Option ℕ). ok_or b NoKey) (sym (c.loop-row.invariant.best ∙ ap (λ (those : DataRows). picked_of c.args.pick c.loop-row.best (in_column c.args.column those)) none ∙ picked_all c.args.pick c.loop-row.best))
