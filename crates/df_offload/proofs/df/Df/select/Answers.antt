use Rattle.std.proofs.Common.{true, false, arith, ap, subst, sym, inl, inr, ◌∙◌, ◌+◌, ◌*◌, ◌≡◌, ◌<◌, List, ℕ}
use Rattle.cl_types.specs.Bytes.{with_bytes}
use Rattle.df_offload.specs.Rows.{row_bytes}
use Rattle.df_offload.specs.Layout.{count_of, row_at}
use Rattle.df_offload.proofs.PlaceLemmas.{row_long, selects}
use Rattle.df_offload.proofs.HitLemmas.{seen}
use Rattle.df_offload.proofs.SelectLemmas.{Gives, gives_none, gives_same, gives_more, select_past, select_done}
use Rattle.df_offload.proofs.df.Df.select.Goals as goal
use Rattle.df_offload.proofs.df.Df.select.Goals.{then-is_hit, else-is_hit}

pub returns-then-cursor-held-clause-given : goal.returns-then-cursor-held-clause-given
returns-then-cursor-held-clause-given g c =
    select_past c.args.self.now.columns (g.P.Space.contents c.args.space.now) c.args.cursor c.args.by.now (omega (arith, c.if-cursor-held.true, c.rows_held-held.ensures.number))

pub loop-at-init : goal.loop-at-init
loop-at-init g c =
    let pages = c.requires.store.pages in
    record {
      gives = gives_none c.args.self.now.columns (g.P.Space.contents c.args.space.now) c.args.by.now c.args.cursor c.args.out.now (selects c.args.self.now.columns pages.some_columns pages.few_columns).some
          (omega (arith, c.if-cursor-held.false, c.rows_held-held.ensures.number)) c.told-out;
      contents = c.rows_held-held.ensures.contents;
      rest = c.rows_held-held.ensures.rest;
      honest = c.rows_held-held.ensures.honest;
    }

pub loop-at-preserved : goal.loop-at-preserved
loop-at-preserved g c =
    let pages = c.requires.store.pages in
    let kept = c.is_hit.ensures.contents ∙ c.loop-at.invariant.contents in
    let less : c.loop-at.at < count_of (g.P.Space.contents c.args.space.now) = omega (arith, c.loop-at-test.true, c.rows_held-held.ensures.number) in
    record {
      gives = elim c.if-is_hit.branch [
        | then-is_hit w ↦
            let hit = seen c.args.self.now.columns c.loop-at.at c.args.by.now (g.P.Space.contents c.args.space.now) _ c.is_hit.result true w.if-is_hit.true c.is_hit.ensures.hit c.loop-at.invariant.contents in
            let put : c.if-is_hit.out ≡ with_bytes (row_bytes c.args.self.now.columns * c.loop-at.found) (row_at c.args.self.now.columns (g.P.Space.contents c.args.space.now) c.loop-at.at) c.loop-at.out =
            w.out-is ∙ w.copy.ensures.out ∙ ap (λ (m : List ℕ). with_bytes (row_bytes c.args.self.now.columns * c.loop-at.found) (row_at c.args.self.now.columns m c.loop-at.at) c.loop-at.out) kept in
            subst (λ n. Gives c.args.self.now.columns (g.P.Space.contents c.args.space.now) c.args.by.now c.args.cursor (c.loop-at.at + 1) n c.args.out.now c.if-is_hit.out) (sym w.found-is)
            (gives_more c.if-is_hit.out c.loop-at.invariant.gives less (omega (arith, c.if-found-most.true, c.select_most-most.ensures)) hit
            (row_long pages c.loop-at.at (omega (arith, less, c.requires.store.few)))
            ((selects c.args.self.now.columns pages.some_columns pages.few_columns).room c.loop-at.found (omega (arith, c.if-found-most.true, c.select_most-most.ensures))) put)
        | else-is_hit w ↦
            let miss = seen c.args.self.now.columns c.loop-at.at c.args.by.now (g.P.Space.contents c.args.space.now) _ c.is_hit.result false w.if-is_hit.false c.is_hit.ensures.hit c.loop-at.invariant.contents in
            subst (λ n. Gives c.args.self.now.columns (g.P.Space.contents c.args.space.now) c.args.by.now c.args.cursor (c.loop-at.at + 1) n c.args.out.now c.if-is_hit.out) (sym w.found-is)
            (subst (λ (out : List ℕ). Gives c.args.self.now.columns (g.P.Space.contents c.args.space.now) c.args.by.now c.args.cursor (c.loop-at.at + 1) c.loop-at.found c.args.out.now out) (sym w.out-is)
            (gives_same c.loop-at.invariant.gives less (omega (arith, c.if-found-most.true, c.select_most-most.ensures)) miss))
      ];
      contents = elim c.if-is_hit.branch [
        | then-is_hit w ↦ ap g.P.Space.contents w.space-is ∙ w.copy.ensures.contents ∙ kept
        | else-is_hit w ↦ ap g.P.Space.contents w.space-is ∙ kept
      ];
      rest = elim c.if-is_hit.branch [
        | then-is_hit w ↦ ap g.P.Space.rest w.space-is ∙ w.copy.ensures.rest ∙ c.is_hit.ensures.rest ∙ c.loop-at.invariant.rest
        | else-is_hit w ↦ ap g.P.Space.rest w.space-is ∙ c.is_hit.ensures.rest ∙ c.loop-at.invariant.rest
      ];
      honest = elim c.if-is_hit.branch [
        | then-is_hit w ↦ subst g.P.Space.honest (sym w.space-is) w.copy.ensures.honest
        | else-is_hit w ↦ subst g.P.Space.honest (sym w.space-is) c.is_hit.ensures.honest
      ];
    }

pub returns-else-found-most-clause-given : goal.returns-else-found-most-clause-given
returns-else-found-most-clause-given g c =
    select_done c.loop-at.invariant.gives (omega (arith, c.if-cursor-held.false, c.rows_held-held.ensures.number))
    (inl (omega (arith, c.if-found-most.false, c.select_most-most.ensures, c.loop-at.invariant.gives.few)))

pub returns-after-loop-at-clause-given : goal.returns-after-loop-at-clause-given
returns-after-loop-at-clause-given g c =
    select_done c.loop-at.invariant.gives (omega (arith, c.if-cursor-held.false, c.rows_held-held.ensures.number))
    (inr (omega (arith, c.loop-at-test.false, c.rows_held-held.ensures.number, c.loop-at.invariant.gives.low)))
