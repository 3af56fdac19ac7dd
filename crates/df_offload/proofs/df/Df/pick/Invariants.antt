use Rattle.std.proofs.Common.{◌≡◌}
use Rattle.std.specs.List.{reduce}
use Rattle.df_offload.specs.Rows.{hits, in_column}
use Rattle.df_offload.specs.Layout.{picked}
use Rattle.df_offload.specs.Stored.{rows_in}
use Rattle.df_offload.proofs.HitLemmas.{hits_on, picked_of}
use Rattle.df_offload.proofs.df.Df.pick.Given as goal

abbrev pub invariant-loop-row : goal.invariant-loop-row
invariant-loop-row g l = record {
  best : reduce (picked l.pick) (in_column l.column (hits l.by (rows_in l.self.columns (g.P.Space.contents l.fn.space))))
      ≡ picked_of l.pick l.best (in_column l.column (hits_on l.self.columns (g.P.Space.contents l.fn.space) l.by l.row));
  contents : g.P.Space.contents l.space ≡ g.P.Space.contents l.fn.space;
  rest : g.P.Space.rest l.space ≡ g.P.Space.rest l.fn.space;
  honest : g.P.Space.honest l.space;
}
