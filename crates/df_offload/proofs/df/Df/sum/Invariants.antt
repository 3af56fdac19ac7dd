use Rattle.std.proofs.Common.{◌≡◌, ◌+◌, ◌*◌, ◌^◌, ◌≤◌}
use Rattle.std.specs.List.{sum_by}
use Rattle.df_offload.specs.Rows.{cell, hits}
use Rattle.df_offload.specs.Stored.{rows_in}
use Rattle.df_offload.proofs.HitLemmas.{hits_on}
use Rattle.df_offload.proofs.df.Df.sum.Given as goal

abbrev pub invariant-loop-row : goal.invariant-loop-row
invariant-loop-row g l = record {
  sum : l.sum + sum_by (cell l.column) (hits_on l.self.columns (g.P.Space.contents l.fn.space) l.by l.row)
      ≡ sum_by (cell l.column) (hits l.by (rows_in l.self.columns (g.P.Space.contents l.fn.space)));
  few : l.sum ≤ l.row * 2 ^ 64;
  contents : g.P.Space.contents l.space ≡ g.P.Space.contents l.fn.space;
  rest : g.P.Space.rest l.space ≡ g.P.Space.rest l.fn.space;
  honest : g.P.Space.honest l.space;
}
