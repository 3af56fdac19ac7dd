use Rattle.std.proofs.Common.{◌≡◌, ◌+◌, ◌≤◌, length}
use Rattle.df_offload.specs.Rows.{hits}
use Rattle.df_offload.specs.Stored.{rows_in}
use Rattle.df_offload.proofs.HitLemmas.{hits_on}
use Rattle.df_offload.proofs.df.Df.count.Given as goal

abbrev pub invariant-loop-row : goal.invariant-loop-row
invariant-loop-row g l = record {
  count : l.count + length (hits_on l.self.columns (g.P.Space.contents l.fn.space) l.by l.row)
      ≡ length (hits l.by (rows_in l.self.columns (g.P.Space.contents l.fn.space)));
  few : l.count ≤ l.row;
  contents : g.P.Space.contents l.space ≡ g.P.Space.contents l.fn.space;
  rest : g.P.Space.rest l.space ≡ g.P.Space.rest l.fn.space;
  honest : g.P.Space.honest l.space;
}
