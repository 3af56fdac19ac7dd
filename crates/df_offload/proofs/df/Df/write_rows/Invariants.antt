use Rattle.std.proofs.Common.{◌≡◌}
use Rattle.df_offload.specs.Stored.{HasPages}
use Rattle.df_offload.proofs.RowLemmas.{Writes}
use Rattle.df_offload.proofs.df.Df.write_rows.Given as goal

abbrev pub invariant-loop-row : goal.invariant-loop-row
invariant-loop-row g l = record {
  writes : Writes l.self.columns l.held l.row l.rows (g.P.Space.contents l.fn.space) (g.P.Space.contents l.space);
  pages : HasPages l.self.columns l.self.rows (g.P.Space.contents l.space);
  rest : g.P.Space.rest l.space ≡ g.P.Space.rest l.fn.space;
  honest : g.P.Space.honest l.space;
}
