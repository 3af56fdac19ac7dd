use Rattle.std.proofs.Common.{◌≡◌, ◌-◌}
use Rattle.df_offload.proofs.SelectLemmas.{Gives}
use Rattle.df_offload.proofs.df.Df.select.Given as goal

abbrev pub invariant-loop-at : goal.invariant-loop-at
invariant-loop-at g l = record {
  gives : Gives l.self.columns (g.P.Space.contents l.fn.space) l.by l.cursor l.at l.found l.fn.out l.out;
  contents : g.P.Space.contents l.space ≡ g.P.Space.contents l.fn.space;
  rest : g.P.Space.rest l.space ≡ g.P.Space.rest l.fn.space;
  honest : g.P.Space.honest l.space;
}

abbrev pub decreases-loop-at : goal.decreases-loop-at
decreases-loop-at g l = l.held - l.at
