use Rattle.std.proofs.Common.{◌≡◌}
use Rattle.mv_offload.proofs.CallLemmas.{IsBack}
use Rattle.mv_offload.proofs.mv.Mv.slot.Given as goal

abbrev pub invariant-loop-behind : goal.invariant-loop-behind
invariant-loop-behind g l = record {
  back : IsBack (g.P.Space.contents l.fn.space) l.index l.version l.node l.behind;
  contents : g.P.Space.contents l.space ≡ g.P.Space.contents l.fn.space;
  rest : g.P.Space.rest l.space ≡ g.P.Space.rest l.fn.space;
  honest : g.P.Space.honest l.space;
}

abbrev pub decreases-loop-behind : goal.decreases-loop-behind
decreases-loop-behind g l = l.behind
