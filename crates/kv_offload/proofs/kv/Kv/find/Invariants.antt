use Rattle.std.proofs.Common.{◌≡◌, length}
use Rattle.kv_offload.specs.Layout.{link_of}
use Rattle.kv_offload.specs.Links.{behind}
use Rattle.kv_offload.specs.Found.{IsWalked}
use Rattle.kv_offload.proofs.kv.Kv.find.Given as goal

abbrev pub invariant-loop-node : goal.invariant-loop-node
invariant-loop-node g l = record {
  walk : IsWalked l.self.records (g.P.Space.contents l.fn.space) l.key l.before l.node;
  contents : g.P.Space.contents l.space ≡ g.P.Space.contents l.fn.space;
  rest : g.P.Space.rest l.space ≡ g.P.Space.rest l.fn.space;
  honest : g.P.Space.honest l.space;
}

abbrev pub decreases-loop-node : goal.decreases-loop-node
decreases-loop-node g l = length (behind l.self.records (link_of (g.P.Space.contents l.fn.space)) l.before)
