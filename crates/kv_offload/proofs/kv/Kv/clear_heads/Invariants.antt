use Rattle.std.proofs.Common.{◌≡◌, ℕ, ◌<◌}
use Rattle.kv_offload.specs.Layout.{link_of}
use Rattle.kv_offload.specs.Stored.{HasPages}
use Rattle.kv_offload.proofs.kv.Kv.clear_heads.Given as goal

abbrev pub invariant-loop-head : goal.invariant-loop-head
invariant-loop-head g l = record {
  links : (node : ℕ) → node < l.head → link_of (g.P.Space.contents l.space) node ≡ 0;
  pages : HasPages l.self.records (g.P.Space.contents l.space);
  rest : g.P.Space.rest l.space ≡ g.P.Space.rest l.fn.space;
  honest : g.P.Space.honest l.space;
}
