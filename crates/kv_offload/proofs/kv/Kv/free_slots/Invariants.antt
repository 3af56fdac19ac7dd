use Rattle.std.proofs.Common.{◌≡◌}
use Rattle.kv_offload.specs.Stored.{HasPages}
use Rattle.kv_offload.proofs.EmptyLemmas.{AreFree}
use Rattle.kv_offload.proofs.kv.Kv.free_slots.Given as goal

abbrev pub invariant-loop-slot : goal.invariant-loop-slot
invariant-loop-slot g l = record {
  free : AreFree l.self.records l.slot (g.P.Space.contents l.space);
  pages : HasPages l.self.records (g.P.Space.contents l.space);
  rest : g.P.Space.rest l.space ≡ g.P.Space.rest l.fn.space;
  honest : g.P.Space.honest l.space;
}
