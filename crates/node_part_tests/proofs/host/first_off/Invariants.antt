-- The offload is there at each step, and the space holds its object.
use Rattle.std.proofs.Common.{◌<◌, IfSome, length, slice_get}
use Rattle.offload_host.specs.Held.{HoldsObject}
use Rattle.node_part_tests.proofs.host.first_off.Given as goal

abbrev pub invariant-loop-at : goal.invariant-loop-at
invariant-loop-at l = record {
  exists : 0 < length l.host;
  object : IfSome (slice_get l.host 0) (λ offload. HoldsObject offload l.space);
}
