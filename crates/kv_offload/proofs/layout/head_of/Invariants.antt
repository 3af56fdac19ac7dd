use Rattle.std.proofs.Common.{◌≡◌, ◌<◌, drop}
use Rattle.kv_offload.specs.Layout.{hash_on}
use Rattle.kv_offload.proofs.layout.head_of.Given as goal

abbrev pub invariant-loop-byte : goal.invariant-loop-byte
invariant-loop-byte l = record {
  below : l.hash < 1024;
  so_far : hash_on 0 l.key ≡ hash_on l.hash (drop l.byte-index l.key);
}
