use Rattle.std.proofs.Common.{◌≡◌, drop}
use Rattle.hash_buckets.specs.Slots.{look}
use Rattle.hash_buckets.proofs.buckets.look_up.Given as goal

abbrev pub invariant-loop-slot : goal.invariant-loop-slot
invariant-loop-slot l = look (drop l.slot-index l.bucket) (l.space.0, l.vpn.0) ≡ look l.bucket (l.space.0, l.vpn.0)
