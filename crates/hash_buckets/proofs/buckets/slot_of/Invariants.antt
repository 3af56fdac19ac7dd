use Rattle.std.proofs.Common.{◌≡◌, drop}
use Rattle.hash_buckets.specs.Slots.{look}
use Rattle.hash_buckets.proofs.buckets.slot_of.Given as goal

abbrev pub invariant-loop-at : goal.invariant-loop-at
invariant-loop-at l = look (drop l.at l.bucket) (l.space.0, l.vpn.0) ≡ look l.bucket (l.space.0, l.vpn.0)
