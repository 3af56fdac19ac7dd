use Rattle.std.proofs.Common.{◌≡◌, take, count_by, is_some}
use Rattle.hash_buckets.proofs.buckets.free_slot.Given as goal

abbrev pub invariant-loop-at : goal.invariant-loop-at
invariant-loop-at l = count_by is_some (take l.at l.bucket) ≡ l.at
