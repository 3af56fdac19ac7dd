use Rattle.std.proofs.Common.{◌≡◌, ◌+◌, ◌-◌, ◌≤◌}
use Rattle.cl_types.specs.Places.{homes_at}
use Rattle.flat_model.specs.State.{places_of}
use Rattle.flat_model.proofs.buckets.pages_at.Given as goal

abbrev pub invariant-loop-i : goal.invariant-loop-i
invariant-loop-i l = record {
  small : l.found ≤ l.i;
  -- what was found, and what the pages that are left have, is what all have
  sum : l.found + homes_at l.buckets l.bucket (places_of l.pid (l.start + l.i) (l.n - l.i)) ≡ homes_at l.buckets l.bucket (places_of l.pid l.start l.n);
}
