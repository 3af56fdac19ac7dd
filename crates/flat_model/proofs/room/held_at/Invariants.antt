use Rattle.std.proofs.Common.{◌≡◌, ◌*◌, ◌≤◌}
use Rattle.cl_types.specs.Places.{homes_at}
use Rattle.flat_model.specs.Opening.{held_by}
use Rattle.flat_model.proofs.room.held_at.Given as goal

abbrev pub invariant-loop-j : goal.invariant-loop-j
invariant-loop-j l = record {
  counted : l.found ≡ homes_at l.config.buckets l.bucket (held_by l.config l.j);
  small : l.found ≤ l.j * 317;
}
