use Rattle.std.proofs.Common.{◌≡◌, ◌*◌, ◌≤◌, length}
use Rattle.flat_model.specs.Opening.{held_by}
use Rattle.flat_model.proofs.room.held_count.Given as goal

abbrev pub invariant-loop-j : goal.invariant-loop-j
invariant-loop-j l = record {
  counted : l.count ≡ length (held_by l.config l.j);
  small : l.count ≤ l.j * 317;
}
