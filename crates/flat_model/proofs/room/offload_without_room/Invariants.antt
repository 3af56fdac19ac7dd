use Rattle.std.proofs.Common.{◌≡◌}
use Rattle.flat_model.specs.Opening.{held_by, first_without_room}
use Rattle.flat_model.specs.Rows.{AreFourAtMost}
use Rattle.flat_model.proofs.OpeningLemmas.{lacking_from}
use Rattle.flat_model.proofs.room.offload_without_room.Given as goal

abbrev pub invariant-loop-k : goal.invariant-loop-k
invariant-loop-k l = record {
  four : AreFourAtMost l.config.buckets (held_by l.config l.k);
  -- the offloads so far have room
  room : lacking_from l.config l.k ≡ first_without_room l.config;
}
