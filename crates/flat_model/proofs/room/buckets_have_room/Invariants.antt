use Rattle.std.proofs.Common.{◌≡◌, ◌+◌, ◌-◌}
use Rattle.std.specs.List.{list_all}
use Rattle.flat_model.specs.Rows.{has_room_among}
use Rattle.flat_model.specs.State.{places_of}
use Rattle.flat_model.proofs.room.buckets_have_room.Given as goal

-- the buckets of the pages so far have room
abbrev pub invariant-loop-i : goal.invariant-loop-i
invariant-loop-i l =
    list_all (has_room_among l.config (l.k + 1)) (places_of l.space (1 + l.i) (l.n - l.i)) ≡ list_all (has_room_among l.config (l.k + 1)) (places_of l.space 1 l.n)
