use Rattle.std.proofs.Common.{◌≡◌, ◌+◌, ◌-◌}
use Rattle.std.specs.List.{list_all}
use Rattle.flat_model.specs.Rows.{has_room_at}
use Rattle.flat_model.specs.State.{places_of}
use Rattle.flat_model.proofs.flat.Flat.has_room_for_each.Given as goal

-- the buckets of the pages so far have room
abbrev pub invariant-loop-i : goal.invariant-loop-i
invariant-loop-i l =
    list_all (has_room_at l.self (places_of l.pid l.start l.n)) (places_of l.pid (l.start + l.i) (l.n - l.i))
    ≡ list_all (has_room_at l.self (places_of l.pid l.start l.n)) (places_of l.pid l.start l.n)
