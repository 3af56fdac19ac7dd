use Rattle.std.proofs.Common.{◌≡◌, ◌≤◌, ◌-◌, length, take}
use Rattle.cl_outside.specs.Told.{Added}
use Rattle.cl_outside.proofs.loops.write_all.Given as goal

-- the first `done` bytes were written, and no write has failed
abbrev pub invariant-loop-done : goal.invariant-loop-done
invariant-loop-done g l =
    Added (take l.done l.bytes) (g.K.Sink.written l.fn.sink) (g.K.Sink.written l.sink)
    × ((g.K.Sink.faults l.sink).count ≡ (g.K.Sink.faults l.fn.sink).count)
    × (l.done ≤ length l.bytes)

abbrev pub decreases-loop-done : goal.decreases-loop-done
decreases-loop-done g l = length l.bytes - l.done
