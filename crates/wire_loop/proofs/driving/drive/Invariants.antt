use Rattle.std.proofs.Common.{◌≡◌, ◌-◌, ◌≤◌, false, length}
use Rattle.cl_outside.specs.Counts.{NoneFailed}
use Rattle.cl_types.specs.declared.limits.TheConstants.{STALL_TURNS}
use Rattle.wire_loop.specs.Driven.{IsBetweenTurns, Ran}
use Rattle.wire_loop.specs.Serves.{incoming, told_of}
use Rattle.wire_loop.specs.Steps.{steps_left, turns_left}
use Rattle.wire_loop.proofs.driving.drive.Given as goal

-- the turns so far are the definition's, and neither the wire nor the sink has failed
abbrev pub invariant-loop-fruitless : goal.invariant-loop-fruitless
invariant-loop-fruitless g l =
    Ran l.calls l.node l.fn.client l.client l.next l.lines
    (told_of (incoming (g.W.Wire.coming l.fn.wire) (g.W.Wire.idles l.fn.wire)) (g.W.Wire.sent l.fn.wire) (g.C.Clock.moments l.fn.clock))
    (told_of (incoming (g.W.Wire.coming l.wire) (g.W.Wire.idles l.wire)) (g.W.Wire.sent l.wire) (g.C.Clock.moments l.clock))
    (g.K.Sink.written l.fn.sink) (g.K.Sink.written l.sink) l.fruitless false
    × NoneFailed (g.W.Wire.faults l.fn.wire) (g.W.Wire.faults l.wire)
    × NoneFailed (g.K.Sink.faults l.fn.sink) (g.K.Sink.faults l.sink)
    × (g.W.Wire.last_bind l.wire ≡ g.W.Wire.last_bind l.fn.wire)
    × IsBetweenTurns l.calls l.client l.next
    × (l.fruitless ≤ STALL_TURNS)

-- each turn takes a step, or is one more fruitless turn
abbrev pub decreases-loop-fruitless : goal.decreases-loop-fruitless
decreases-loop-fruitless g l = turns_left (steps_left l.client (length l.calls - l.next)) l.fruitless
