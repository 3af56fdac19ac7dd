use Rattle.std.proofs.Common.{◌-◌, ◌≤◌, length}
use Rattle.cl_outside.specs.Counts.{NoneFailed}
use Rattle.wire_loop.specs.Driven.{IsBetweenTurns, Tried}
use Rattle.wire_loop.specs.Steps.{steps_left}
use Rattle.wire_loop.proofs.driving.issue_calls.Given as goal

-- the calls before the next were tried
abbrev pub invariant-loop-alloc : goal.invariant-loop-alloc
invariant-loop-alloc g l =
    Tried l.calls l.fn.client l.client l.fn.next l.next l.fn.lines l.lines (g.K.Sink.written l.fn.sink) (g.K.Sink.written l.sink)
    × NoneFailed (g.K.Sink.faults l.fn.sink) (g.K.Sink.faults l.sink)
    × IsBetweenTurns l.calls l.client l.next
    × (steps_left l.client (length l.calls - l.next) ≤ steps_left l.fn.client (length l.calls - l.fn.next))

abbrev pub decreases-loop-alloc : goal.decreases-loop-alloc
decreases-loop-alloc g l = length l.calls - l.next
