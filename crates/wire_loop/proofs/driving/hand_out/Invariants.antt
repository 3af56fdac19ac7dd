use Rattle.std.proofs.Common.{◌≡◌, length}
use Rattle.cl_outside.specs.Counts.{NoneFailed}
use Rattle.client_model.specs.Client.{handed_out}
use Rattle.wire_loop.specs.Driven.{Handed}
use Rattle.wire_loop.proofs.driving.hand_out.Given as goal

-- the lines of the calls that were handed out were written
abbrev pub invariant-loop-no : goal.invariant-loop-no
invariant-loop-no g l =
    Handed l.fn.client l.client l.lines (g.K.Sink.written l.fn.sink) (g.K.Sink.written l.sink)
    × (handed_out l.client ≡ handed_out l.fn.client)
    × NoneFailed (g.K.Sink.faults l.fn.sink) (g.K.Sink.faults l.sink)

abbrev pub decreases-loop-no : goal.decreases-loop-no
decreases-loop-no g l = length l.client.ended
