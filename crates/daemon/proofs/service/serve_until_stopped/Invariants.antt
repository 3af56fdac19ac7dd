use Rattle.std.proofs.Common.{◌≡◌, ◌-◌, ◌^◌, ◌≤◌}
use Rattle.wire_loop.specs.Serves.{incoming, told_of}
use Rattle.daemon.specs.Service.{TurnsMade}
use Rattle.daemon.specs.declared.service.TheConstants.{MOST_FAILURES}
use Rattle.daemon.proofs.service.serve_until_stopped.Given as goal

-- so many turns were made so far
abbrev pub invariant-loop-turns : goal.invariant-loop-turns
invariant-loop-turns g l = record {
  made : TurnsMade l.fn.allowed l.fn.node l.node
      (told_of (incoming (g.W.Wire.coming l.fn.wire) (g.W.Wire.idles l.fn.wire)) (g.W.Wire.sent l.fn.wire) (g.C.Clock.moments l.fn.clock))
      (told_of (incoming (g.W.Wire.coming l.wire) (g.W.Wire.idles l.wire)) (g.W.Wire.sent l.wire) (g.C.Clock.moments l.clock))
      l.counts l.turns;
  bind : g.W.Wire.last_bind l.wire ≡ g.W.Wire.last_bind l.fn.wire;
  few : l.counts.failed_in_a_row ≤ MOST_FAILURES;
}

-- no more turns are made than can be counted
abbrev pub decreases-loop-turns : goal.decreases-loop-turns
decreases-loop-turns g l = 2 ^ 64 - l.turns
