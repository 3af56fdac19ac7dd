use Rattle.std.proofs.Common.{◌≡◌, ◌+◌, ◌*◌, ◌-◌, ◌≤◌, false}
use Rattle.cl_outside.specs.Counts.{NoneFailed}
use Rattle.wire_loop.specs.Ran.{Ran}
use Rattle.wire_loop.specs.Serves.{incoming, told_of}
use Rattle.wire_loop.proofs.serving.serve.Given as goal

-- so many datagrams were served so far, and the wire has not failed
abbrev pub invariant-loop-served : goal.invariant-loop-served
invariant-loop-served g l = record {
  ran : Ran l.frames l.idles l.fn.node l.node
      (told_of (incoming (g.W.Wire.coming l.fn.wire) (g.W.Wire.idles l.fn.wire)) (g.W.Wire.sent l.fn.wire) (g.C.Clock.moments l.fn.clock))
      (told_of (incoming (g.W.Wire.coming l.wire) (g.W.Wire.idles l.wire)) (g.W.Wire.sent l.wire) (g.C.Clock.moments l.clock))
      l.served l.idle false;
  counts : NoneFailed (g.W.Wire.faults l.fn.wire) (g.W.Wire.faults l.wire);
  bind : g.W.Wire.last_bind l.wire ≡ g.W.Wire.last_bind l.fn.wire;
  few : l.served ≤ l.frames;
  short : l.idle ≤ l.idles;
}

-- a datagram more leaves fewer to serve, and an idle turn more fewer idle ones
abbrev pub decreases-loop-served : goal.decreases-loop-served
decreases-loop-served g l = (l.frames - l.served) * (l.idles + 1) + (l.idles - l.idle)
