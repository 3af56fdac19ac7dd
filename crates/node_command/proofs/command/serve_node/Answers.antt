use Rattle.std.proofs.Common.{subst, sym}
use Rattle.flat_model.specs.Opening.{open_fault}
use Rattle.node_core.specs.Keeping.{KeptNode}
use Rattle.wire_loop.specs.Serves.{incoming, told_of}
use Rattle.wire_loop.specs.Wired.{wired}
use Rattle.node_command.specs.Ends.{NodeEnds, numbers}
use Rattle.node_command.proofs.EndLemmas.{created_opens, refused_by}
use Rattle.node_command.proofs.command.serve_node.Goals as goal

pub returns-in-Ok : goal.returns-in-Ok
returns-in-Ok g c =
    record {
      ends = subst
          (NodeEnds (numbers c.args.port c.args.config.now c.args.frames c.args.idles)
          (wired (told_of (incoming (g.W.Wire.coming c.args.wire.now) (g.W.Wire.idles c.args.wire.now)) (g.W.Wire.sent c.args.wire.now) (g.C.Clock.moments c.args.clock.now)) (g.W.Wire.last_bind c.args.wire.now) (g.W.Wire.faults c.args.wire.now) (g.K.Sink.written c.args.sink.now) (g.K.Sink.faults c.args.sink.now))
          (wired (told_of (incoming (g.W.Wire.coming c.serve_on-ended.new.wire) (g.W.Wire.idles c.serve_on-ended.new.wire)) (g.W.Wire.sent c.serve_on-ended.new.wire) (g.C.Clock.moments c.serve_on-ended.new.clock)) (g.W.Wire.last_bind c.serve_on-ended.new.wire) (g.W.Wire.faults c.serve_on-ended.new.wire) (g.K.Sink.written c.serve_on-ended.new.sink) (g.K.Sink.faults c.serve_on-ended.new.sink)))
          (sym c.end_of_serving.ensures)
          (c.serve_on-ended.ensures c.args.config.now c.in-Ok.ensures.opened (created_opens (open_fault c.args.config.now) c.in-Ok.node c.in-Ok.ensures.fault));
    }

pub returns-in-Err : goal.returns-in-Err
returns-in-Err g c =
    record {
      ends = c.refuse.ensures (numbers c.args.port c.args.config.now c.args.frames c.args.idles)
          (told_of (incoming (g.W.Wire.coming c.args.wire.now) (g.W.Wire.idles c.args.wire.now)) (g.W.Wire.sent c.args.wire.now) (g.C.Clock.moments c.args.clock.now)) (g.W.Wire.last_bind c.args.wire.now) (g.W.Wire.faults c.args.wire.now)
          (refused_by KeptNode (open_fault c.args.config.now) c.in-Err.fault c.in-Err.ensures.fault);
    }
