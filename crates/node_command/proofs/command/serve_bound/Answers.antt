use Rattle.std.proofs.Common.{Result, ap, refl}
use Rattle.wire_loop.specs.Serves.{incoming, told_of}
use Rattle.wire_loop.specs.declared.serving.ServeEnd.{ServeEnd}
use Rattle.wire_loop.specs.Wired.{wired}
use Rattle.node_command.specs.Writing.{ends_by}
use Rattle.node_command.specs.declared.node_end.Cut.{Cut}
use Rattle.node_command.proofs.EndLemmas.{end_cut, end_whole, err_is, port_cut}
use Rattle.node_command.proofs.command.serve_bound.Goals as goal

pub returns-in_err-write_port : goal.returns-in_err-write_port
returns-in_err-write_port g c =
    port_cut c.args.port c.args.node.now c.args.frames c.args.idles
    (wired (told_of (incoming (g.W.Wire.coming c.args.wire.now) (g.W.Wire.idles c.args.wire.now)) (g.W.Wire.sent c.args.wire.now) (g.C.Clock.moments c.args.clock.now)) (g.W.Wire.last_bind c.args.wire.now) (g.W.Wire.faults c.args.wire.now) (g.K.Sink.written c.args.sink.now) (g.K.Sink.faults c.args.sink.now))
    (wired (told_of (incoming (g.W.Wire.coming c.args.wire.now) (g.W.Wire.idles c.args.wire.now)) (g.W.Wire.sent c.args.wire.now) (g.C.Clock.moments c.args.clock.now)) (g.W.Wire.last_bind c.args.wire.now) (g.W.Wire.faults c.args.wire.now) (g.K.Sink.written c.write_port.new.sink) (g.K.Sink.faults c.write_port.new.sink))
    c.in_err-write_port.field-0.0 (ends_by c.from_residual.result c.args.node.now) refl refl refl c.in_err-write_port.ensures
    (ap (λ (r : Result ServeEnd Cut). ends_by r c.args.node.now) (err_is c.from_residual.result c.in_err-write_port.field-0.0 c.from_residual.ensures.1))

pub returns-in_err-write_end : goal.returns-in_err-write_end
returns-in_err-write_end g c =
    end_cut c.args.port c.args.node.now c.args.frames c.args.idles
    (wired (told_of (incoming (g.W.Wire.coming c.args.wire.now) (g.W.Wire.idles c.args.wire.now)) (g.W.Wire.sent c.args.wire.now) (g.C.Clock.moments c.args.clock.now)) (g.W.Wire.last_bind c.args.wire.now) (g.W.Wire.faults c.args.wire.now) (g.K.Sink.written c.args.sink.now) (g.K.Sink.faults c.args.sink.now))
    (wired (told_of (incoming (g.W.Wire.coming c.serve-end.new.wire) (g.W.Wire.idles c.serve-end.new.wire)) (g.W.Wire.sent c.serve-end.new.wire) (g.C.Clock.moments c.serve-end.new.clock)) (g.W.Wire.last_bind c.serve-end.new.wire) (g.W.Wire.faults c.serve-end.new.wire) (g.K.Sink.written c.write_end.new.sink) (g.K.Sink.faults c.write_end.new.sink))
    c.serve-end.new.node c.serve-end.result (g.K.Sink.written c.write_port.new.sink) (g.K.Sink.faults c.write_port.new.sink)
    c.in_ok-write_port.ensures c.serve-end.ensures.serves c.serve-end.ensures.counts c.serve-end.ensures.bind
    c.in_err-write_end.field-0.0 (ends_by c.from_residual-in_err-write_end.result c.serve-end.new.node) c.in_err-write_end.ensures
    (ap (λ (r : Result ServeEnd Cut). ends_by r c.serve-end.new.node) (err_is c.from_residual-in_err-write_end.result c.in_err-write_end.field-0.0 c.from_residual-in_err-write_end.ensures.1))

pub returns : goal.returns
returns g c =
    end_whole c.args.port c.args.node.now c.args.frames c.args.idles
    (wired (told_of (incoming (g.W.Wire.coming c.args.wire.now) (g.W.Wire.idles c.args.wire.now)) (g.W.Wire.sent c.args.wire.now) (g.C.Clock.moments c.args.clock.now)) (g.W.Wire.last_bind c.args.wire.now) (g.W.Wire.faults c.args.wire.now) (g.K.Sink.written c.args.sink.now) (g.K.Sink.faults c.args.sink.now))
    (wired (told_of (incoming (g.W.Wire.coming c.serve-end.new.wire) (g.W.Wire.idles c.serve-end.new.wire)) (g.W.Wire.sent c.serve-end.new.wire) (g.C.Clock.moments c.serve-end.new.clock)) (g.W.Wire.last_bind c.serve-end.new.wire) (g.W.Wire.faults c.serve-end.new.wire) (g.K.Sink.written c.write_end.new.sink) (g.K.Sink.faults c.write_end.new.sink))
    c.serve-end.new.node c.serve-end.result (g.K.Sink.written c.write_port.new.sink) (g.K.Sink.faults c.write_port.new.sink)
    c.in_ok-write_port.ensures c.serve-end.ensures.serves c.serve-end.ensures.counts c.serve-end.ensures.bind
    _ c.in_ok-write_end.ensures refl
