use Rattle.std.proofs.Common.{Result, ap, refl}
use Rattle.cl_outside.specs.declared.faults.Faults.{Faults}
use Rattle.wire_loop.specs.Serves.{incoming, told_of}
use Rattle.wire_loop.specs.declared.serving.ServeEnd.{ServeEnd}
use Rattle.wire_loop.specs.Wired.{wired}
use Rattle.node_command.specs.Writing.{ends_by}
use Rattle.node_command.specs.declared.node_end.Cut.{Cut}
use Rattle.node_command.proofs.EndLemmas.{bound_on, err_is, told_same, unbound_cut, unbound_whole}
use Rattle.node_command.proofs.command.serve_on.Goals as goal

pub returns-in-Port : goal.returns-in-Port
returns-in-Port g c =
    bound_on c.args.port c.in-Port.bound c.args.node.now c.args.frames c.args.idles
    (wired (told_of (incoming (g.W.Wire.coming c.args.wire.now) (g.W.Wire.idles c.args.wire.now)) (g.W.Wire.sent c.args.wire.now) (g.C.Clock.moments c.args.clock.now)) (g.W.Wire.last_bind c.args.wire.now) (g.W.Wire.faults c.args.wire.now) (g.K.Sink.written c.args.sink.now) (g.K.Sink.faults c.args.sink.now))
    (wired (told_of (incoming (g.W.Wire.coming c.bind.new.self) (g.W.Wire.idles c.bind.new.self)) (g.W.Wire.sent c.bind.new.self) (g.C.Clock.moments c.args.clock.now)) (g.W.Wire.last_bind c.bind.new.self) (g.W.Wire.faults c.bind.new.self) (g.K.Sink.written c.args.sink.now) (g.K.Sink.faults c.args.sink.now))
    (wired (told_of (incoming (g.W.Wire.coming c.serve_bound.new.wire) (g.W.Wire.idles c.serve_bound.new.wire)) (g.W.Wire.sent c.serve_bound.new.wire) (g.C.Clock.moments c.serve_bound.new.clock)) (g.W.Wire.last_bind c.serve_bound.new.wire) (g.W.Wire.faults c.serve_bound.new.wire) (g.K.Sink.written c.serve_bound.new.sink) (g.K.Sink.faults c.serve_bound.new.sink))
    (ends_by c.serve_bound.result c.serve_bound.new.node) c.in-Port.ensures.last_bind (told_same _ _ _ _ _ _ _ c.in-Port.ensures.coming c.in-Port.ensures.idles c.in-Port.ensures.sent) (ap (λ (f : Faults). f.count) c.in-Port.ensures.cause) refl refl c.serve_bound.ensures

pub returns-in_err-write_wire_fault-in-Failed : goal.returns-in_err-write_wire_fault-in-Failed
returns-in_err-write_wire_fault-in-Failed g c =
    unbound_cut c.args.port c.args.node.now c.args.frames c.args.idles
    (wired (told_of (incoming (g.W.Wire.coming c.args.wire.now) (g.W.Wire.idles c.args.wire.now)) (g.W.Wire.sent c.args.wire.now) (g.C.Clock.moments c.args.clock.now)) (g.W.Wire.last_bind c.args.wire.now) (g.W.Wire.faults c.args.wire.now) (g.K.Sink.written c.args.sink.now) (g.K.Sink.faults c.args.sink.now))
    (wired (told_of (incoming (g.W.Wire.coming c.bind.new.self) (g.W.Wire.idles c.bind.new.self)) (g.W.Wire.sent c.bind.new.self) (g.C.Clock.moments c.args.clock.now)) (g.W.Wire.last_bind c.bind.new.self) (g.W.Wire.faults c.bind.new.self) (g.K.Sink.written c.write_wire_fault.new.sink) (g.K.Sink.faults c.write_wire_fault.new.sink))
    (told_same _ _ _ _ _ _ _ c.in-Failed.ensures.coming c.in-Failed.ensures.idles c.in-Failed.ensures.sent) c.in-Failed.ensures.last_bind c.in-Failed.ensures.cause
    c.in_err-write_wire_fault-in-Failed.field-0.0 (ends_by c.from_residual.result c.args.node.now) c.in_err-write_wire_fault-in-Failed.ensures
    (ap (λ (r : Result ServeEnd Cut). ends_by r c.args.node.now) (err_is c.from_residual.result c.in_err-write_wire_fault-in-Failed.field-0.0 c.from_residual.ensures.1))

pub returns-in_ok-write_wire_fault-in-Failed : goal.returns-in_ok-write_wire_fault-in-Failed
returns-in_ok-write_wire_fault-in-Failed g c =
    unbound_whole c.args.port c.args.node.now c.args.frames c.args.idles
    (wired (told_of (incoming (g.W.Wire.coming c.args.wire.now) (g.W.Wire.idles c.args.wire.now)) (g.W.Wire.sent c.args.wire.now) (g.C.Clock.moments c.args.clock.now)) (g.W.Wire.last_bind c.args.wire.now) (g.W.Wire.faults c.args.wire.now) (g.K.Sink.written c.args.sink.now) (g.K.Sink.faults c.args.sink.now))
    (wired (told_of (incoming (g.W.Wire.coming c.bind.new.self) (g.W.Wire.idles c.bind.new.self)) (g.W.Wire.sent c.bind.new.self) (g.C.Clock.moments c.args.clock.now)) (g.W.Wire.last_bind c.bind.new.self) (g.W.Wire.faults c.bind.new.self) (g.K.Sink.written c.write_wire_fault.new.sink) (g.K.Sink.faults c.write_wire_fault.new.sink))
    (told_same _ _ _ _ _ _ _ c.in-Failed.ensures.coming c.in-Failed.ensures.idles c.in-Failed.ensures.sent) c.in-Failed.ensures.last_bind c.in-Failed.ensures.cause
    _ c.in_ok-write_wire_fault-in-Failed.ensures refl
