use Rattle.std.proofs.Common.{inl, inr, refl, sym, ap, ◌∙◌}
use Rattle.client_model.specs.Client.{ClientState, new_client}
use Rattle.wire_loop.specs.Driving.{AllEnded, Stalled, WireFailed}
use Rattle.wire_loop.specs.Serves.{incoming, told_of}
use Rattle.wire_loop.specs.Wired.{wired}
use Rattle.client_command.specs.Ends.{TurnText, task_of}
use Rattle.client_command.proofs.EndLemmas.{Found, added_nothing, broken_off, driven_to, fault_ends, stalled_ends, told_same, unbound_ends}
use Rattle.client_command.proofs.command.drive_client.Goals as goal

pub drive-requires-clause-new : goal.drive-requires-clause-new
drive-requires-clause-new g c =
    let is = c.in-Ok.ensures.new in
    is ∙ ap (λ (s : ClientState). record (new_client s.client s.pid) { sendings = s.sendings; last = s.last }) (sym is)

pub drive-requires-clause-few : goal.drive-requires-clause-few
drive-requires-clause-few g c = c.requires.few

pub returns-in_default : goal.returns-in_default
returns-in_default g c = record { came = inl refl; wire = refl; sink = refl }

pub returns-in_default-bind : goal.returns-in_default-bind
returns-in_default-bind g c =
    let before =
    wired
    (told_of (incoming (g.W.Wire.coming c.args.wire.now) (g.W.Wire.idles c.args.wire.now)) (g.W.Wire.sent c.args.wire.now) (g.C.Clock.moments c.args.clock.now))
    (g.W.Wire.last_bind c.args.wire.now) (g.W.Wire.faults c.args.wire.now)
    (g.K.Sink.written c.args.sink.now) (g.K.Sink.faults c.args.sink.now) in
    let after =
    wired
    (told_of (incoming (g.W.Wire.coming c.bind.new.self) (g.W.Wire.idles c.bind.new.self)) (g.W.Wire.sent c.bind.new.self) (g.C.Clock.moments c.args.clock.now))
    (g.W.Wire.last_bind c.bind.new.self) (g.W.Wire.faults c.bind.new.self)
    (g.K.Sink.written c.end_wire_fault.new.sink) (g.K.Sink.faults c.end_wire_fault.new.sink) in
    unbound_ends (task_of c.args.node_port c.args.no c.args.pid c.args.script.now.calls) before after
    (record {
      bound = c.in_default-bind.ensures.last_bind;
      passed = told_same _ _ _ _ _ _ _ c.bind.ensures.coming c.bind.ensures.idles c.bind.ensures.sent;
      wire = c.in_default-bind.ensures.cause;
    }) c.end_wire_fault.result c.end_wire_fault.ensures

pub returns-in-AllEnded : goal.returns-in-AllEnded
returns-in-AllEnded g c =
    let before =
    wired
    (told_of (incoming (g.W.Wire.coming c.args.wire.now) (g.W.Wire.idles c.args.wire.now)) (g.W.Wire.sent c.args.wire.now) (g.C.Clock.moments c.args.clock.now))
    (g.W.Wire.last_bind c.args.wire.now) (g.W.Wire.faults c.args.wire.now)
    (g.K.Sink.written c.args.sink.now) (g.K.Sink.faults c.args.sink.now) in
    let between =
    wired
    (told_of (incoming (g.W.Wire.coming c.bind.new.self) (g.W.Wire.idles c.bind.new.self)) (g.W.Wire.sent c.bind.new.self) (g.C.Clock.moments c.args.clock.now))
    (g.W.Wire.last_bind c.bind.new.self) (g.W.Wire.faults c.bind.new.self)
    (g.K.Sink.written c.args.sink.now) (g.K.Sink.faults c.args.sink.now) in
    let after =
    wired
    (told_of (incoming (g.W.Wire.coming c.drive.new.wire) (g.W.Wire.idles c.drive.new.wire)) (g.W.Wire.sent c.drive.new.wire) (g.C.Clock.moments c.drive.new.clock))
    (g.W.Wire.last_bind c.drive.new.wire) (g.W.Wire.faults c.drive.new.wire)
    (g.K.Sink.written c.drive.new.sink) (g.K.Sink.faults c.drive.new.sink) in
    let found : Found c.in-Port._port before between = record {
      bound = c.in-Port.ensures.last_bind;
      told = told_same _ _ _ _ _ _ _ c.bind.ensures.coming c.bind.ensures.idles c.bind.ensures.sent;
      good = c.in-Port.ensures.cause;
    } in
    let driven =
    driven_to (task_of c.args.node_port c.args.no c.args.pid c.args.script.now.calls) before between after
    c.in-Port._port c.in-Ok.client c.drive.new.client (g.K.Sink.written c.drive.new.sink)
    AllEnded c.peer_at.result found
    c.in-Ok.ensures.new c.peer_at.ensures
    c.in-AllEnded.ensures.drives c.in-AllEnded.ensures.counts.0 c.drive.ensures.bind in
    record {
      printed = g.K.Sink.written c.drive.new.sink;
      driven = driven;
      line = added_nothing (g.K.Sink.written c.drive.new.sink);
      sink = c.in-AllEnded.ensures.counts.1;
    }

pub returns-in-Stalled : goal.returns-in-Stalled
returns-in-Stalled g c =
    let before =
    wired
    (told_of (incoming (g.W.Wire.coming c.args.wire.now) (g.W.Wire.idles c.args.wire.now)) (g.W.Wire.sent c.args.wire.now) (g.C.Clock.moments c.args.clock.now))
    (g.W.Wire.last_bind c.args.wire.now) (g.W.Wire.faults c.args.wire.now)
    (g.K.Sink.written c.args.sink.now) (g.K.Sink.faults c.args.sink.now) in
    let between =
    wired
    (told_of (incoming (g.W.Wire.coming c.bind.new.self) (g.W.Wire.idles c.bind.new.self)) (g.W.Wire.sent c.bind.new.self) (g.C.Clock.moments c.args.clock.now))
    (g.W.Wire.last_bind c.bind.new.self) (g.W.Wire.faults c.bind.new.self)
    (g.K.Sink.written c.args.sink.now) (g.K.Sink.faults c.args.sink.now) in
    let after =
    wired
    (told_of (incoming (g.W.Wire.coming c.drive.new.wire) (g.W.Wire.idles c.drive.new.wire)) (g.W.Wire.sent c.drive.new.wire) (g.C.Clock.moments c.drive.new.clock))
    (g.W.Wire.last_bind c.drive.new.wire) (g.W.Wire.faults c.drive.new.wire)
    (g.K.Sink.written c.end_stalled.new.sink) (g.K.Sink.faults c.end_stalled.new.sink) in
    let found : Found c.in-Port._port before between = record {
      bound = c.in-Port.ensures.last_bind;
      told = told_same _ _ _ _ _ _ _ c.bind.ensures.coming c.bind.ensures.idles c.bind.ensures.sent;
      good = c.in-Port.ensures.cause;
    } in
    let driven =
    driven_to (task_of c.args.node_port c.args.no c.args.pid c.args.script.now.calls) before between after
    c.in-Port._port c.in-Ok.client c.drive.new.client (g.K.Sink.written c.drive.new.sink)
    (Stalled c.in-Stalled.moment) c.peer_at.result found
    c.in-Ok.ensures.new c.peer_at.ensures
    c.in-Stalled.ensures.drives.1 c.in-Stalled.ensures.counts.0 c.drive.ensures.bind in
    stalled_ends (task_of c.args.node_port c.args.no c.args.pid c.args.script.now.calls) before after
    c.drive.new.client c.in-Stalled.moment c.in-Stalled.turns
    (g.K.Sink.written c.drive.new.sink) (g.K.Sink.faults c.drive.new.sink)
    driven c.in-Stalled.ensures.counts.1 c.in-Stalled.ensures.drives.0 c.end_stalled.result c.end_stalled.ensures

pub returns-in-WireFault : goal.returns-in-WireFault
returns-in-WireFault g c =
    let before =
    wired
    (told_of (incoming (g.W.Wire.coming c.args.wire.now) (g.W.Wire.idles c.args.wire.now)) (g.W.Wire.sent c.args.wire.now) (g.C.Clock.moments c.args.clock.now))
    (g.W.Wire.last_bind c.args.wire.now) (g.W.Wire.faults c.args.wire.now)
    (g.K.Sink.written c.args.sink.now) (g.K.Sink.faults c.args.sink.now) in
    let between =
    wired
    (told_of (incoming (g.W.Wire.coming c.bind.new.self) (g.W.Wire.idles c.bind.new.self)) (g.W.Wire.sent c.bind.new.self) (g.C.Clock.moments c.args.clock.now))
    (g.W.Wire.last_bind c.bind.new.self) (g.W.Wire.faults c.bind.new.self)
    (g.K.Sink.written c.args.sink.now) (g.K.Sink.faults c.args.sink.now) in
    let after =
    wired
    (told_of (incoming (g.W.Wire.coming c.drive.new.wire) (g.W.Wire.idles c.drive.new.wire)) (g.W.Wire.sent c.drive.new.wire) (g.C.Clock.moments c.drive.new.clock))
    (g.W.Wire.last_bind c.drive.new.wire) (g.W.Wire.faults c.drive.new.wire)
    (g.K.Sink.written c.end_wire_fault-in-WireFault.new.sink) (g.K.Sink.faults c.end_wire_fault-in-WireFault.new.sink) in
    let found : Found c.in-Port._port before between = record {
      bound = c.in-Port.ensures.last_bind;
      told = told_same _ _ _ _ _ _ _ c.bind.ensures.coming c.bind.ensures.idles c.bind.ensures.sent;
      good = c.in-Port.ensures.cause;
    } in
    let driven =
    driven_to (task_of c.args.node_port c.args.no c.args.pid c.args.script.now.calls) before between after
    c.in-Port._port c.in-Ok.client c.drive.new.client (g.K.Sink.written c.drive.new.sink)
    WireFailed c.peer_at.result found
    c.in-Ok.ensures.new c.peer_at.ensures
    c.in-WireFault.ensures.drives c.in-WireFault.ensures.counts.0 c.drive.ensures.bind in
    fault_ends (task_of c.args.node_port c.args.no c.args.pid c.args.script.now.calls) before after
    c.drive.new.client (g.K.Sink.written c.drive.new.sink) (g.K.Sink.faults c.drive.new.sink)
    driven c.in-WireFault.ensures.counts.1 c.end_wire_fault-in-WireFault.result c.end_wire_fault-in-WireFault.ensures

pub returns-in-WriteFault : goal.returns-in-WriteFault
returns-in-WriteFault g c =
    let before =
    wired
    (told_of (incoming (g.W.Wire.coming c.args.wire.now) (g.W.Wire.idles c.args.wire.now)) (g.W.Wire.sent c.args.wire.now) (g.C.Clock.moments c.args.clock.now))
    (g.W.Wire.last_bind c.args.wire.now) (g.W.Wire.faults c.args.wire.now)
    (g.K.Sink.written c.args.sink.now) (g.K.Sink.faults c.args.sink.now) in
    let between =
    wired
    (told_of (incoming (g.W.Wire.coming c.bind.new.self) (g.W.Wire.idles c.bind.new.self)) (g.W.Wire.sent c.bind.new.self) (g.C.Clock.moments c.args.clock.now))
    (g.W.Wire.last_bind c.bind.new.self) (g.W.Wire.faults c.bind.new.self)
    (g.K.Sink.written c.args.sink.now) (g.K.Sink.faults c.args.sink.now) in
    let after =
    wired
    (told_of (incoming (g.W.Wire.coming c.drive.new.wire) (g.W.Wire.idles c.drive.new.wire)) (g.W.Wire.sent c.drive.new.wire) (g.C.Clock.moments c.drive.new.clock))
    (g.W.Wire.last_bind c.drive.new.wire) (g.W.Wire.faults c.drive.new.wire)
    (g.K.Sink.written c.drive.new.sink) (g.K.Sink.faults c.drive.new.sink) in
    let found : Found c.in-Port._port before between = record {
      bound = c.in-Port.ensures.last_bind;
      told = told_same _ _ _ _ _ _ _ c.bind.ensures.coming c.bind.ensures.idles c.bind.ensures.sent;
      good = c.in-Port.ensures.cause;
    } in
    let broken =
    broken_off (task_of c.args.node_port c.args.no c.args.pid c.args.script.now.calls) before between after
    c.in-Port._port c.in-Ok.client c.peer_at.result found
    c.in-Ok.ensures.new c.peer_at.ensures
    c.in-WriteFault.ensures.drives c.in-WriteFault.ensures.counts.0 c.drive.ensures.bind in
    (TurnText broken, c.in-WriteFault.ensures.counts.1)

pub returns-in-NoMemory : goal.returns-in-NoMemory
returns-in-NoMemory g c =
    let before =
    wired
    (told_of (incoming (g.W.Wire.coming c.args.wire.now) (g.W.Wire.idles c.args.wire.now)) (g.W.Wire.sent c.args.wire.now) (g.C.Clock.moments c.args.clock.now))
    (g.W.Wire.last_bind c.args.wire.now) (g.W.Wire.faults c.args.wire.now)
    (g.K.Sink.written c.args.sink.now) (g.K.Sink.faults c.args.sink.now) in
    let between =
    wired
    (told_of (incoming (g.W.Wire.coming c.bind.new.self) (g.W.Wire.idles c.bind.new.self)) (g.W.Wire.sent c.bind.new.self) (g.C.Clock.moments c.args.clock.now))
    (g.W.Wire.last_bind c.bind.new.self) (g.W.Wire.faults c.bind.new.self)
    (g.K.Sink.written c.args.sink.now) (g.K.Sink.faults c.args.sink.now) in
    let after =
    wired
    (told_of (incoming (g.W.Wire.coming c.drive.new.wire) (g.W.Wire.idles c.drive.new.wire)) (g.W.Wire.sent c.drive.new.wire) (g.C.Clock.moments c.drive.new.clock))
    (g.W.Wire.last_bind c.drive.new.wire) (g.W.Wire.faults c.drive.new.wire)
    (g.K.Sink.written c.drive.new.sink) (g.K.Sink.faults c.drive.new.sink) in
    let found : Found c.in-Port._port before between = record {
      bound = c.in-Port.ensures.last_bind;
      told = told_same _ _ _ _ _ _ _ c.bind.ensures.coming c.bind.ensures.idles c.bind.ensures.sent;
      good = c.in-Port.ensures.cause;
    } in
    let broken =
    broken_off (task_of c.args.node_port c.args.no c.args.pid c.args.script.now.calls) before between after
    c.in-Port._port c.in-Ok.client c.peer_at.result found
    c.in-Ok.ensures.new c.peer_at.ensures
    c.in-NoMemory.ensures.drives c.in-NoMemory.ensures.counts.0 c.drive.ensures.bind in
    record { came = inr (TurnText broken); wire = broken.wire; sink = c.in-NoMemory.ensures.counts.1 }
