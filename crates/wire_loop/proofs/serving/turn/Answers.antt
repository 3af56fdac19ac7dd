use Rattle.std.proofs.Common.{rules, ◌≡◌, [], ◌∷◌, length, take, sym, ap, ◌∙◌, subst}
use Rattle.cl_types.specs.declared.limits.TheConstants.{FRAME_ROOM}
use Rattle.cl_outside.specs.Told.{Took}
use Rattle.wire_loop.specs.Outside.{Datagram, NothingCame, ReceivingFailed}
use Rattle.wire_loop.specs.Serves.{Incoming}
use Rattle.wire_loop.specs.Turns.{TurnsOn}
use Rattle.wire_loop.proofs.RanLemmas.{incoming_same}
use Rattle.wire_loop.proofs.TurnLemmas.{failed_turn, idle_turn}
use Rattle.wire_loop.proofs.serving.turn.Goals as goal

pub returns-in-Got-clause-turns : goal.returns-in-Got-clause-turns
returns-in-Got-clause-turns g c =
    let got = c.in-Got.ensures.coming in
    let room : length c.recv.new.buf ≡ FRAME_ROOM = search rules in
    let bytes = take c.in-Got.len c.recv.new.buf in record {
      received = Datagram bytes c.in-Got.from;
      gave = (
        got.0,
        subst (λ o. Took (got.0 ∷ []) (g.W.Wire.coming c.args.wire.now) o)
            (ap (λ (o : Incoming). o.messages) (sym c.serve_datagram.ensures.coming)) got.1,
        got.2.bytes ∙ ap (λ n. take n got.0.bytes) room,
        got.2.from_peer,
        ap (λ (o : Incoming). o.idles) c.serve_datagram.ensures.coming ∙ c.in-Got.ensures.idles,
      );
      turns = subst
          (λ o. TurnsOn (Datagram bytes c.in-Got.from) c.args.node.now c.serve_datagram.new.node o
          (g.W.Wire.sent c.serve_datagram.new.wire) (g.C.Clock.moments c.args.clock.now)
          (g.C.Clock.moments c.serve_datagram.new.clock) c.serve_datagram.result)
          c.in-Got.ensures.sent c.serve_datagram.ensures.turns;
    }

pub returns-in-Idle-clause-turns : goal.returns-in-Idle-clause-turns
returns-in-Idle-clause-turns g c = record {
  received = NothingCame;
  gave = (c.in-Idle.ensures.coming.0, c.in-Idle.ensures.coming.1, c.in-Idle.ensures.idles);
  turns = idle_turn c.args.node.now _ _ _ c.in-Idle.ensures.sent;
}

pub returns-in-Failed-clause-turns : goal.returns-in-Failed-clause-turns
returns-in-Failed-clause-turns g c = record {
  received = ReceivingFailed;
  gave = incoming_same c.in-Failed.ensures.coming c.in-Failed.ensures.idles;
  turns = failed_turn c.args.node.now _ _ _ c.in-Failed.ensures.sent;
}
