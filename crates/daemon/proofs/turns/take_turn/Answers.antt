use Rattle.std.proofs.Common.{rules, ◌≡◌, [], ◌∷◌, length, take, refl, sym, ap, ◌∙◌, subst}
use Rattle.cl_types.specs.declared.limits.TheConstants.{FRAME_ROOM}
use Rattle.cl_outside.specs.Told.{Took}
use Rattle.wire_loop.specs.Outside.{Datagram}
use Rattle.wire_loop.specs.Serves.{Incoming}
use Rattle.wire_loop.specs.Turns.{TurnsOn}
use Rattle.wire_loop.proofs.RanLemmas.{incoming_same}
use Rattle.wire_loop.proofs.TurnLemmas.{failed_turn, idle_turn}
use Rattle.daemon.proofs.turns.take_turn.Goals as goal

pub returns-then-not-is_allowed-clause-turn : goal.returns-then-not-is_allowed-clause-turn
returns-then-not-is_allowed-clause-turn g c =
    let got = c.in-Got.ensures.coming in
    let room : length c.recv.new.buf ≡ FRAME_ROOM = search rules in (
      search rules,
      record {
        bytes = take c.in-Got.len c.recv.new.buf;
        gave = (got.0, got.1, got.2.bytes ∙ ap (λ n. take n got.0.bytes) room, got.2.from_peer, c.in-Got.ensures.idles);
        node = refl;
        sent = c.in-Got.ensures.sent;
        moments = refl;
      },
    )

pub returns-else-not-is_allowed-clause-turn : goal.returns-else-not-is_allowed-clause-turn
returns-else-not-is_allowed-clause-turn g c =
    let got = c.in-Got.ensures.coming in
    let room : length c.recv.new.buf ≡ FRAME_ROOM = search rules in
    let bytes = take c.in-Got.len c.recv.new.buf in (
      search rules,
      bytes,
      record {
        gave = (
          got.0,
          subst (λ o. Took (got.0 ∷ []) (g.W.Wire.coming c.args.wire.now) o)
              (ap (λ (o : Incoming). o.messages) (sym c.serve_datagram-end.ensures.coming)) got.1,
          got.2.bytes ∙ ap (λ n. take n got.0.bytes) room,
          got.2.from_peer,
          ap (λ (o : Incoming). o.idles) c.serve_datagram-end.ensures.coming ∙ c.in-Got.ensures.idles,
        );
        turns = subst
            (λ o. TurnsOn (Datagram bytes c.in-Got.from) c.args.node.now c.serve_datagram-end.new.node o
            (g.W.Wire.sent c.serve_datagram-end.new.wire) (g.C.Clock.moments c.args.clock.now)
            (g.C.Clock.moments c.serve_datagram-end.new.clock) c.serve_datagram-end.result)
            c.in-Got.ensures.sent c.serve_datagram-end.ensures.turns;
      },
    )

pub returns-in-Idle-clause-turn : goal.returns-in-Idle-clause-turn
returns-in-Idle-clause-turn g c = record {
  gave = (c.in-Idle.ensures.coming.0, c.in-Idle.ensures.coming.1, c.in-Idle.ensures.idles);
  turns = idle_turn c.args.node.now _ _ _ c.in-Idle.ensures.sent;
}

pub returns-in-Failed-clause-turn : goal.returns-in-Failed-clause-turn
returns-in-Failed-clause-turn g c = record {
  gave = incoming_same c.in-Failed.ensures.coming c.in-Failed.ensures.idles;
  turns = failed_turn c.args.node.now _ _ _ c.in-Failed.ensures.sent;
}
