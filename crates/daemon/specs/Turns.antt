-- What one turn does, by what its receive gave.
use Rattle.std.specs.Prelude.{◌≡◌, ℕ, false, true, List}
use Rattle.cl_outside.specs.declared.wire.Peer.{Peer}
use Rattle.node_core.specs.Keeping.{KeptNode}
use Rattle.wire_loop.specs.Outside.{Received, Datagram, NothingCame, ReceivingFailed}
use Rattle.wire_loop.specs.Serves.{GaveOne, Told}
use Rattle.wire_loop.specs.Turns.{TurnsOn}
use Rattle.wire_loop.specs.declared.serving.TurnEnd.{TurnEnd}
use Rattle.wire_loop.specs.declared.serving.TurnEnd.TheVariants as turn_end
use Rattle.daemon.specs.Networks.{allows}
use Rattle.daemon.specs.declared.networks.Network.{Network}
use Rattle.daemon.specs.declared.turns.Turn.{Turn}
use Rattle.daemon.specs.declared.turns.Turn.TheVariants.{Dropped, Served, Idle, Failed}

-- the receive gave this, and the turn is serving's
pub record ServesOn (received : Received Peer) (old new : KeptNode) (before after : Told) (how : TurnEnd) : Type 0 where
  pub gave : GaveOne received before.coming after.coming
  pub turns : TurnsOn received old new before.sent after.sent before.moments after.moments how

-- a datagram came from this peer, and nothing was done
pub record Drops (from : Peer) (old new : KeptNode) (before after : Told) : Type 0 where
  pub bytes : List ℕ
  pub gave : GaveOne (Datagram bytes from) before.coming after.coming
  pub node : new ≡ old
  pub sent : after.sent ≡ before.sent
  pub moments : after.moments ≡ before.moments

-- the turn with what it tells: a datagram is dropped where its peer isn't allowed, and else served
abbrev pub IsTurn : List Network → Turn → KeptNode → KeptNode → Told → Told → Type 0
IsTurn networks (Dropped from) old new before after = (allows networks from ≡ false) × Drops from old new before after
IsTurn networks (Served from how) old new before after =
    (allows networks from ≡ true) × (bytes : List ℕ) × ServesOn (Datagram bytes from) old new before after how
IsTurn networks Idle old new before after = ServesOn NothingCame old new before after turn_end.Idle
IsTurn networks Failed old new before after = ServesOn ReceivingFailed old new before after turn_end.Failed
