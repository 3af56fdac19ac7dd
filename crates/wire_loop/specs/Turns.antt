-- What one turn of serving does.
use Rattle.std.specs.Prelude.{◌≡◌, ℕ, ◌+◌, Bool, true, false, List, ◌++◌, Option, map}
use Rattle.cl_outside.specs.Clock.{Moments}
use Rattle.cl_outside.specs.Counts.{LastFailed, NoneFailed}
use Rattle.cl_outside.specs.Told.{Added}
use Rattle.cl_outside.specs.Wire.{Message}
use Rattle.cl_outside.specs.declared.faults.Faults.{Faults}
use Rattle.cl_outside.specs.declared.wire.Peer.{Peer}
use Rattle.node_core.specs.Keeping.{KeptNode, Tells}
use Rattle.node_core.specs.declared.outcome.Outcome.{Outcome}
use Rattle.node_model.specs.Handling.{latest}
use Rattle.node_model.specs.Nodes.{NodeState, items_read, node_answer}
use Rattle.wire_loop.specs.Outside.{ClockAnswers, Received, Datagram, NothingCame, ReceivingFailed}
use Rattle.wire_loop.specs.Serving.{Serving, answers, turn}
use Rattle.wire_loop.specs.Serves.{GaveOne, IsTold, Told, message_of}
use Rattle.wire_loop.specs.declared.serving.TurnEnd.{TurnEnd}
use Rattle.wire_loop.specs.declared.serving.TurnEnd.TheVariants as turn_end

-- the wire failed exactly once, in its last call, where the turn ended so, and else in no call
abbrev pub CountsTurn : Faults → Faults → TurnEnd → Type 0
CountsTurn before now (turn_end.Unsent outcome) = LastFailed before now
CountsTurn before now turn_end.Failed = LastFailed before now
CountsTurn before now other = NoneFailed before now

-- the outcome tells what the node says to a datagram of these bytes at this moment
abbrev pub TellsDatagram : NodeState → (moment : ℕ) → List ℕ → Outcome → Type 0
TellsDatagram node moment bytes outcome = (out : List ℕ) × Tells bytes (node_answer latest node moment bytes) outcome out

-- a turn that received so may end so: with what the node says to a datagram, and else with what the receive gave
abbrev pub IsTurnEnd : NodeState → (moment : ℕ) → Received Peer → TurnEnd → Type 0
IsTurnEnd node moment (Datagram bytes from) (turn_end.Served outcome) = TellsDatagram node moment bytes outcome
IsTurnEnd node moment (Datagram bytes from) (turn_end.Unsent outcome) = TellsDatagram node moment bytes outcome
IsTurnEnd node moment NothingCame turn_end.Idle = Unit {0}
IsTurnEnd node moment ReceivingFailed turn_end.Failed = Unit {0}
-- no other end
IsTurnEnd node moment received how = ⊥

-- the wire failed in this turn
abbrev pub fails : TurnEnd → Bool
fails (turn_end.Unsent outcome) = true
fails turn_end.Failed = true
fails other = false

-- the datagrams that were served, after a turn
abbrev pub served_by : TurnEnd → ℕ → ℕ
served_by (turn_end.Served outcome) n = n + 1
served_by other n = n

-- the turns in a row in which nothing came, after a turn
abbrev pub idles_by : TurnEnd → ℕ → ℕ
idles_by (turn_end.Served outcome) n = 0
idles_by turn_end.Idle n = n + 1
idles_by other n = n

-- a node that is served
abbrev pub serving : NodeState → (last : ℕ) → ClockAnswers → List Bool → List (Peer × List ℕ) → (served idles : ℕ) → Bool
    → Serving Peer
serving node last clock sendings sent served idles failed = record {
  node = node;
  last = last;
  clock = clock;
  sendings = sendings;
  sent = sent;
  served = served;
  idles = idles;
  failed = failed;
}

-- a datagram was answered: some sendings came of it, and whether each went through
pub record Answers (old new : NodeState) (before after : Option (List Message)) (from : Peer) (now : ℕ) (bytes : List ℕ)
    (how : TurnEnd) : Type 0 where
  pub sendings : List Bool
  pub sent : List (Peer × List ℕ)
  pub messages : Added (map message_of sent) before after
  pub holds : (clock : ClockAnswers) (more : List Bool) (others : List (Peer × List ℕ)) (served idles : ℕ)
      → answers latest from now (items_read bytes) (serving old now clock (sendings ++ more) others served idles false)
      ≡ serving new now clock more (others ++ sent) served idles (fails how)

-- a turn with what its receive gave is the definition's, over what the clock gave
pub record TurnsOn (received : Received Peer) (old new : KeptNode) (before after : Option (List Message))
    (moments moments' : Option Moments) (how : TurnEnd) : Type 0 where
  pub is_end : IsTurnEnd old.node new.last received how
  pub sendings : List Bool
  pub sent : List (Peer × List ℕ)
  pub messages : Added (map message_of sent) before after
  pub holds : (clock : ClockAnswers) → IsTold clock moments' → (first : ClockAnswers) × IsTold first moments
      × ((more : List Bool) (others : List (Peer × List ℕ)) (served idles : ℕ)
      → turn latest (serving old.node old.last first (sendings ++ more) others served idles false) received
      ≡ serving new.node new.last clock more (others ++ sent) (served_by how served) (idles_by how idles) (fails how))

-- the turn is the definition's, over what wire and clock gave
pub record Turns (old new : KeptNode) (before after : Told) (how : TurnEnd) : Type 0 where
  pub received : Received Peer
  pub gave : GaveOne received before.coming after.coming
  pub turns : TurnsOn received old new before.sent after.sent before.moments after.moments how
