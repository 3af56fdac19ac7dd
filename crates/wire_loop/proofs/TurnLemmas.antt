-- One turn, by what its receive gave.
use Rattle.std.proofs.Common.{◌≡◌, ℕ, ◌+◌, Bool, true, false, List, [], Option, refl, sym, ap, ◌∙◌}
use Rattle.std.proofs.lemmas.List.{append-nil}
use Rattle.cl_outside.specs.Clock.{Moments}
use Rattle.cl_outside.specs.Wire.{Message}
use Rattle.cl_outside.specs.declared.wire.Peer.{Peer}
use Rattle.frame_model.specs.Frames.{Item}
use Rattle.node_core.specs.Keeping.{KeptNode}
use Rattle.node_model.specs.Handling.{latest}
use Rattle.node_model.specs.Nodes.{NodeState, items_read}
use Rattle.wire_loop.specs.Outside.{ClockAnswers, Datagram, NothingCame, ReceivingFailed, moment_of, after_answer}
use Rattle.wire_loop.specs.Serving.{answers, counted, turn}
use Rattle.wire_loop.specs.Turns.{IsTurnEnd, TurnsOn, fails, idles_by, served_by, serving}
use Rattle.wire_loop.proofs.RanLemmas.{added_same}
use Rattle.wire_loop.specs.declared.serving.TurnEnd.{TurnEnd}
use Rattle.wire_loop.specs.declared.serving.TurnEnd.TheVariants as turn_end

-- a turn in which a datagram came is counted by how it ended
counted_by : (old node : NodeState) (last now : ℕ) (bytes : List ℕ) (from : Peer) (clock : ClockAnswers) (more : List Bool)
    (sent : List (Peer × List ℕ)) (served idles : ℕ) (how : TurnEnd) → IsTurnEnd old now (Datagram bytes from) how
    → counted (serving node last clock more sent served idles (fails how))
    ≡ serving node last clock more sent (served_by how served) (idles_by how idles) (fails how)
counted_by old node last now bytes from clock more sent served idles (turn_end.Served outcome) came = refl
counted_by old node last now bytes from clock more sent served idles (turn_end.Unsent outcome) came = refl
counted_by old node last now bytes from clock more sent served idles turn_end.Failed came = absurd came
counted_by old node last now bytes from clock more sent served idles turn_end.Idle came = absurd came

-- the turn is what comes of the datagram's items at the moment of the turn, counted
pub turned : (old new : NodeState) (last now : ℕ) (from : Peer) (bytes : List ℕ) (first clock : ClockAnswers)
    (sendings more : List Bool) (others sent : List (Peer × List ℕ)) (served idles : ℕ) (how : TurnEnd)
    → IsTurnEnd old now (Datagram bytes from) how → moment_of first last ≡ now → after_answer first ≡ clock
    → answers latest from now (items_read bytes) (serving old now clock sendings others served idles false)
    ≡ serving new now clock more sent served idles (fails how)
    → turn latest (serving old last first sendings others served idles false) (Datagram bytes from)
    ≡ serving new now clock more sent (served_by how served) (idles_by how idles) (fails how)
turned old new last now from bytes first clock sendings more others sent served idles how came at after holds =
    let items : List Item = items_read bytes in
    (λ j. counted (answers latest from (at j) items (serving old (at j) (after j) sendings others served idles false)))
    ∙ ap counted holds
    ∙ counted_by old new now now bytes from clock more sent served idles how came

module _ (node : KeptNode) (before after : Option (List Message)) (moments : Option Moments) where
  -- a turn in which nothing came
  pub idle_turn : after ≡ before → TurnsOn NothingCame node node before after moments moments turn_end.Idle
  idle_turn same = record {
    is_end = tt;
    sendings = [];
    sent = [];
    messages = added_same before after same;
    holds = λ clock is. (
      clock,
      is,
      λ more others served idles j. serving node.node node.last clock more (sym (append-nil others) j) served (idles + 1) false,
    );
  }

  -- a turn in which the receive failed
  pub failed_turn : after ≡ before → TurnsOn ReceivingFailed node node before after moments moments turn_end.Failed
  failed_turn same = record {
    is_end = tt;
    sendings = [];
    sent = [];
    messages = added_same before after same;
    holds = λ clock is. (
      clock,
      is,
      λ more others served idles j. serving node.node node.last clock more (sym (append-nil others) j) served idles true,
    );
  }
