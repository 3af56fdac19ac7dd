-- Serving by the node that keeps the latest replies, and by the ideal node, which keeps all.
use Rattle.std.specs.Prelude.{◌≡◌, ℕ, true, false, List, [], ◌∷◌, ◌++◌}
use Rattle.cl_outside.specs.declared.wire.Peer.{Peer}
use Rattle.node_model.specs.Handling.{latest}
use Rattle.node_model.specs.Nodes.{NodeState, Record, IsSetUp, keep_every}
use Rattle.node_laws.specs.Span.{Given, KeepSpan}
use Rattle.wire_loop.specs.Outside.{ClockAnswers, Received, Datagram, Sendings, moment_of}
use Rattle.wire_loop.specs.Serving.{Serving, Turned, is_over, served_over, serving_of, turn}

-- what the node is given in a turn: a datagram that came, at the moment of the turn
abbrev pub given_in : Serving Peer → Received Peer → List Given
given_in s (Datagram bytes from) = (moment_of s.clock s.last, bytes) ∷ []
given_in s other = []

-- what the node is given in the turns over what the wire gives
abbrev pub given_over : (frames idles : ℕ) → Serving Peer → List (Received Peer) → List Given
given_over frames idles s [] = []
given_over frames idles s (r ∷ rs) =
    elim (is_over frames idles s) [ true ↦ [] | false ↦ given_in s r ++ given_over frames idles (turn latest s r) rs ]

-- the same in all but their nodes: what was sent and to where, what was counted, and what is still to come
abbrev pub AreAlike : Serving Peer → Serving Peer → Type 0
AreAlike a b = record b { node = a.node } ≡ a

-- where each recorded name comes again less than the span after it was recorded, the node that keeps the latest replies
-- serves as the ideal node does that starts from its flat state and records
abbrev pub LawOfServing : Type 0
LawOfServing =
    (frames idles : ℕ) (node : NodeState) (last : ℕ) (clock : ClockAnswers) (sendings : Sendings) (receives : List
    (Received Peer))
    → IsSetUp node last
    → KeepSpan node (given_over frames idles (serving_of node last clock sendings) receives)
    → AreAlike
    (served_over latest frames idles (serving_of node last clock sendings) receives)
    (served_over keep_every frames idles (serving_of node last clock sendings) receives)

-- the turns that were made, one for each receiving, are the run over what the receivings gave, whichever records a node keeps
abbrev pub TurnsAreServing : Type 0
TurnsAreServing =
    (keep : ℕ → List Record → List Record) (frames idles : ℕ) (s at_end : Serving Peer) (receives : List (Received Peer))
    → Turned keep frames idles s receives at_end → at_end ≡ served_over keep frames idles s receives
