-- Serving a node: what comes of what a wire gives, by a clock's answers.
use Rattle.std.specs.Prelude.{◌≡◌, ℕ, ◌+◌, Bool, true, false, leb, List, [], ◌∷◌, ◌++◌, ◌||◌, if◌then◌else◌}
use Rattle.frame_model.specs.Frames.{Item, reply_frame, kind_of}
use Rattle.node_model.specs.Nodes.{NodeState, NodeStep, Record, ItemAnswer, Gives, IsBusy, step_item, items_read}
use Rattle.wire_loop.specs.Outside.{ClockAnswers, moment_of, after_answer, Received, Datagram, NothingCame, ReceivingFailed, Sendings, goes_through, after_sending}

-- a node that is served: what it is given, and what was sent and counted so far
pub record Serving (Peer : Type 0) : Type 0 where
  pub node : NodeState
  -- the latest moment that the node was given
  pub last : ℕ
  pub clock : ClockAnswers
  pub sendings : Sendings
  -- what was sent, and to where
  pub sent : List (Peer × List ℕ)
  -- the datagrams whose turn ended without a fault, and the turns in a row in which nothing came
  pub served : ℕ
  pub idles : ℕ
  -- the wire failed
  pub failed : Bool

-- a node that was lent, before the first turn
abbrev pub serving_of : {Peer : Type 0} → NodeState → (last : ℕ) → ClockAnswers → Sendings → Serving Peer
serving_of node last clock sendings =
    record { node = node; last = last; clock = clock; sendings = sendings; sent = []; served = 0; idles = 0; failed = false }

-- ---- the items of a datagram
-- a reply goes out, or the wire fails
abbrev pub with_reply : {Peer : Type 0} → Peer → List ℕ → Bool → Serving Peer → Serving Peer
with_reply to bytes true s = record s { sent = s.sent ++ (to, bytes) ∷ []; sendings = after_sending s.sendings }
with_reply to bytes false s = record s { failed = true; sendings = after_sending s.sendings }

-- what the node says to an item goes back: a reply is sent, and a busy node sends nothing
abbrev pub said_back : {Peer : Type 0} → Peer → Item → ItemAnswer → Serving Peer → Serving Peer
said_back to i (Gives how reply) s = with_reply to (reply_frame i.head (kind_of i.request) reply) (goes_through s.sendings) s
said_back to i (IsBusy oldest now) s = s

-- ---- turns
-- the moment is the latest one, and the clock has answered
abbrev pub at_moment : {Peer : Type 0} → ℕ → Serving Peer → Serving Peer
at_moment t s = record s { last = t; clock = after_answer s.clock }

-- one datagram more was served, where the wire didn't fail
abbrev pub counted : {Peer : Type 0} → Serving Peer → Serving Peer
counted s = if s.failed then s else record s { served = s.served + 1; idles = 0 }

-- the wire failed, so many datagrams were served, or nothing came in so many turns in a row
abbrev pub is_over : {Peer : Type 0} → (frames idles : ℕ) → Serving Peer → Bool
is_over frames idles s = s.failed || leb frames s.served || leb idles s.idles

-- ---- the turns of a node, by which records it keeps: the latest, or all
module _ (keep : ℕ → List Record → List Record) where
  -- each item is answered, and its reply sent before the next; after a sending that failed no more are
  abbrev pub answers : {Peer : Type 0} → Peer → ℕ → List Item → Serving Peer → Serving Peer
  answers from t [] s = s
  answers from t (i ∷ is) s =
      if s.failed then s
      else (let step : NodeStep = step_item keep s.node t i in answers from t is (said_back from i step.said (record s { node = step.node })))

  -- one turn: it receives once, and a datagram is given to the node
  abbrev pub turn : {Peer : Type 0} → Serving Peer → Received Peer → Serving Peer
  turn s (Datagram bytes from) =
      let t : ℕ = moment_of s.clock s.last in counted (answers from t (items_read bytes) (at_moment t s))
  turn s NothingCame = record s { idles = s.idles + 1 }
  turn s ReceivingFailed = record s { failed = true }

  -- the turns over what the wire gives; after its list nothing comes
  abbrev pub served_over : {Peer : Type 0} → (frames idles : ℕ) → Serving Peer → List (Received Peer) → Serving Peer
  served_over frames idles s [] = elim (is_over frames idles s) [ true ↦ s | false ↦ record s { idles = idles } ]
  served_over frames idles s (r ∷ rs) = elim (is_over frames idles s) [ true ↦ s | false ↦ served_over frames idles (turn s r) rs ]

  -- the turns that were made, one for each receiving and no other: the state is never one at which serving ends before the
  -- last, and is one at the last
  abbrev pub Turned : {Peer : Type 0} → (frames idles : ℕ) → Serving Peer → List (Received Peer) → Serving Peer → Type 0
  Turned frames idles s [] e = (e ≡ s) × (is_over frames idles s ≡ true)
  Turned frames idles s (r ∷ rs) e = (is_over frames idles s ≡ false) × Turned frames idles (turn s r) rs e

-- ---- the end
-- the end of a run of serving
pub data ServeStop : Type 0 where
  WireFailed : ServeStop
  FramesServed : ServeStop
  IdleTooLong : ServeStop

-- the end that holds, the wire's failing before the count of datagrams, and that before idleness
abbrev pub serve_stop : {Peer : Type 0} → (frames : ℕ) → Serving Peer → ServeStop
serve_stop frames s = if s.failed then WireFailed else if leb frames s.served then FramesServed else IdleTooLong
