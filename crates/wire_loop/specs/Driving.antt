-- Driving a client through a script: what comes of what a wire gives, by a clock's answers.
use Rattle.std.specs.Prelude.{ℕ, zero, suc, ◌+◌, ◌-◌, ◌<◌, ◌≡◌, ◌==◌, Bool, true, false, ◌&&◌, ◌||◌, leb, nat_lt, List, [], ◌∷◌, ◌++◌, map, Option, Some, None, unwrap_or, slice_get, if◌then◌else◌}
use Rattle.cl_types.specs.declared.limits.TheConstants.{HELD_CALLS, STALL_TURNS}
use Rattle.cl_types.specs.declared.frame.IssueFault.{IssueFault}
use Rattle.cl_types.specs.declared.line.EndedCall.{EndedCall}
use Rattle.cl_types.specs.declared.schedule.CallText.{CallText}
use Rattle.frame_model.specs.Frames.{request_frame}
use Rattle.client_model.specs.Client.{ClientState, Outgoing, head_of, Polled, Sends, Idles, held, poll, after_issue, after_poll, handed_out, told}
use Rattle.client_model.specs.Issue.{issue_fault}
use Rattle.client_model.specs.Hearing.{hearing, after_hearing, is_reply}
use Rattle.cl_types.specs.Written.{call_of}
use Rattle.texts.specs.Text.{is_empty}
use Rattle.wire_loop.specs.Outside.{ClockAnswers, moment_of, after_answer, Received, Datagram, NothingCame, ReceivingFailed, Sendings, goes_through, after_sending}

-- what a driven client prints, by the line of the call in the script
pub data Printed : Type 0 where
  NotIssued : (line : ℕ) → (fault : IssueFault) → Printed
  Answered : (line : ℕ) → (ended : EndedCall) → Printed

-- a client that is driven: its script, what it is given, and what was sent and printed so far
pub record Driving (Peer : Type 0) : Type 0 where
  pub client : ClientState
  -- the calls that were not tried yet, with their lines
  pub script : List (ℕ × CallText)
  -- the lines of the issued calls, by the number of the call
  pub lines : List ℕ
  pub clock : ClockAnswers
  pub receives : List (Received Peer)
  pub sendings : Sendings
  -- the frames that went to the node
  pub sent : List (List ℕ)
  pub printed : List Printed
  -- how many turns in a row were not fruitful
  pub fruitless : ℕ
  -- the wire failed
  pub failed : Bool

-- the bytes of the frame in which the client sends a part
abbrev pub frame_of : ClientState → Outgoing → List ℕ
frame_of s o = request_frame (head_of s.client s.pid o) o.request

-- the line of call n, and 0 where no such call was issued
abbrev pub line_of : List ℕ → ℕ → ℕ
line_of lines n = unwrap_or (slice_get lines (n - 1)) 0

-- a client that was lent with a script, before the first turn
abbrev pub driving_of : {Peer : Type 0} → ClientState → List (ℕ × CallText) → ClockAnswers → List (Received Peer) → Sendings → Driving Peer
driving_of client script clock receives sendings = record {
  client = client;
  script = script;
  lines = [];
  clock = clock;
  receives = receives;
  sendings = sendings;
  sent = [];
  printed = [];
  fruitless = 0;
  failed = false;
}

module _ {Peer : Type 0} where
  -- ---- calls are issued while fewer than may be are held
  -- a call of the script is issued, or its fault is printed
  abbrev pub issued_or_not : ℕ × CallText → List (ℕ × CallText) → Option IssueFault → Driving Peer → Driving Peer
  issued_or_not k rest (Some fault) d = record d { script = rest; printed = d.printed ++ NotIssued k.0 fault ∷ [] }
  issued_or_not k rest None d = record d { client = after_issue (call_of k.1) d.client; script = rest; lines = d.lines ++ k.0 ∷ [] }

  -- the calls of the script are issued while fewer than 256 are held
  abbrev pub issues : List (ℕ × CallText) → Driving Peer → Driving Peer
  issues [] d = d
  issues (k ∷ rest) d = elim (nat_lt (held d.client) HELD_CALLS) [
    | false ↦ d
    | true ↦ issues rest (issued_or_not k rest (issue_fault d.client (call_of k.1)) d)
  ]

  -- ---- a poll, and a receiving where it was idle
  -- a frame goes to the node, or the wire fails
  abbrev pub with_frame : List ℕ → Bool → Driving Peer → Driving Peer
  with_frame bytes true d = record d { sent = d.sent ++ bytes ∷ []; sendings = after_sending d.sendings }
  with_frame bytes false d = record d { failed = true; sendings = after_sending d.sendings }

  -- these frames go to the node in order, none after a sending that failed
  abbrev pub sends : List (List ℕ) → Driving Peer → Driving Peer
  sends [] d = d
  sends (bytes ∷ rest) d = if d.failed then d else sends rest (with_frame bytes (goes_through d.sendings) d)

  -- the client hears these bytes
  abbrev pub hears : List ℕ → Driving Peer → Driving Peer
  hears bytes d = record d { client = after_hearing (hearing d.client bytes) d.client }

  -- the next of what the wire gives is received; after its list nothing comes
  abbrev pub receives_one : List (Received Peer) → Driving Peer → Driving Peer
  receives_one [] d = d
  receives_one (Datagram bytes from ∷ rest) d = hears bytes (record d { receives = rest })
  receives_one (NothingCame ∷ rest) d = record d { receives = rest }
  receives_one (ReceivingFailed ∷ rest) d = record d { receives = rest; failed = true }

  -- what the poll does is done: its frames are sent, and an idle poll receives once
  abbrev pub polls : ℕ → Polled → Driving Peer → Driving Peer
  polls t Idles d = receives_one d.receives (record d { client = after_poll t Idles d.client })
  polls t (Sends items) d = sends (map (frame_of d.client) items) (record d { client = after_poll t (Sends items) d.client })
  polls t other d = record d { client = after_poll t other d.client }

  -- ---- what ended is printed and handed out
  -- the calls that ended are printed in order and handed out
  abbrev pub prints : Driving Peer → Driving Peer
  prints d = record d {
    client = handed_out d.client;
    printed = d.printed ++ map (λ f. Answered (line_of d.lines f.number) (told d.client.client f)) d.client.ended;
  }

  -- ---- a turn
  -- the next of what the wire gives is a reply that the client takes
  abbrev pub takes_reply : ClientState → List (Received Peer) → Bool
  takes_reply s (Datagram bytes from ∷ rest) = is_reply (hearing s bytes)
  takes_reply s other = false

  -- the moment grew, the poll was not idle, or a reply was taken
  abbrev pub is_fruitful : ℕ → Polled → Driving Peer → Bool
  is_fruitful t Idles d = nat_lt d.client.last t || takes_reply (after_poll t Idles d.client) d.receives
  is_fruitful t other d = true

  -- the turn is counted as fruitful, which ends a row of others, or as one more that wasn't
  abbrev pub with_fruit : Bool → Driving Peer → Driving Peer
  with_fruit true d = record d { fruitless = 0 }
  with_fruit false d = record d { fruitless = d.fruitless + 1 }

  -- with its calls issued: the moment is taken, and the client polled
  abbrev pub turn_on : ℕ → Polled → Driving Peer → Driving Peer
  turn_on t p d = with_fruit (is_fruitful t p d) (prints (polls t p (record d { clock = after_answer d.clock })))

  -- one turn: calls are issued, the moment is taken, and the client is polled
  abbrev pub turn : Driving Peer → Driving Peer
  turn d =
      let ready : Driving Peer = issues d.script d in
      let t : ℕ = moment_of ready.clock ready.client.last in
      turn_on t (poll ready.client t) ready

  -- so many turns
  abbrev pub turns : ℕ → Driving Peer → Driving Peer
  turns zero d = d
  turns (suc n) d = turns n (turn d)

-- ---- the end
-- why a driving ends: every call ended, it stalled at a moment, or the wire failed
pub data DriveStop : Type 0 where
  AllEnded : DriveStop
  Stalled : (moment : ℕ) → DriveStop
  WireFailed : DriveStop

-- before a turn: the wire failed, no call is left, or too many turns in a row were not fruitful
abbrev pub stop_at : {Peer : Type 0} → Driving Peer → Option DriveStop
stop_at d =
    if d.failed then Some WireFailed
    else if is_empty d.script && held d.client == 0 then Some AllEnded
    else if leb STALL_TURNS d.fruitless then Some (Stalled d.client.last)
    else None

-- from d the turns go on up to the first stop, which is this one, at e
pub record DrivesTo {Peer : Type 0} (d e : Driving Peer) (stop : DriveStop) : Type 0 where
  pub count : ℕ
  pub after : e ≡ turns count d
  pub stops : stop_at e ≡ Some stop
  pub goes_on : (k : ℕ) → k < count → stop_at (turns k d) ≡ None
