-- What the parts of a world tell one another on the way to a step. No public clause cites this module.
use Rattle.std.specs.Prelude.{ℕ, ◌+◌, ◌≡◌, ◌≤◌, List, [], ◌∷◌, take, Option, Some, None, if◌then◌else◌, option_map}
use Rattle.cl_types.specs.declared.frame.End.TheVariants as to
use Rattle.cl_types.specs.declared.frame.Head.{Head}
use Rattle.cl_types.specs.declared.frame.How.{How}
use Rattle.cl_types.specs.declared.frame.How.TheVariants as how
use Rattle.cl_types.specs.declared.frame.IssueFault.{IssueFault}
use Rattle.cl_types.specs.declared.limits.TheConstants.{FRAME_ROOM, REPLY_BYTES}
use Rattle.cl_types.specs.declared.line.Did.{Did}
use Rattle.cl_types.specs.declared.line.Did.TheVariants as did
use Rattle.cl_types.specs.declared.line.Entry.{Entry}
use Rattle.cl_types.specs.declared.numbers.ClientNo.{ClientNo}
use Rattle.cl_types.specs.declared.reply.Part.{Part}
use Rattle.cl_types.specs.declared.reply.Reply.{Reply}
use Rattle.cl_types.specs.declared.request.Request.{Request}
use Rattle.trace.specs.Account.{with_entry}
use Rattle.client_model.specs.Client.{ClientState, Polled, GivesUp, EndsFence, Sends, Idles, after_poll, after_reply, end_told, handed_out, head_of}
use Rattle.frame_model.specs.Frames.{Item, head_in, kind_of, reply_fault, reply_frame, reply_in, request_frame, request_in, status_in}
use Rattle.client_model.specs.Hearing.{Hearing, HearsBad, HearsOther, HearsLate, HearsUnfit, HearsReply}
use Rattle.node_model.specs.Nodes.{ItemAnswer as NodeSaid, Gives, IsBusy, NodeAnswer, Refuses, Says}
use Rattle.link_sim.specs.Got.{Found, Live, Expired, Absent}
use Rattle.node_core.specs.declared.outcome.Outcome.{Outcome}
use Rattle.node_core.specs.declared.outcome.Outcome.TheVariants as outcome
use Rattle.world.specs.declared.note.Note.{Note}
use Rattle.world.specs.declared.ask.Answered.{Answered}
use Rattle.world.specs.declared.ask.Made.{Made}
use Rattle.world.specs.declared.ask.Made.TheVariants as made
use Rattle.world.specs.declared.ask.FrameAnswer.{FrameAnswer}
use Rattle.world.specs.declared.ask.FrameAnswer.TheVariants as said
use Rattle.world.specs.declared.listen.Listened.{Listened}
use Rattle.world.specs.declared.listen.Listened.TheVariants as listened
use Rattle.world.specs.declared.turn.ClientTurn.{ClientTurn}
use Rattle.world.specs.declared.turn.ClientTurn.TheVariants as turned
use Rattle.world.specs.Worlds.{WorldState, Stepped, next_frame, sends_frame, shows}

-- ---- what only shows
-- the bytes of frame k, by what stands under its number at moment 0, when no frame is old
abbrev pub shown_found : ℕ → Found → Did
shown_found k (Live bytes end line) = did.Shown k bytes
shown_found k (Expired sent) = did.ShownAbsent k
shown_found k Absent = did.ShownAbsent k

-- ---- a call
-- what is told of a call that was judged
abbrev pub issue_did : ClientState → Option IssueFault → Did
issue_did s (Some fault) = did.NotIssued fault
issue_did s None = did.Issued s.client (record { 0 = s.issued + 1 })

-- ---- a poll
-- what a poll at moment t did is told so, the frame that it sends at the start of the buffer
abbrev pub IsTurned : ClientState → ℕ → Polled → ClientTurn → List ℕ → Type 0
IsTurned s t (GivesUp f) (turned.Quiet line) out =
    (line.did ≡ did.GaveUp s.client f.part) × (line.ended ≡ end_told s.client (after_poll t (GivesUp f) s).ended)
IsTurned s t (EndsFence n) (turned.Quiet line) out =
    (line.did ≡ did.FenceEnded) × (line.ended ≡ end_told s.client (after_poll t (EndsFence n) s).ended)
IsTurned s t (Sends (o ∷ [])) (turned.Sends len part id orig again) out =
    (part ≡ o.part) × (id ≡ o.id) × (orig ≡ o.orig) × (again ≡ o.again)
    × (take len out ≡ request_frame (head_of s.client s.pid o) o.request)
IsTurned s t Idles (turned.Quiet line) out = (line.did ≡ did.Idle) × (line.ended ≡ None)
-- nothing else is told
IsTurned s t polled told out = ⊥

-- a frame that is sent is short enough for the buffer
abbrev pub IsShortTurn : ClientTurn → Type 0
IsShortTurn (turned.Sends len part id orig again) = len ≤ FRAME_ROOM
IsShortTurn other = Unit {0}

-- the step of a poll that told this, in the world in which the client stands as it does after it
abbrev pub turned_step : WorldState → ℕ → ClientNo → ClientTurn → List ℕ → Stepped
turned_step w l c (turned.Quiet line) out = record { did = line.did; ended = line.ended; world = w }
turned_step w l c (turned.Sends len part id orig again) out =
    shows (sends_frame w l to.Node (take len out) (record { part = part; looked = None }))
    (if again then did.Again (next_frame w) c part id orig else did.Sent (next_frame w) c part id)

-- ---- a frame at the node
-- what is kept of a request that was answered so
abbrev pub made_in : How → Request → Reply → Made
made_in how.Executed request reply = made.Executed request reply
made_in how.Repeated request reply = made.Repeated
made_in how.Looked request reply = made.Looked request

-- how the node came to the reply
abbrev pub how_in : Made → How
how_in (made.Executed request reply) = how.Executed
how_in made.Repeated = how.Repeated
how_in (made.Looked request) = how.Looked

-- the request of a look
abbrev pub looked_in : Made → Option Request
looked_in (made.Looked request) = Some request
looked_in other = None

-- the history after it: an execution is entered at once
abbrev pub entered_in : Made → (l : ℕ) → Head → Part → List Entry → List Entry
entered_in (made.Executed request reply) l head part h =
    with_entry (record {
      line = l;
      position = 0;
      client = head.client;
      pid = head.pid;
      part = part;
      request = request;
      reply = reply;
    }) h
entered_in other l head part h = h

-- what the node said to the item is told so, the reply's frame at the start of the buffer
abbrev pub IsSaidTo : Item → NodeSaid → FrameAnswer → List ℕ → Type 0
IsSaidTo item (IsBusy oldest at) (said.Busy client since now) out = (client ≡ item.head.client) × (since ≡ oldest) × (now ≡ at)
IsSaidTo item (Gives how reply) (said.Answers a) out =
    (a.head ≡ item.head) × (a.made ≡ made_in how item.request reply) × (a.status ≡ status_in reply)
    × (take a.len out ≡ reply_frame item.head (kind_of item.request) reply)
-- nothing else is told
IsSaidTo item x told out = ⊥

-- what the node answered to the bytes is told so
abbrev pub IsSaid : List ℕ → NodeAnswer → FrameAnswer → List ℕ → Type 0
IsSaid bytes (Refuses fault) (said.Bad told) out = told ≡ fault
IsSaid bytes (Says (x ∷ [])) told out = IsSaidTo (record { head = head_in bytes; request = request_in bytes }) x told out
-- nothing else is told
IsSaid bytes answer told out = ⊥

-- a reply's frame is short enough for the buffer
abbrev pub IsShort : Outcome → Type 0
IsShort (outcome.Replied len how status) = len ≤ REPLY_BYTES
IsShort other = Unit {0}

-- the same of what the node said
abbrev pub IsShortSaid : FrameAnswer → Type 0
IsShortSaid (said.Answers a) = a.len ≤ REPLY_BYTES
IsShortSaid other = Unit {0}

-- the reply to an execution can be read in its frame
abbrev pub IsReadable : Outcome → List ℕ → Type 0
IsReadable (outcome.Replied len how.Executed status) out = reply_fault (take len out) ≡ None
IsReadable other out = Unit {0}

-- the step of an answer of the node
abbrev pub answered_step : WorldState → (l k : ℕ) → Part → Answered → List ℕ → Stepped
answered_step w l k part a out =
    let after : WorldState = record w { history = entered_in a.made l a.head part w.history } in
    let note : Note = record { part = part; looked = looked_in a.made } in
    shows
    (sends_frame after l (to.Client a.head.client) (take a.len out) note)
    (did.Handled k a.head.client part (how_in a.made) a.status (next_frame w))

-- the step of what the node said to frame k, in the world with the node after it
abbrev pub said_step : WorldState → (l k : ℕ) → Part → FrameAnswer → List ℕ → Stepped
said_step w l k part (said.Bad fault) out = shows w (did.Bad fault)
said_step w l k part (said.Busy client oldest at) out = shows w (did.Busy k client part oldest at)
said_step w l k part (said.Answers a) out = answered_step w l k part a out

-- ---- a frame at its client
-- the client after it heard so and handed out the call that ended
abbrev pub state_heard : ClientState → Hearing → ClientState
state_heard s (HearsReply f reply) = handed_out (after_reply f.part reply s)
state_heard s other = s

-- the entry of a look whose reply was taken, by the line of the look
abbrev pub look_entry : ℕ → List ℕ → Note → Option Entry
look_entry line bytes note =
    option_map (λ r. record {
      line = line;
      position = 0;
      client = (head_in bytes).client;
      pid = (head_in bytes).pid;
      part = note.part;
      request = r;
      reply = reply_in bytes;
    }) note.looked

-- the history with the entry, where there is one
abbrev pub with_look : Option Entry → List Entry → List Entry
with_look None h = h
with_look (Some e) h = with_entry e h

-- what the client heard in the bytes is told so
abbrev pub IsListened : ClientState → List ℕ → Note → ℕ → Hearing → Listened → Type 0
IsListened s bytes note line (HearsBad fault) (listened.Bad told) = told ≡ fault
IsListened s bytes note line (HearsOther client) listened.Other = Unit {0}
IsListened s bytes note line (HearsLate orig) (listened.Late told) = told ≡ orig
IsListened s bytes note line (HearsUnfit orig) (listened.Late told) = told ≡ orig
IsListened s bytes note line (HearsReply f reply) (listened.Took t) =
    (t.part ≡ f.part) × (t.ended ≡ end_told s.client (after_reply f.part reply s).ended) × (t.entry ≡ look_entry line bytes note)
-- nothing else is told
IsListened s bytes note line heard told = ⊥

-- the step of what a client heard in frame k, in the world in which it stands as it does after it
abbrev pub listened_step : WorldState → (k : ℕ) → ClientNo → Listened → Stepped
listened_step w k c (listened.Bad fault) = shows w (did.Bad fault)
listened_step w k c listened.Other = shows w did.Idle
listened_step w k c (listened.Late orig) = shows w (did.Late k orig)
listened_step w k c (listened.Took t) = record {
  did = did.Took k c t.part;
  ended = t.ended;
  world = record w { history = with_look t.entry w.history };
}
