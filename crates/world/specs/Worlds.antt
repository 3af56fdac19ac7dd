-- A whole world as one machine: its node, its clients, its link with a note on each frame, and the history.
use Rattle.std.specs.Prelude.{ℕ, ◌+◌, List, [], ◌∷◌, ◌++◌, length, map, Option, Some, None, if◌then◌else◌, find, slice_get, zero, suc}
use Rattle.cl_types.specs.Bytes.{bytes_at}
use Rattle.cl_types.specs.declared.call.Call.{Call}
use Rattle.cl_types.specs.declared.frame.BadFrame.{BadFrame}
use Rattle.cl_types.specs.declared.frame.End.{End}
use Rattle.cl_types.specs.declared.frame.End.TheVariants as to
use Rattle.cl_types.specs.declared.frame.How.{How}
use Rattle.cl_types.specs.declared.frame.How.TheVariants.{Executed, Looked}
use Rattle.cl_types.specs.declared.frame.IssueFault.{IssueFault}
use Rattle.cl_types.specs.declared.line.Did.{Did}
use Rattle.cl_types.specs.declared.line.Did.TheVariants as did
use Rattle.cl_types.specs.declared.line.EndedCall.{EndedCall}
use Rattle.cl_types.specs.declared.line.Entry.{Entry}
use Rattle.cl_types.specs.declared.numbers.Addr.{Addr}
use Rattle.cl_types.specs.declared.numbers.ClientNo.{ClientNo}
use Rattle.cl_types.specs.declared.reply.Part.{Part}
use Rattle.cl_types.specs.declared.reply.Reply.{Reply}
use Rattle.cl_types.specs.declared.request.Request.{Request}
use Rattle.cl_types.specs.declared.schedule.Event.{Event}
use Rattle.cl_types.specs.declared.schedule.Event.TheVariants as event
use Rattle.link_sim.specs.Got.{Found, Live, Expired, Absent, found_at}
use Rattle.link_sim.specs.LinkFrames.{LinkFrames, SentFrame, frame_at, next_handed, next_number, sent_on}
use Rattle.trace.specs.Account.{with_entry}
use Rattle.client_model.specs.Client.{ClientState, Polled, GivesUp, EndsFence, Sends, after_issue, after_poll, after_reply, end_told, handed_out, head_of, poll}
use Rattle.cl_types.specs.Parts.{same_client}
use Rattle.cl_types.specs.Written.{call_of, expanded}
use Rattle.trace.specs.Events.{sent_text}
use Rattle.frame_model.specs.Frames.{Item, head_in, kind_of, reply_fault, reply_frame, reply_in, request_fault, request_frame, request_in, status_in}
use Rattle.node_model.specs.Handling.{latest}
use Rattle.client_model.specs.Hearing.{Hearing, HearsBad, HearsOther, HearsLate, HearsUnfit, HearsReply, hearing}
use Rattle.client_model.specs.Issue.{issue_fault}
use Rattle.node_model.specs.Nodes.{NodeState, NodeStep, ItemAnswer, Gives, IsBusy, step_item}
use Rattle.cl_types.specs.Pages.{offset_of, page_of}
use Rattle.flat_model.specs.State.{Page, bytes_of, page_at, used}
use Rattle.world.specs.declared.note.Note.{Note}

-- ---- what a world is
-- a world: the moment, its node and clients, the frames that were sent with a note on each, and the history
pub record WorldState : Type 0 where
  pub moment : ℕ
  pub node : NodeState
  -- in the order of the configuration
  pub clients : List ClientState
  pub link : LinkFrames
  pub notes : List Note
  -- in the order of line and position
  pub history : List Entry

-- the client of this number, where there is one
abbrev pub client_in : List ClientState → ClientNo → Option ClientState
client_in clients c = find (λ s. same_client c s.client) clients

-- the clients with this state in place of that of its number
abbrev pub with_client : ClientState → List ClientState → List ClientState
with_client new clients = map (λ s. if same_client new.client s.client then new else s) clients

-- ---- what an event does
-- what an event did, the call that ended by it, and the world after it
pub record Stepped : Type 0 where
  pub did : Did
  pub ended : Option EndedCall
  pub world : WorldState

-- it did this, and no call ended
abbrev pub shows : WorldState → Did → Stepped
shows w text = record { did = text; ended = None; world = w }

-- the world in which a client stands so, and nothing waits to be handed out
abbrev pub client_stands : WorldState → ClientState → WorldState
client_stands w s = record w { clients = with_client (handed_out s) w.clients }

-- the world in which a frame was sent now on line l, with its note
abbrev pub sends_frame : WorldState → ℕ → End → List ℕ → Note → WorldState
sends_frame w l end bytes note =
    record w {
      link = sent_on w.link (record { moment = w.moment; end = end; bytes = bytes; line = l });
      notes = w.notes ++ note ∷ [];
    }

-- the number of the frame that is sent next
abbrev pub next_frame : WorldState → ℕ
next_frame w = length w.link.frames + 1

-- goes on with the client of this number; no event names another
abbrev pub with_found : WorldState → Option ClientState → (ClientState → Stepped) → Stepped
with_found w None go = shows w did.Idle
with_found w (Some s) go = go s

-- ---- a call and a poll
-- a call was judged: it is issued where there is no fault
abbrev pub call_judged : WorldState → ClientState → Call → Option IssueFault → Stepped
call_judged w s k (Some fault) = shows w (did.NotIssued fault)
call_judged w s k None =
    shows (record w { clients = with_client (after_issue k s) w.clients })
    (did.Issued s.client (record { 0 = s.issued + 1 }))

-- a poll of a client did this
abbrev pub polled : WorldState → ℕ → ClientState → Polled → Stepped
polled w l s (GivesUp f) =
    let after : ClientState = after_poll w.moment (GivesUp f) s in
    record { did = did.GaveUp s.client f.part; ended = end_told s.client after.ended; world = client_stands w after }
polled w l s (EndsFence n) =
    let after : ClientState = after_poll w.moment (EndsFence n) s in
    record { did = did.FenceEnded; ended = end_told s.client after.ended; world = client_stands w after }
polled w l s (Sends (o ∷ items)) =
    let after : WorldState = client_stands w (after_poll w.moment (Sends (o ∷ items)) s) in
    let bytes : List ℕ = request_frame (head_of s.client s.pid o) o.request in
    shows (sends_frame after l to.Node bytes (record { part = o.part; looked = None })) (sent_text s.client (next_frame w) o)
polled w l s other = shows (client_stands w (after_poll w.moment other s)) did.Idle

-- ---- a frame at the node
-- the request of a look, which its reply's note keeps
abbrev pub looked_by : How → Request → Option Request
looked_by Looked r = Some r
looked_by other r = None

-- an entry of the item of frame k, which carries this part, on line l
abbrev pub entry_of : ℕ → Part → Item → Reply → Entry
entry_of l part i reply = record {
  line = l;
  position = 0;
  client = i.head.client;
  pid = i.head.pid;
  part = part;
  request = i.request;
  reply = reply;
}

-- the history after an item was answered so: an execution is entered at once
abbrev pub entered : How → Entry → List Entry → List Entry
entered Executed e h = with_entry e h
entered other e h = h

-- the node said this to the item of frame k, which carries this part
abbrev pub node_said : WorldState → (l k : ℕ) → Part → Item → ItemAnswer → Stepped
node_said w l k part i (IsBusy oldest at) = shows w (did.Busy k i.head.client part oldest at)
node_said w l k part i (Gives how reply) =
    let after : WorldState = record w { history = entered how (entry_of l part i reply) w.history } in
    let bytes : List ℕ = reply_frame i.head (kind_of i.request) reply in
    shows
    (sends_frame after l (to.Client i.head.client) bytes (record { part = part; looked = looked_by how i.request }))
    (did.Handled k i.head.client part how (status_in reply) (next_frame w))

-- the node's step on the item of frame k
abbrev pub node_stepped : WorldState → (l k : ℕ) → Part → Item → NodeStep → Stepped
node_stepped w l k part i step = node_said (record w { node = step.node }) l k part i step.said

-- the node was handed bytes: their fault, or the step on the item that they spell
abbrev pub node_judged : WorldState → (l k : ℕ) → Part → List ℕ → Option BadFrame → Stepped
node_judged w l k part bytes (Some fault) = shows w (did.Bad fault)
node_judged w l k part bytes None =
    let i : Item = record { head = head_in bytes; request = request_in bytes } in
    node_stepped w l k part i (step_item latest w.node w.moment i)

-- ---- a frame at its client
-- the entry of a look whose reply was taken is made on the line of the look
abbrev pub taken_entry : ℕ → List ℕ → Part → Option Request → List Entry → List Entry
taken_entry line bytes part None h = h
taken_entry line bytes part (Some r) h =
    with_entry (record {
      line = line;
      position = 0;
      client = (head_in bytes).client;
      pid = (head_in bytes).pid;
      part = part;
      request = r;
      reply = reply_in bytes;
    }) h

-- a client heard the bytes of frame k so
abbrev pub client_heard : WorldState → ℕ → ℕ → Note → ClientState → List ℕ → Hearing → Stepped
client_heard w k line note s bytes (HearsReply f reply) =
    let after : ClientState = after_reply f.part reply s in
    record {
      did = did.Took k s.client f.part;
      ended = end_told s.client after.ended;
      world = record (client_stands w after) { history = taken_entry line bytes note.part note.looked w.history };
    }
client_heard w k line note s bytes (HearsLate orig) = shows w (did.Late k orig)
client_heard w k line note s bytes (HearsUnfit orig) = shows w (did.Late k orig)
client_heard w k line note s bytes (HearsOther client) = shows w did.Idle
client_heard w k line note s bytes (HearsBad fault) = shows w (did.Bad fault)

-- ---- a delivery
-- a live frame came to its end, with its note
abbrev pub arrived : WorldState → (l k : ℕ) → Option Note → List ℕ → End → ℕ → Stepped
arrived w l k None bytes end line = shows w (did.Absent k)
arrived w l k (Some note) bytes to.Node line = node_judged w l k note.part bytes (request_fault bytes)
arrived w l k (Some note) bytes (to.Client c) line =
    with_found w (client_in w.clients c) (λ s. client_heard w k line note s bytes (hearing s bytes))

-- what stands under the number k
abbrev pub delivered : WorldState → (l k : ℕ) → Option Note → Found → Stepped
delivered w l k on_it (Live bytes end line) = arrived w l k on_it bytes end line
delivered w l k on_it (Expired sent) = shows w (did.Expired k sent)
delivered w l k on_it Absent = shows w (did.Absent k)

-- the note on frame k, where one was sent
abbrev pub note_on : List Note → ℕ → Option Note
note_on notes zero = None
note_on notes (suc k) = slice_get notes k

-- frame k is handed to its end
abbrev pub deliver : WorldState → (l k : ℕ) → Stepped
deliver w l k = delivered w l k (note_on w.notes k) (found_at w.moment (frame_at w.link k))

-- goes on with the next frame, which is handed out
abbrev pub with_next : WorldState → (WorldState → ℕ → Stepped) → Option ℕ → Stepped
with_next w go None = shows w did.NoFrame
with_next w go (Some k) = go (record w { link = next_handed w.link }) k

-- ---- what only shows
-- time goes on by so many ticks
abbrev pub ticked : WorldState → ℕ → Stepped
ticked w by = shows (record w { moment = w.moment + by }) (did.Now (w.moment + by))

-- a page's bytes from the address on, whatever its permission
abbrev pub peeked : Addr → ℕ → Option Page → Did
peeked addr n None = did.PeekNoMapping
peeked addr n (Some page) = did.Peeked (bytes_at (offset_of addr) n (bytes_of page))

-- the bytes of frame k, live or not
abbrev pub frame_shown : ℕ → Option SentFrame → Did
frame_shown k None = did.ShownAbsent k
frame_shown k (Some frame) = did.Shown k frame.bytes

-- bytes that spell no frame for their end are refused there; no schedule has others
abbrev pub garbage : Option BadFrame → Did
garbage (Some fault) = did.Bad fault
garbage None = did.Idle

-- ---- an event
-- what an event on line l does
abbrev pub step : WorldState → ℕ → Event → Stepped
step w l (event.Call client text) =
    with_found w (client_in w.clients client) (λ s. call_judged w s (call_of text) (issue_fault s (call_of text)))
step w l (event.Poll client) = with_found w (client_in w.clients client) (λ s. polled w l s (poll s w.moment))
step w l (event.Deliver frame) = deliver w l frame
step w l event.DeliverNext = with_next w (λ v k. deliver v l k) (next_number w.link)
step w l event.Drop = with_next w (λ v k. shows v (did.Dropped k)) (next_number w.link)
step w l (event.Tick by) = ticked w by
step w l (event.Peek pid addr len) = shows w (peeked addr len (page_at w.node.flat pid (page_of addr)))
step w l (event.Show frame) = shows w (frame_shown frame (frame_at w.link frame))
step w l event.Stat = shows w (did.Stat (used w.node.flat) (length w.node.records))
step w l (event.GarbageNode bytes) = shows w (garbage (request_fault (expanded bytes)))
step w l (event.GarbageClient client bytes) = shows w (garbage (reply_fault (expanded bytes)))
