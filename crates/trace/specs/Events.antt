-- What each event of a schedule brings, and the account of a schedule.
use Rattle.std.specs.Prelude.{ℕ, ◌+◌, Bool, true, false, ◌&&◌, min, List, [], ◌∷◌, ◌++◌, length, map, Option, Some, None, if◌then◌else◌, find, option_map}
use Rattle.cl_types.specs.Bytes.{bytes_at}
use Rattle.cl_types.specs.Requests.{is_changing}
use Rattle.cl_types.specs.declared.numbers.ClientNo.{ClientNo}
use Rattle.cl_types.specs.declared.numbers.Addr.{Addr}
use Rattle.cl_types.specs.declared.call.Call.{Call}
use Rattle.cl_types.specs.declared.config.Config.{Config}
use Rattle.cl_types.specs.declared.frame.BadFrame.{BadFrame}
use Rattle.cl_types.specs.declared.frame.Head.{Head}
use Rattle.cl_types.specs.declared.frame.How.{How}
use Rattle.cl_types.specs.declared.frame.How.TheVariants.{Executed, Repeated, Looked}
use Rattle.cl_types.specs.declared.frame.IssueFault.{IssueFault}
use Rattle.cl_types.specs.declared.reply.Part.{Part}
use Rattle.cl_types.specs.declared.reply.Reply.{Reply}
use Rattle.cl_types.specs.declared.schedule.Event.{Event}
use Rattle.cl_types.specs.declared.schedule.Event.TheVariants as event
use Rattle.cl_types.specs.declared.line.Did.{Did}
use Rattle.cl_types.specs.declared.line.Did.TheVariants as did
use Rattle.cl_types.specs.declared.line.Entry.{Entry}
use Rattle.cl_types.specs.Parts.{same_part}
use Rattle.cl_types.specs.Times.{is_live}
use Rattle.cl_types.specs.Pages.{page_of, offset_of}
use Rattle.flat_model.specs.State.{FlatState, Page, page_at, bytes_of, used}
use Rattle.frame_model.specs.Frames.{request_frame, reply_frame, request_fault, reply_fault, kind_of, status_in}
use Rattle.client_model.specs.Client.{ClientState, Sending, Outgoing, head_of, Polled, GivesUp, EndsFence, Sends, Idles, poll, after_poll, after_reply, end_told, flight_under}
use Rattle.cl_types.specs.Parts.{same_client}
use Rattle.client_model.specs.Issue.{issue_fault}
use Rattle.trace.specs.Account.{Account, Frame, Carried, Load, Asks, Answers, Effect, nothing_yet, now, frame_at, next_frame_number, taken_in_order, memory_at, recorded, says, joined_by, extended}
use Rattle.cl_types.specs.Written.{call_of, expanded}
use Rattle.trace.specs.Clients.{client_at}
use Rattle.node_model.specs.Handling.{Handling, Repeats, RefusesForNow, Executes, Looks, handling, item_outcome, latest, oldest_of}

-- ---- a call
-- what a call brings: the fault for which it isn't issued, or the number under which it is
abbrev pub on_judged : ClientState → Option IssueFault → Effect
on_judged s (Some fault) = says (did.NotIssued fault)
on_judged s None = says (did.Issued s.client (record { 0 = s.issued + 1 }))

-- what a call brings that the client is asked to issue
abbrev pub on_call : ClientState → Call → Effect
on_call s k = on_judged s (issue_fault s k)

-- ---- a poll
-- what a line tells of a part that went out in this frame
abbrev pub sent_text : ClientNo → ℕ → Outgoing → Did
sent_text c frame o = if o.again then did.Again frame c o.part o.id o.orig else did.Sent frame c o.part o.id

-- the item that carries a part
abbrev pub carried : ClientNo → ℕ → Outgoing → Carried
carried c pid o = record {
  part = o.part;
  item = record { head = head_of c pid o; request = o.request };
}

-- the bytes of a frame with these items: in this version there is one
abbrev pub frame_bytes : List Carried → List ℕ
frame_bytes [] = []
frame_bytes (i ∷ is) = request_frame i.item.head i.item.request

-- the frame to the node that carries these items, sent at moment t on line l
abbrev pub request_frame_of : ℕ → ℕ → List Carried → Frame
request_frame_of t l items = record { moment = t; load = Asks items; bytes = frame_bytes items; line = l }

-- what this poll brings: its text, the call that ended by it, and the frame that it sends
abbrev pub on_polled : Account → ℕ → ClientState → Polled → Effect
on_polled a l s (GivesUp f) =
    record (says (did.GaveUp s.client f.part)) { ended = end_told s.client (after_poll (now a l) (GivesUp f) s).ended }
on_polled a l s (EndsFence n) =
    record (says did.FenceEnded) { ended = end_told s.client (after_poll (now a l) (EndsFence n) s).ended }
on_polled a l s (Sends items) = record {
  texts = map (sent_text s.client (next_frame_number a)) items;
  ended = None;
  frames = request_frame_of (now a l) l (map (carried s.client s.pid) items) ∷ [];
  entries = [];
}
on_polled a l s Idles = says did.Idle

-- ---- an item of a live request frame at the node
-- the entry of a part, where one is among these
abbrev pub record_of : List Entry → ClientNo → Part → Option Entry
record_of entries c p = find (λ e. same_client c e.client && same_part p e.part) entries

-- the entry of the item at position q of a frame that was delivered on line l, with this reply
abbrev pub entry_of : ℕ → ℕ → Carried → Reply → Entry
entry_of l q i reply =
    record { line = l; position = q; client = i.item.head.client; pid = i.item.head.pid; part = i.part; request = i.item.request; reply = reply }

-- the frame to the client that carries the reply to an item, sent at moment t on line l
abbrev pub reply_frame_of : ℕ → ℕ → Carried → Reply → List Entry → Frame
reply_frame_of t l i reply if_taken = record {
  moment = t;
  load = Answers i.item.head reply if_taken;
  bytes = reply_frame i.item.head (kind_of i.item.request) reply;
  line = l;
}

-- a reply to the item goes out; these entries are made now, and those where the reply is taken
abbrev pub replies : Account → ℕ → ℕ → Carried → How → Reply → (entries if_taken : List Entry) → Effect
replies a l frame i how reply entries if_taken = record {
  texts = did.Handled frame i.item.head.client i.part how (status_in reply) (next_frame_number a) ∷ [];
  ended = None;
  frames = reply_frame_of (now a l) l i reply if_taken ∷ [];
  entries = entries;
}

-- what the handling of the item at position q brings, in this state before it
abbrev pub handled : FlatState → Account → (l frame q : ℕ) → Carried → Handling → Effect
handled s a l frame q i (Repeats reply) = replies a l frame i Repeated reply [] []
handled s a l frame q i (RefusesForNow oldest) = says (did.Busy frame i.item.head.client i.part oldest (now a l))
handled s a l frame q i Executes =
    let reply : Reply = (item_outcome s i.item).reply in replies a l frame i Executed reply (entry_of l q i reply ∷ []) []
handled s a l frame q i Looks =
    let reply : Reply = (item_outcome s i.item).reply in replies a l frame i Looked reply [] (entry_of l q i reply ∷ [])

-- how the item is handled, by these records, at most so many of them kept
abbrev pub item_handling : (records : List Entry) → (retry : ℕ) → Account → ℕ → Carried → Handling
item_handling records retry a l i = handling
    (is_changing i.item.request)
    (option_map (λ e. e.reply) (record_of records i.item.head.client i.part))
    (now a l)
    (option_map (λ e. now a e.line) (oldest_of retry records))

-- one effect and then another, with the ended call of the second
abbrev pub then_also : Effect → Effect → Effect
then_also e f = record { texts = e.texts ++ f.texts; ended = f.ended; frames = e.frames ++ f.frames; entries = e.entries ++ f.entries }

-- no text, no ended call, no frame and no entry
abbrev pub nothing_happens : Effect
nothing_happens = record { texts = []; ended = None; frames = []; entries = [] }

-- ---- a live reply frame at its client
-- what a reply brings: late where no part in flight has its orig, and else taken
abbrev pub on_flight : ClientState → ℕ → Head → Reply → List Entry → Option Sending → Effect
on_flight s k head reply if_taken None = says (did.Late k head.orig)
on_flight s k head reply if_taken (Some f) = record (says (did.Took k s.client f.part)) {
  ended = end_told s.client (after_reply f.part reply s).ended;
  entries = if_taken;
}

-- what a live reply frame brings at its client
abbrev pub on_reply : ClientState → ℕ → Head → Reply → List Entry → Effect
on_reply s k head reply if_taken = on_flight s k head reply if_taken (flight_under head.orig s)

-- ---- what only shows
-- what a peek of a page brings: n of its bytes from the address on, or that it isn't mapped
abbrev pub on_found_page : Addr → ℕ → Option Page → Effect
on_found_page addr n None = says did.PeekNoMapping
on_found_page addr n (Some page) = says (did.Peeked (bytes_at (offset_of addr) n (bytes_of page)))

-- what a peek brings, in this state and whatever the page's permission
abbrev pub on_peek : FlatState → ℕ → Addr → ℕ → Effect
on_peek s pid addr n = on_found_page addr n (page_at s pid (page_of addr))

-- what showing frame k brings: its bytes, live or not, or that it is absent
abbrev pub shown : ℕ → Option Frame → Effect
shown k None = says (did.ShownAbsent k)
shown k (Some frame) = says (did.Shown k frame.bytes)

-- what garbage brings: the fault of its bytes; no schedule has garbage that spells a frame for its end
abbrev pub on_garbage : Option BadFrame → Effect
on_garbage (Some fault) = says (did.Bad fault)
on_garbage None = says did.Idle

-- ---- the account: which of the changing entries a node still has as records is told by keep
module _ (keep : List Entry → List Entry) (config : Config) where
  -- what the item at position q of a frame brings, by the memory and the records before it
  abbrev pub on_item : Account → (l frame q : ℕ) → Carried → Effect
  on_item a l frame q i =
      handled (memory_at config a.history l q) a l frame q i (item_handling (keep (recorded a.history l q)) config.node.retry a l i)

  -- what the items of a frame bring in order, each with what those before it brought
  abbrev pub on_items : Account → (l frame q : ℕ) → List Carried → Effect
  on_items a l frame q [] = nothing_happens
  on_items a l frame q (i ∷ is) =
      let e : Effect = on_item a l frame q i in then_also e (on_items (joined_by a e) l frame (q + 1) is)

  -- ---- a delivery
  -- what a live frame brings at its end: its items at the node, or its reply at the client
  abbrev pub handed : Account → ℕ → ℕ → Load → Effect
  handed a l k (Asks items) = on_items a l k 0 items
  handed a l k (Answers head reply if_taken) = on_reply (client_at config a head.client) k head reply if_taken

  -- what a frame brings where it is live, and else that it expired
  abbrev pub if_live : Account → ℕ → ℕ → Frame → Bool → Effect
  if_live a l k frame false = says (did.Expired k frame.moment)
  if_live a l k frame true = handed a l k frame.load

  -- what the frame of number k brings where one was sent, and else that it is absent
  abbrev pub on_frame : Account → ℕ → ℕ → Option Frame → Effect
  on_frame a l k None = says (did.Absent k)
  on_frame a l k (Some frame) = if_live a l k frame (is_live (now a l) frame.moment)

  -- what the delivery of frame k on line l brings
  abbrev pub on_delivery : Account → ℕ → ℕ → Effect
  on_delivery a l k = on_frame a l k (frame_at a k)

  -- goes on with frame k where it was sent, and else tells that there is no next frame
  abbrev pub if_there : (ℕ → Effect) → ℕ → Option Frame → Effect
  if_there go k None = says did.NoFrame
  if_there go k (Some frame) = go k

  -- goes on with the next frame: its number is one more than how many lines found one
  abbrev pub on_next : Account → (ℕ → Effect) → Effect
  on_next a go = let k : ℕ = taken_in_order a + 1 in if_there go k (frame_at a k)

  -- what an event on a line brings
  abbrev pub effect : Account → ℕ → Event → Effect
  effect a l (event.Call client call) = on_call (client_at config a client) (call_of call)
  effect a l (event.Poll client) = on_polled a l (client_at config a client) (poll (client_at config a client) (now a l))
  effect a l (event.Deliver frame) = on_delivery a l frame
  effect a l event.DeliverNext = on_next a (on_delivery a l)
  effect a l event.Drop = on_next a (λ k. says (did.Dropped k))
  effect a l (event.Tick by) = says (did.Now (now a l + by))
  effect a l (event.Peek pid addr len) = on_peek (memory_at config a.history l 0) pid addr len
  effect a l (event.Show frame) = shown frame (frame_at a frame)
  effect a l event.Stat =
      says (did.Stat (used (memory_at config a.history l 0)) (min config.node.retry (length (recorded a.history l 0))))
  effect a l (event.GarbageNode bytes) = on_garbage (request_fault (expanded bytes))
  effect a l (event.GarbageClient client bytes) = on_garbage (reply_fault (expanded bytes))

  -- the account after one event more, given with its line
  abbrev pub next_account : Account → ℕ × Event → Account
  next_account a e = extended a e.0 e.1 (effect a e.0 e.1)

  -- the account after all these events
  abbrev pub account_from : Account → List (ℕ × Event) → Account
  account_from a [] = a
  account_from a (e ∷ es) = account_from (next_account a e) es

-- every changing entry is a record
abbrev pub keep_all : List Entry → List Entry
keep_all entries = entries

-- the account of a schedule
abbrev pub account : Config → List (ℕ × Event) → Account
account config events = account_from keep_all config nothing_yet events

-- the account of a schedule where the node keeps no more than its latest records
abbrev pub account_of_latest : Config → List (ℕ × Event) → Account
account_of_latest config events = account_from (latest config.node.retry) config nothing_yet events
