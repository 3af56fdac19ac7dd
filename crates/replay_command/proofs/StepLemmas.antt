-- The line of a step tells the status of a reply, where it tells one.
use Rattle.std.proofs.Common.{ℕ, ◌≤◌, Bool, true, false, List, [], ◌∷◌, Option, Some, None, arith}
use Rattle.cl_types.specs.declared.frame.BadFrame.{BadFrame}
use Rattle.cl_types.specs.declared.frame.End.{End}
use Rattle.cl_types.specs.declared.frame.End.TheVariants as to
use Rattle.cl_types.specs.declared.frame.IssueFault.{IssueFault}
use Rattle.cl_types.specs.declared.line.Did.TheVariants as did
use Rattle.cl_types.specs.declared.call.Call.{Call}
use Rattle.cl_types.specs.declared.numbers.Addr.{Addr}
use Rattle.cl_types.specs.declared.numbers.ClientNo.{ClientNo}
use Rattle.cl_types.specs.declared.reply.Part.{Part}
use Rattle.cl_types.specs.declared.reply.Refusal.TheVariants as refusal
use Rattle.cl_types.specs.declared.reply.Reply.{Reply}
use Rattle.cl_types.specs.declared.reply.Reply.TheVariants as reply
use Rattle.cl_types.specs.declared.schedule.Event.{Event}
use Rattle.cl_types.specs.declared.schedule.Event.TheVariants as event
use Rattle.client_model.specs.Client.{ClientState, Outgoing, Polled, GivesUp, EndsFence, Sends, Idles, poll}
use Rattle.cl_types.specs.Written.{call_of, expanded}
use Rattle.trace.specs.Events.{sent_text}
use Rattle.frame_model.specs.Frames.{Item, head_in, reply_fault, request_fault, request_in, status_in}
use Rattle.node_model.specs.Handling.{latest}
use Rattle.client_model.specs.Hearing.{Hearing, HearsBad, HearsOther, HearsLate, HearsUnfit, HearsReply, hearing}
use Rattle.client_model.specs.Issue.{issue_fault}
use Rattle.node_model.specs.Nodes.{ItemAnswer, Gives, IsBusy, step_item}
use Rattle.cl_types.specs.Pages.{page_of}
use Rattle.flat_model.specs.State.{Page, page_at}
use Rattle.link_sim.specs.Got.{Found, Live, Expired, Absent, found_at}
use Rattle.link_sim.specs.LinkFrames.{SentFrame, frame_at, next_handed, next_number}
use Rattle.transcript_text.specs.Statuses.{HasGoodStatus}
use Rattle.world.specs.declared.note.Note.{Note}
use Rattle.world.specs.Worlds.{WorldState, Stepped, arrived, call_judged, client_heard, client_in, deliver, delivered, garbage, next_frame, node_judged, node_said, note_on, peeked, polled, frame_shown, shows, step, with_found, with_next}

small : (r : Reply) → status_in r ≤ 8
small (reply.Refused refusal.NoMapping) = omega arith
small (reply.Refused refusal.NoPermission) = omega arith
small (reply.Refused refusal.NoPage) = omega arith
small (reply.Refused refusal.NoRange) = omega arith
small (reply.Refused refusal.NoOffload) = omega arith
small (reply.Refused refusal.ObjectFull) = omega arith
small (reply.Refused refusal.NoKey) = omega arith
small (reply.Refused refusal.BadOp) = omega arith
small reply.Nothing = omega arith
small (reply.At addr) = omega arith
small (reply.Word word) = omega arith
small (reply.Got bytes) = omega arith

good_found : (w : WorldState) (s : Option ClientState) (go : ClientState → Stepped) → ((s : ClientState) → HasGoodStatus (go s).did) → HasGoodStatus (with_found w s go).did
good_found w None go all = tt
good_found w (Some s) go all = all s

good_call : (w : WorldState) (s : ClientState) (k : Call) (fault : Option IssueFault) → HasGoodStatus (call_judged w s k fault).did
good_call w s k None = tt
good_call w s k (Some fault) = tt

good_out : (c : ClientNo) (frame : ℕ) (o : Outgoing) → HasGoodStatus (sent_text c frame o)
good_out c frame o = go o.again where
  go : (b : Bool) → HasGoodStatus (sent_text c frame (record o { again = b }))
  go true = tt
  go false = tt

good_poll : (w : WorldState) (l : ℕ) (s : ClientState) (p : Polled) → HasGoodStatus (polled w l s p).did
good_poll w l s (GivesUp f) = tt
good_poll w l s (EndsFence n) = tt
good_poll w l s (Sends []) = tt
good_poll w l s (Sends (o ∷ items)) = good_out s.client (next_frame w) o
good_poll w l s Idles = tt

good_said : (w : WorldState) (l k : ℕ) (part : Part) (i : Item) (said : ItemAnswer) → HasGoodStatus (node_said w l k part i said).did
good_said w l k part i (IsBusy oldest at) = tt
good_said w l k part i (Gives how r) = small r

good_judged : (w : WorldState) (l k : ℕ) (part : Part) (bytes : List ℕ) (fault : Option BadFrame) → HasGoodStatus (node_judged w l k part bytes fault).did
good_judged w l k part bytes (Some fault) = tt
good_judged w l k part bytes None =
    let i : Item = record { head = head_in bytes; request = request_in bytes } in
    good_said (record w { node = (step_item latest w.node w.moment i).node }) l k part i (step_item latest w.node w.moment i).said

good_heard : (w : WorldState) (k line : ℕ) (note : Note) (s : ClientState) (bytes : List ℕ) (h : Hearing) → HasGoodStatus (client_heard w k line note s bytes h).did
good_heard w k line note s bytes (HearsReply f r) = tt
good_heard w k line note s bytes (HearsLate orig) = tt
good_heard w k line note s bytes (HearsUnfit orig) = tt
good_heard w k line note s bytes (HearsOther client) = tt
good_heard w k line note s bytes (HearsBad fault) = tt

good_arrived : (w : WorldState) (l k : ℕ) (on_it : Option Note) (bytes : List ℕ) (end : End) (line : ℕ) → HasGoodStatus (arrived w l k on_it bytes end line).did
good_arrived w l k None bytes end line = tt
good_arrived w l k (Some note) bytes to.Node line = good_judged w l k note.part bytes (request_fault bytes)
good_arrived w l k (Some note) bytes (to.Client c) line = good_found w (client_in w.clients c) _ (λ s. good_heard w k line note s bytes (hearing s bytes))

good_delivered : (w : WorldState) (l k : ℕ) (on_it : Option Note) (found : Found) → HasGoodStatus (delivered w l k on_it found).did
good_delivered w l k on_it (Live bytes end line) = good_arrived w l k on_it bytes end line
good_delivered w l k on_it (Expired sent) = tt
good_delivered w l k on_it Absent = tt

good_deliver : (w : WorldState) (l k : ℕ) → HasGoodStatus (deliver w l k).did
good_deliver w l k = good_delivered w l k (note_on w.notes k) (found_at w.moment (frame_at w.link k))

good_next : (w : WorldState) (go : WorldState → ℕ → Stepped) (k : Option ℕ) → ((v : WorldState) (k : ℕ) → HasGoodStatus (go v k).did) → HasGoodStatus (with_next w go k).did
good_next w go None all = tt
good_next w go (Some k) all = all (record w { link = next_handed w.link }) k

good_peek : (addr : Addr) (n : ℕ) (page : Option Page) → HasGoodStatus (peeked addr n page)
good_peek addr n None = tt
good_peek addr n (Some page) = tt

good_shown : (k : ℕ) (frame : Option SentFrame) → HasGoodStatus (frame_shown k frame)
good_shown k None = tt
good_shown k (Some frame) = tt

good_garbage : (fault : Option BadFrame) → HasGoodStatus (garbage fault)
good_garbage None = tt
good_garbage (Some fault) = tt

pub good_step : (w : WorldState) (l : ℕ) (e : Event) → HasGoodStatus (step w l e).did
good_step w l (event.Call client text) = good_found w (client_in w.clients client) _ (λ s. good_call w s (call_of text) (issue_fault s (call_of text)))
good_step w l (event.Poll client) = good_found w (client_in w.clients client) _ (λ s. good_poll w l s (poll s w.moment))
good_step w l (event.Deliver frame) = good_deliver w l frame
good_step w l event.DeliverNext = good_next w (λ v k. deliver v l k) (next_number w.link) (λ v k. good_deliver v l k)
good_step w l event.Drop = good_next w (λ v k. shows v (did.Dropped k)) (next_number w.link) (λ v k. tt)
good_step w l (event.Tick by) = tt
good_step w l (event.Peek pid addr len) = good_peek addr len (page_at w.node.flat pid (page_of addr))
good_step w l (event.Show frame) = good_shown frame (frame_at w.link frame)
good_step w l event.Stat = tt
good_step w l (event.GarbageNode bytes) = good_garbage (request_fault (expanded bytes))
good_step w l (event.GarbageClient client bytes) = good_garbage (reply_fault (expanded bytes))
