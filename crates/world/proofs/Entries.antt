-- An event makes at most one entry.
use Rattle.std.proofs.Common.{◌≡◌, ℕ, ◌+◌, ◌≤◌, Bool, true, false, List, [], ◌∷◌, Option, Some, None, refl, length, arith}
use Rattle.cl_types.specs.declared.call.Call.{Call}
use Rattle.cl_types.specs.declared.frame.BadFrame.{BadFrame}
use Rattle.cl_types.specs.declared.frame.End.{End}
use Rattle.cl_types.specs.declared.frame.End.TheVariants as to
use Rattle.cl_types.specs.declared.frame.How.{How}
use Rattle.cl_types.specs.declared.frame.How.TheVariants as how
use Rattle.cl_types.specs.declared.frame.IssueFault.{IssueFault}
use Rattle.cl_types.specs.declared.line.Did.TheVariants as did
use Rattle.cl_types.specs.declared.line.Entry.{Entry}
use Rattle.cl_types.specs.declared.reply.Part.{Part}
use Rattle.cl_types.specs.declared.request.Request.{Request}
use Rattle.cl_types.specs.declared.schedule.Event.{Event}
use Rattle.cl_types.specs.declared.schedule.Event.TheVariants as event
use Rattle.trace.specs.Account.{is_before, with_entry}
use Rattle.client_model.specs.Client.{ClientState, Polled, GivesUp, EndsFence, Sends, Idles, poll}
use Rattle.cl_types.specs.Written.{call_of}
use Rattle.frame_model.specs.Frames.{Item, head_in, reply_in, request_fault, request_in}
use Rattle.node_model.specs.Handling.{latest}
use Rattle.client_model.specs.Hearing.{Hearing, HearsBad, HearsOther, HearsLate, HearsUnfit, HearsReply, hearing}
use Rattle.client_model.specs.Issue.{issue_fault}
use Rattle.node_model.specs.Nodes.{ItemAnswer, Gives, IsBusy, step_item}
use Rattle.link_sim.specs.Got.{Found, Live, Expired, Absent, found_at}
use Rattle.link_sim.specs.LinkFrames.{frame_at, next_handed, next_number}
use Rattle.world.specs.declared.note.Note.{Note}
use Rattle.world.specs.Worlds.{WorldState, Stepped, arrived, call_judged, client_heard, client_in, deliver, delivered, entered, entry_of, node_judged, node_said, note_on, polled, shows, step, taken_entry, with_found, with_next}

-- the history of the world after it has at most one entry more than these
abbrev pub GrowsByOne : List Entry → Stepped → Type 0
GrowsByOne h s = length s.world.history ≤ length h + 1

same : (h : List Entry) → length h ≤ length h + 1
same h = omega arith

pub length-with_entry : (e : Entry) (h : List Entry) → length (with_entry e h) ≡ length h + 1
length-with_entry e [] = refl
length-with_entry e (x ∷ h) = go (is_before e.line e.position x) (length-with_entry e h) where
  go : (b : Bool) → length (with_entry e h) ≡ length h + 1 → length (elim b as (λ _. List Entry) [ true ↦ x ∷ with_entry e h | false ↦ e ∷ x ∷ h ]) ≡ length (x ∷ h) + 1
  go true rest = omega (arith, rest)
  go false rest = omega arith

entered_grows : (h : How) (e : Entry) (es : List Entry) → length (entered h e es) ≤ length es + 1
entered_grows how.Executed e es = omega (arith, length-with_entry e es)
entered_grows how.Repeated e es = same es
entered_grows how.Looked e es = same es

taken_grows : (line : ℕ) (bytes : List ℕ) (part : Part) (o : Option Request) (es : List Entry) → length (taken_entry line bytes part o es) ≤ length es + 1
taken_grows line bytes part None es = same es
taken_grows line bytes part (Some r) es = omega (arith, length-with_entry (record { line = line; position = 0; client = (head_in bytes).client; pid = (head_in bytes).pid; part = part; request = r; reply = reply_in bytes }) es)

module _ (w : WorldState) where
  found_grows : (o : Option ClientState) (go : ClientState → Stepped) → ((s : ClientState) → GrowsByOne w.history (go s)) → GrowsByOne w.history (with_found w o go)
  found_grows None go each = same w.history
  found_grows (Some s) go each = each s

  judged_grows : (s : ClientState) (k : Call) (o : Option IssueFault) → GrowsByOne w.history (call_judged w s k o)
  judged_grows s k (Some fault) = same w.history
  judged_grows s k None = same w.history

  polled_grows : (l : ℕ) (s : ClientState) (p : Polled) → GrowsByOne w.history (polled w l s p)
  polled_grows l s (GivesUp f) = same w.history
  polled_grows l s (EndsFence n) = same w.history
  polled_grows l s (Sends []) = same w.history
  polled_grows l s (Sends (o ∷ items)) = same w.history
  polled_grows l s Idles = same w.history

  said_grows : (l k : ℕ) (part : Part) (i : Item) (x : ItemAnswer) → GrowsByOne w.history (node_said w l k part i x)
  said_grows l k part i (IsBusy oldest at) = same w.history
  said_grows l k part i (Gives h reply) = entered_grows h (entry_of l part i reply) w.history

  heard_grows : (k line : ℕ) (note : Note) (s : ClientState) (bytes : List ℕ) (x : Hearing) → GrowsByOne w.history (client_heard w k line note s bytes x)
  heard_grows k line note s bytes (HearsReply f reply) = taken_grows line bytes note.part note.looked w.history
  heard_grows k line note s bytes (HearsLate orig) = same w.history
  heard_grows k line note s bytes (HearsUnfit orig) = same w.history
  heard_grows k line note s bytes (HearsOther c) = same w.history
  heard_grows k line note s bytes (HearsBad fault) = same w.history

bytes_grow : (w : WorldState) (l k : ℕ) (part : Part) (bytes : List ℕ) (o : Option BadFrame) → GrowsByOne w.history (node_judged w l k part bytes o)
bytes_grow w l k part bytes (Some fault) = same w.history
bytes_grow w l k part bytes None =
    let i : Item = record { head = head_in bytes; request = request_in bytes } in
    said_grows (record w { node = (step_item latest w.node w.moment i).node }) l k part i (step_item latest w.node w.moment i).said

module _ (w : WorldState) where
  arrived_grows : (l k : ℕ) (note : Option Note) (bytes : List ℕ) (end : End) (sent : ℕ) → GrowsByOne w.history (arrived w l k note bytes end sent)
  arrived_grows l k None bytes end sent = same w.history
  arrived_grows l k (Some note) bytes to.Node sent = bytes_grow w l k note.part bytes (request_fault bytes)
  arrived_grows l k (Some note) bytes (to.Client c) sent =
      found_grows w (client_in w.clients c) (λ s. client_heard w k sent note s bytes (hearing s bytes)) (λ s. heard_grows w k sent note s bytes (hearing s bytes))

  delivered_grows : (l k : ℕ) (note : Option Note) (f : Found) → GrowsByOne w.history (delivered w l k note f)
  delivered_grows l k note (Live bytes end sent) = arrived_grows l k note bytes end sent
  delivered_grows l k _ (Expired sent) = same w.history
  delivered_grows l k _ Absent = same w.history

  deliver_grows : (l k : ℕ) → GrowsByOne w.history (deliver w l k)
  deliver_grows l k = delivered_grows l k (note_on w.notes k) (found_at w.moment (frame_at w.link k))

  next_grows : (o : Option ℕ) (go : WorldState → ℕ → Stepped) → ((k : ℕ) → GrowsByOne w.history (go (record w { link = next_handed w.link }) k)) → GrowsByOne w.history (with_next w go o)
  next_grows None go each = same w.history
  next_grows (Some k) go each = each k

pub step_grows : (w : WorldState) (l : ℕ) (e : Event) → GrowsByOne w.history (step w l e)
step_grows w l (event.Call c text) = found_grows w (client_in w.clients c) (λ s. call_judged w s (call_of text) (issue_fault s (call_of text))) (λ s. judged_grows w s (call_of text) (issue_fault s (call_of text)))
step_grows w l (event.Poll c) = found_grows w (client_in w.clients c) (λ s. polled w l s (poll s w.moment)) (λ s. polled_grows w l s (poll s w.moment))
step_grows w l (event.Deliver frame) = deliver_grows w l frame
step_grows w l event.DeliverNext = next_grows w (next_number w.link) (λ v k. deliver v l k) (λ k. deliver_grows (record w { link = next_handed w.link }) l k)
step_grows w l event.Drop = next_grows w (next_number w.link) (λ v k. shows v (did.Dropped k)) (λ k. same w.history)
step_grows w l (event.Tick by) = same w.history
step_grows w l (event.Peek pid addr len) = same w.history
step_grows w l (event.Show frame) = same w.history
step_grows w l event.Stat = same w.history
step_grows w l (event.GarbageNode bytes) = same w.history
step_grows w l (event.GarbageClient c bytes) = same w.history
