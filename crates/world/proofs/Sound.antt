-- What holds of a world holds after an event too, by the line of the event.
use Rattle.std.proofs.Common.{◌≡◌, ℕ, ◌+◌, ◌*◌, ◌<◌, ◌≤◌, List, [], ◌∷◌, ◌++◌, Bool, true, false, cond, Option, Some, None, refl, sym, ap, ◌∙◌, subst, length, arith, length-append}
use Rattle.std.specs.Prelude.{nat_lt}
use Rattle.std.specs.List.{AllByRecursion as Each}
use Rattle.std.proofs.lemmas.Bool.Decides.{nat_tests}
use Rattle.cl_types.specs.declared.call.Call.{Call}
use Rattle.cl_types.specs.declared.frame.BadFrame.{BadFrame}
use Rattle.cl_types.specs.declared.frame.End.{End}
use Rattle.cl_types.specs.declared.frame.End.TheVariants as to
use Rattle.cl_types.specs.declared.frame.How.{How}
use Rattle.cl_types.specs.declared.frame.How.TheVariants as how
use Rattle.cl_types.specs.declared.frame.IssueFault.{IssueFault}
use Rattle.cl_types.specs.declared.line.Did.TheVariants as did
use Rattle.cl_types.specs.declared.numbers.ClientNo.{ClientNo}
use Rattle.cl_types.specs.declared.line.Entry.{Entry}
use Rattle.cl_types.specs.declared.reply.Part.{Part}
use Rattle.cl_types.specs.declared.request.Request.{Request}
use Rattle.cl_types.specs.declared.schedule.Event.{Event}
use Rattle.cl_types.specs.declared.schedule.Event.TheVariants as event
use Rattle.client_model.specs.Apart.{AreApart}
use Rattle.client_model.specs.Client.{ClientState, Polled, GivesUp, EndsFence, Sends, Idles, after_issue, after_poll, after_reply, handed_out, poll}
use Rattle.cl_types.specs.Parts.{same_client}
use Rattle.cl_types.specs.Written.{call_of}
use Rattle.frame_model.specs.Frames.{Item, head_in, request_fault, request_in}
use Rattle.node_model.specs.Handling.{latest}
use Rattle.client_model.specs.Hearing.{Hearing, HearsBad, HearsOther, HearsLate, HearsUnfit, HearsReply, hearing}
use Rattle.client_model.specs.Issue.{issue_fault}
use Rattle.node_model.specs.Nodes.{NodeState, ItemAnswer, Gives, IsBusy, step_item}
use Rattle.trace.specs.Properties.{IsInOrder}
use Rattle.link_sim.specs.Got.{Found, Live, Expired, Absent, found_at}
use Rattle.link_sim.specs.LinkFrames.{LinkFrames, SentFrame, frame_at, next_handed, next_number}
use Rattle.world.specs.declared.note.Note.{Note}
use Rattle.world.specs.Fields.{IsSound, IsWithin, numbers_of}
use Rattle.world.specs.Running.{IsFair}
use Rattle.world.specs.Worlds.{WorldState, Stepped, arrived, call_judged, client_heard, client_in, client_stands, deliver, delivered, entered, entry_of, node_judged, node_said, note_on, polled, sends_frame, shows, step, taken_entry, with_client, with_found, with_next}
use Rattle.lemmas.proofs.Lists.{each_weaker}
use Rattle.trace.proofs.HistoryLemmas.{order_with_entry}

-- ---- clients
within_later : (n m t u : ℕ) → n ≤ m → t ≤ u → (s : ClientState) → IsWithin n t s → IsWithin m u s
within_later n m t u a b s h = record { issued = omega (arith, h.issued); last = omega (arith, h.last); handed_out = h.handed_out }

each_changed : (P : ClientState → Type 0) (new : ClientState) (clients : List ClientState) → Each P clients → P new → Each P (with_client new clients)
each_changed P new [] h p = tt
each_changed P new (s ∷ clients) h p = (go (same_client new.client s.client), each_changed P new clients h.1 p) where
  go : (b : Bool) → P (cond b new s)
  go true = p
  go false = h.0

pub each_found : (P : ClientState → Type 0) (clients : List ClientState) (c : ClientNo) (s : ClientState) → Each P clients → client_in clients c ≡ Some s → P s
each_found P [] c s h is = absurd cc
each_found P (x ∷ clients) c s h is = go (same_client c x.client) is (each_found P clients c s h.1) where
  go : (b : Bool) → cond b (Some x) (client_in clients c) ≡ Some s → (client_in clients c ≡ Some s → P s) → P s
  go true is rest = let one : x ≡ s = cc in subst P one h.0
  go false is rest = rest is

number_kept : (new s : ClientState) (b : Bool) → same_client new.client s.client ≡ b → (cond b new s).client.0 ≡ s.client.0
number_kept new s true same = grind (arith, nat_tests)
number_kept new s false same = refl

numbers_kept : (new : ClientState) (clients : List ClientState) → numbers_of (with_client new clients) ≡ numbers_of clients
numbers_kept new [] = refl
numbers_kept new (s ∷ clients) = λ i. number_kept new s (same_client new.client s.client) refl i ∷ numbers_kept new clients i

-- ---- the history
entered_order : (h : How) (e : Entry) (es : List Entry) → IsInOrder es → IsInOrder (entered h e es)
entered_order how.Executed e es order = order_with_entry e es order
entered_order how.Repeated e es order = order
entered_order how.Looked e es order = order

taken_order : (line : ℕ) (bytes : List ℕ) (part : Part) (o : Option Request) (es : List Entry) → IsInOrder es → IsInOrder (taken_entry line bytes part o es)
taken_order line bytes part None es order = order
taken_order line bytes part (Some r) es order = order_with_entry _ es order

-- ---- worlds
pub sound_later : (l m : ℕ) (w : WorldState) → l ≤ m → IsSound l w → IsSound m w
sound_later l m w more h = record {
  moment = omega (arith, h.moment);
  frames = omega (arith, h.frames);
  notes = h.notes;
  clients = each_weaker (IsWithin l w.moment) (IsWithin m w.moment) (within_later l m w.moment w.moment more (omega arith)) w.clients h.clients;
  apart = h.apart;
  order = h.order;
}

-- a client stands otherwise, at its place
client_sound : (l : ℕ) (w : WorldState) (s : ClientState) → IsSound l w → s.issued ≤ l → s.last ≤ w.moment → IsSound l (client_stands w s)
client_sound l w s h issued last = record {
  moment = h.moment;
  frames = h.frames;
  notes = h.notes;
  clients = each_changed (IsWithin l w.moment) (handed_out s) w.clients h.clients (record { issued = issued; last = last; handed_out = refl });
  apart = subst AreApart (sym (numbers_kept (handed_out s) w.clients)) h.apart;
  order = h.order;
}

-- a frame more was sent
sent_sound : (l m : ℕ) (w : WorldState) (line : ℕ) (end : End) (bytes : List ℕ) (note : Note) → IsSound l w → l < m → IsSound m (sends_frame w line end bytes note)
sent_sound l m w line end bytes note h more =
    let later = sound_later l m w (omega (arith, more)) h in
    let frame : SentFrame = record { moment = w.moment; end = end; bytes = bytes; line = line } in
    let count : length (w.link.frames ++ frame ∷ []) ≡ length w.link.frames + 1 = length-append w.link.frames (frame ∷ []) in
    record {
      moment = later.moment;
      frames = omega (arith, h.frames, more, count);
      notes = length-append w.notes (note ∷ []) ∙ ap (λ n. n + 1) h.notes ∙ sym count;
      clients = later.clients;
      apart = later.apart;
      order = h.order;
    }

module _ (l m : ℕ) (more : l < m) (w : WorldState) (h : IsSound l w) where
  same : IsSound m w
  same = sound_later l m w (omega (arith, more)) h

  found_sound : (c : ClientNo) (o : Option ClientState) (go : ClientState → Stepped) → client_in w.clients c ≡ o
      → ((s : ClientState) → IsWithin l w.moment s → IsSound m (go s).world) → IsSound m (with_found w o go).world
  found_sound c None go is each = same
  found_sound c (Some s) go is each = each s (each_found (IsWithin l w.moment) w.clients c s h.clients is)

  judged_sound : (s : ClientState) (k : Call) (o : Option IssueFault) → IsWithin l w.moment s → IsSound m (call_judged w s k o).world
  judged_sound s k (Some fault) within = same
  judged_sound s k None within = record {
    moment = same.moment;
    frames = same.frames;
    notes = same.notes;
    clients = each_changed (IsWithin m w.moment) (after_issue k s) w.clients same.clients (record { issued = omega (arith, within.issued, more); last = within.last; handed_out = within.handed_out });
    apart = subst AreApart (sym (numbers_kept (after_issue k s) w.clients)) h.apart;
    order = h.order;
  }

  after_issued : (t : ℕ) (p : Polled) (s : ClientState) → (after_poll t p s).issued ≡ s.issued
  after_issued t (GivesUp f) s = refl
  after_issued t (EndsFence n) s = refl
  after_issued t (Sends items) s = refl
  after_issued t Idles s = refl

  after_last : (t : ℕ) (p : Polled) (s : ClientState) → (after_poll t p s).last ≡ t
  after_last t (GivesUp f) s = refl
  after_last t (EndsFence n) s = refl
  after_last t (Sends items) s = refl
  after_last t Idles s = refl

  stands_sound : (p : Polled) (s : ClientState) → IsWithin l w.moment s → IsSound l (client_stands w (after_poll w.moment p s))
  stands_sound p s within = client_sound l w (after_poll w.moment p s) h (omega (arith, after_issued w.moment p s, within.issued)) (omega (arith, after_last w.moment p s))

  polled_sound : (line : ℕ) (s : ClientState) (p : Polled) → IsWithin l w.moment s → IsSound m (polled w line s p).world
  polled_sound line s (GivesUp f) within = sound_later l m _ (omega (arith, more)) (stands_sound (GivesUp f) s within)
  polled_sound line s (EndsFence n) within = sound_later l m _ (omega (arith, more)) (stands_sound (EndsFence n) s within)
  polled_sound line s (Sends []) within = sound_later l m _ (omega (arith, more)) (stands_sound (Sends []) s within)
  polled_sound line s (Sends (o ∷ items)) within = sent_sound l m _ line to.Node _ _ (stands_sound (Sends (o ∷ items)) s within) more
  polled_sound line s Idles within = sound_later l m _ (omega (arith, more)) (stands_sound Idles s within)

  -- the node or the history is another
  beside : (v : WorldState) → v.moment ≡ w.moment → v.clients ≡ w.clients → v.link ≡ w.link → v.notes ≡ w.notes → IsInOrder v.history → IsSound l v
  beside v moment clients link notes order = record {
    moment = subst (λ n. n ≤ 1000000000 * l) (sym moment) h.moment;
    frames = subst (λ (k : LinkFrames). length k.frames ≤ l) (sym link) h.frames;
    notes = ap length notes ∙ h.notes ∙ ap (λ (k : LinkFrames). length k.frames) (sym link);
    clients = subst (λ n. Each (IsWithin l n) v.clients) (sym moment) (subst (Each (IsWithin l w.moment)) (sym clients) h.clients);
    apart = subst (λ cs. AreApart (numbers_of cs)) (sym clients) h.apart;
    order = order;
  }

  heard_sound : (k line : ℕ) (note : Note) (s : ClientState) (bytes : List ℕ) (x : Hearing) → IsWithin l w.moment s → IsSound m (client_heard w k line note s bytes x).world
  heard_sound k line note s bytes (HearsReply f reply) within =
      let stands : IsSound l (client_stands w (after_reply f.part reply s)) = client_sound l w (after_reply f.part reply s) h within.issued within.last in
      let later = sound_later l m _ (omega (arith, more)) stands in
      record { moment = later.moment; frames = later.frames; notes = later.notes; clients = later.clients; apart = later.apart; order = taken_order line bytes note.part note.looked w.history h.order }
  heard_sound k line note s bytes (HearsLate orig) within = same
  heard_sound k line note s bytes (HearsUnfit orig) within = same
  heard_sound k line note s bytes (HearsOther c) within = same
  heard_sound k line note s bytes (HearsBad fault) within = same

said_sound : (l m : ℕ) (w : WorldState) (line k : ℕ) (part : Part) (i : Item) (x : ItemAnswer) → l < m → IsSound l w → IsSound m (node_said w line k part i x).world
said_sound l m w line k part i (IsBusy oldest at) more h = sound_later l m w (omega (arith, more)) h
said_sound l m w line k part i (Gives x reply) more h =
    let entries : List Entry = entered x (entry_of line part i reply) w.history in
    sent_sound l m (record w { history = entries }) line _ _ _ (beside l m more w h (record w { history = entries }) refl refl refl refl (entered_order x (entry_of line part i reply) w.history h.order)) more

module _ (l m : ℕ) (more : l < m) (w : WorldState) (h : IsSound l w) where
  bytes_sound : (line k : ℕ) (part : Part) (bytes : List ℕ) (o : Option BadFrame) → IsSound m (node_judged w line k part bytes o).world
  bytes_sound line k part bytes (Some fault) = same l m more w h
  bytes_sound line k part bytes None =
      let i : Item = record { head = head_in bytes; request = request_in bytes } in
      let n : NodeState = (step_item latest w.node w.moment i).node in
      said_sound l m (record w { node = n }) line k part i (step_item latest w.node w.moment i).said more (beside l m more w h (record w { node = n }) refl refl refl refl h.order)

  arrived_sound : (line k : ℕ) (note : Option Note) (bytes : List ℕ) (end : End) (sent : ℕ) → IsSound m (arrived w line k note bytes end sent).world
  arrived_sound line k None bytes end sent = same l m more w h
  arrived_sound line k (Some note) bytes to.Node sent = bytes_sound line k note.part bytes (request_fault bytes)
  arrived_sound line k (Some note) bytes (to.Client c) sent =
      found_sound l m more w h c (client_in w.clients c) (λ s. client_heard w k sent note s bytes (hearing s bytes)) refl (λ s within. heard_sound l m more w h k sent note s bytes (hearing s bytes) within)

  delivered_sound : (line k : ℕ) (note : Option Note) (f : Found) → IsSound m (delivered w line k note f).world
  delivered_sound line k note (Live bytes end sent) = arrived_sound line k note bytes end sent
  delivered_sound line k _ (Expired sent) = same l m more w h
  delivered_sound line k _ Absent = same l m more w h

  pub deliver_sound : (line k : ℕ) → IsSound m (deliver w line k).world
  deliver_sound line k = delivered_sound line k (note_on w.notes k) (found_at w.moment (frame_at w.link k))

-- the next frame was handed out
handed_frames : (link : LinkFrames) → (next_handed link).frames ≡ link.frames
handed_frames link = go (nat_lt link.handed_out (length link.frames)) where
  go : (b : Bool) → (cond b (record link { handed_out = link.handed_out + 1 }) link).frames ≡ link.frames
  go true = refl
  go false = refl

pub handed_sound : (l : ℕ) (w : WorldState) → IsSound l w → IsSound l (record w { link = next_handed w.link })
handed_sound l w h = record {
  moment = h.moment;
  frames = subst (λ (fs : List SentFrame). length fs ≤ l) (sym (handed_frames w.link)) h.frames;
  notes = h.notes ∙ ap length (sym (handed_frames w.link));
  clients = h.clients;
  apart = h.apart;
  order = h.order;
}

module _ (l m : ℕ) (more : l < m) (w : WorldState) (h : IsSound l w) where
  next_sound : (o : Option ℕ) (go : WorldState → ℕ → Stepped) → ((v : WorldState) (k : ℕ) → IsSound l v → IsSound m (go v k).world) → IsSound m (with_next w go o).world
  next_sound None go each = same l m more w h
  next_sound (Some k) go each = each (record w { link = next_handed w.link }) k (handed_sound l w h)

  ticked_sound : (by : ℕ) → by ≤ 1000000000 → IsSound m (record w { moment = w.moment + by })
  ticked_sound by few = record {
    moment = omega (arith, h.moment, more, few);
    frames = omega (arith, h.frames, more);
    notes = h.notes;
    clients = each_weaker (IsWithin l w.moment) (IsWithin m (w.moment + by)) (within_later l m w.moment (w.moment + by) (omega (arith, more)) (omega arith)) w.clients h.clients;
    apart = h.apart;
    order = h.order;
  }

  pub step_sound : (e : Event) → IsFair e → IsSound m (step w m e).world
  step_sound (event.Call c text) fair =
      found_sound l m more w h c (client_in w.clients c) (λ s. call_judged w s (call_of text) (issue_fault s (call_of text))) refl (λ s within. judged_sound l m more w h s (call_of text) (issue_fault s (call_of text)) within)
  step_sound (event.Poll c) fair =
      found_sound l m more w h c (client_in w.clients c) (λ s. polled w m s (poll s w.moment)) refl (λ s within. polled_sound l m more w h m s (poll s w.moment) within)
  step_sound (event.Deliver frame) fair = deliver_sound l m more w h m frame
  step_sound event.DeliverNext fair = next_sound (next_number w.link) (λ v k. deliver v m k) (λ v k sound. deliver_sound l m more v sound m k)
  step_sound event.Drop fair = next_sound (next_number w.link) (λ v k. shows v (did.Dropped k)) (λ v k sound. same l m more v sound)
  step_sound (event.Tick by) fair = ticked_sound by fair
  step_sound (event.Peek pid addr len) fair = same l m more w h
  step_sound (event.Show frame) fair = same l m more w h
  step_sound event.Stat fair = same l m more w h
  step_sound (event.GarbageNode bytes) fair = same l m more w h
  step_sound (event.GarbageClient c bytes) fair = same l m more w h
