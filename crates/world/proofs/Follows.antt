-- Each event leaves a world standing.
use Rattle.std.proofs.Common.{◌≡◌, ℕ, zero, suc, ◌+◌, ◌-◌, ◌<◌, ◌≤◌, ◌^◌, List, [], ◌∷◌, ◌++◌, refl, sym, ap, ◌∙◌, subst, Bool, true, false, cond, arith, Some, None, Option, length, map, ◌⊎◌, ⊎_elim}
use Rattle.std.specs.Prelude.{find, min, not, nat_lt, option_map, slice_get, unwrap_or, ◌&&◌, ◌==◌, ◌||◌}
use Rattle.std.specs.List.{AllByRecursion as Each, list_any}
use Rattle.std.proofs.Math.Nat.{min-eq_left, min-eq_right}
use Rattle.std.proofs.lemmas.Bool.Decides.{nat_tests}
use Rattle.std.proofs.lemmas.List.{append-nil, length-drop}
use Rattle.std.proofs.lemmas.List.Sums.{sum_by-append}
use Rattle.cl_types.specs.Times.{is_due, is_live, is_old}
use Rattle.cl_types.specs.declared.config.Config.{Config}
use Rattle.cl_types.specs.declared.frame.BadFrame.{BadFrame}
use Rattle.cl_types.specs.declared.frame.End.TheVariants as to
use Rattle.cl_types.specs.declared.frame.Head.{Head}
use Rattle.cl_types.specs.declared.frame.How.{How}
use Rattle.cl_types.specs.declared.frame.How.TheVariants.{Executed, Repeated, Looked}
use Rattle.cl_types.specs.declared.frame.IssueFault.{IssueFault}
use Rattle.cl_types.specs.declared.line.Did.{Did}
use Rattle.cl_types.specs.declared.line.Did.TheVariants as did
use Rattle.cl_types.specs.declared.line.Entry.{Entry}
use Rattle.cl_types.specs.declared.numbers.Addr.{Addr}
use Rattle.cl_types.specs.declared.numbers.ClientNo.{ClientNo}
use Rattle.cl_types.specs.declared.reply.Reply.{Reply}
use Rattle.cl_types.specs.declared.schedule.CallText.{CallText}
use Rattle.cl_types.specs.declared.schedule.Event.{Event}
use Rattle.cl_types.specs.declared.schedule.Event.TheVariants as event
use Rattle.link_sim.specs.Got.{Live, Expired, found_at}
use Rattle.link_sim.specs.LinkFrames.{LinkFrames, next_number}
use Rattle.link_sim.specs.LinkFrames.{frame_at as link_frame}
use Rattle.frame_model.proofs.ReplyFrameLemmas.{replies_are_read_again}
use Rattle.frame_model.proofs.RequestFrameLemmas.{requests_are_read_again}
use Rattle.trace.specs.Account.{Account, Carried, Effect, Frame, Load, Asks, Answers, asks_next, end_of, extended, found_none, frame_at, is_before, memory_at, next_frame_number, nothing_yet, now, recorded, says, taken_in_order, ticks_of, with_entries, with_entry}
use Rattle.client_model.specs.Client.{ClientState, ClientCall, ClientPart, Outgoing, Polled, GivesUp, EndsFence, Sends, Idles, Sending, after_issue, after_poll, after_reply, again, anew, fence_first, flight_under, flights, handed_out, has_room_in_flight, head_of, next_id, poll, sendable, to_give_up, to_send, to_send_again}
use Rattle.cl_types.specs.Parts.{same_client}
use Rattle.cl_types.specs.Written.{call_of, expanded}
use Rattle.trace.specs.Clients.{client_at, pid_of}
use Rattle.trace.specs.Events.{account, account_from, account_of_latest, effect, handed, if_live, if_there, next_account, nothing_happens, on_call, on_delivery, on_flight, on_found_page, on_frame, on_garbage, on_judged, on_peek, on_polled, on_reply, sent_text, shown, then_also}
use Rattle.frame_model.specs.FrameLaws.{ReadsAsReply, ReadsAsRequest}
use Rattle.frame_model.specs.Frames.{Item, head_in, kind_of, status_in, reply_fault, request_fault, request_in, reply_in}
use Rattle.node_model.specs.Handling.{latest}
use Rattle.client_model.specs.Hearing.{hearing}
use Rattle.client_model.specs.Issue.{issue_fault, after_judged}
use Rattle.node_model.specs.Nodes.{NodeState, NodeStep, ItemAnswer, Gives, IsBusy, node_after, said_to, step_item}
use Rattle.client_model.specs.Order.{is_fence}
use Rattle.cl_types.specs.Pages.{page_of}
use Rattle.flat_model.specs.Run.{after, changing_of}
use Rattle.flat_model.specs.State.{Page, opening, page_at, used}
use Rattle.client_laws.specs.Following.{after_delivered, after_event, after_frame, after_heard, after_load}
use Rattle.trace_laws.specs.NodeLines.{NodeFollows, items_carried, node_after_delivered, node_after_event, node_after_frame, node_after_load, node_at, on_all_said, on_said, record_at}
use Rattle.trace.specs.Schedules.{IsGood, has_client, is_of_clients, IsRisingFrom}
use Rattle.trace_laws.specs.Spelled.{IsLookOf, SpellsLoad, heard_as}
use Rattle.client_laws.proofs.Following.{clients_follow}
use Rattle.trace_laws.proofs.Induction.{past}
use Rattle.trace_laws.proofs.Insert.{all_before}
use Rattle.lemmas.proofs.Lists.{case_of_map, none_some, slice_get_within, slice_get_there}
use Rattle.client_laws.proofs.Entries.{first_case}
use Rattle.trace_laws.proofs.Moments.{clock_extended, now_clock}
use Rattle.trace_laws.proofs.NodeLines.{map-append, map-length, nodes_follow, rising_front, slice_get-map}
use Rattle.trace_laws.proofs.OnceKept.{Base, base_later, base_of_account}
use Rattle.trace_laws.proofs.PartsOnce.{ReplyStands}
use Rattle.trace_laws.proofs.Ran.{Ran}
use Rattle.lemmas.proofs.SameParts.{eqb_is, same_clients}
use Rattle.trace_laws.proofs.Spelled.{frames_are_spelled, replies_are_heard, rises_from_zero}
use Rattle.trace_laws.proofs.TimesKept.{frame_at_each}
use Rattle.trace_laws.proofs.WindowKept.{one_account}
use Rattle.world.specs.declared.note.Note.{Note}
use Rattle.world.specs.Worlds.{WorldState, Stepped, arrived, call_judged, client_heard, client_in, deliver, delivered, garbage, node_judged, node_said, node_stepped, note_on, peeked, polled, frame_shown, shows, step, taken_entry, with_client, with_found, with_next}
use Rattle.world.specs.Follows.{HaveNotes, IsNoteOf, IsReadOff, StandsOn, WorldsFollow, sent_as}

-- ---- clients
turned : (m n : ℕ) → (m == n) ≡ (n == m)
turned m n = go (m == n) (n == m) refl refl where
  go : (a b : Bool) → (m == n) ≡ a → (n == m) ≡ b → a ≡ b
  go true true h k = refl
  go false false h k = refl
  go true false h k = let e : m ≡ n = eqb_is m n h in grind (arith, nat_tests)
  go false true h k = let e : n ≡ m = eqb_is n m k in grind (arith, nat_tests)

-- the client of a number that is given is found
found : (config : Config) (a : Account) (given : List (ClientNo × ℕ)) (c : ClientNo) → has_client given c ≡ true
    → client_in (map (λ (d : ClientNo × ℕ). client_at config a d.0) given) c ≡ Some (client_at config a c)
found config a [] c has = absurd (grind arith)
found config a (d ∷ given) c has = go (same_client c d.0) refl (turned c.0 d.0.0) has (found config a given c) where
  go : (b : Bool) → same_client c d.0 ≡ b → (c.0 == d.0.0) ≡ (d.0.0 == c.0) → (d.0.0 == c.0 || has_client given c) ≡ true
      → (has_client given c ≡ true → client_in (map (λ (d : ClientNo × ℕ). client_at config a d.0) given) c ≡ Some (client_at config a c))
      → ◌≡◌ {A = Option ClientState} (cond b (Some (client_at config a d.0)) (client_in (map (λ (d : ClientNo × ℕ). client_at config a d.0) given) c)) (Some (client_at config a c))
  go true same t has rest = ap (λ x. Some (client_at config a x)) (sym (same_clients c d.0 same))
  go false apart t has rest = rest (subst (λ b. (b || has_client given c) ≡ true) (sym t ∙ apart) has)

-- one client's state in its place
replaced : (config : Config) (a : Account) (given : List (ClientNo × ℕ)) (c : ClientNo) (new : ClientState) (g : ClientState → ClientState) → new.client ≡ c → new ≡ g (client_at config a c)
    → with_client new (map (λ (d : ClientNo × ℕ). client_at config a d.0) given)
    ≡ map (λ (d : ClientNo × ℕ). cond (same_client d.0 c) (g (client_at config a d.0)) (client_at config a d.0)) given
replaced config a [] c new g is value = refl
replaced config a (d ∷ given) c new g is value =
    ap (λ x. x ∷ with_client new (map (λ (d : ClientNo × ℕ). client_at config a d.0) given)) (ap (λ (n : ClientNo). cond (same_client n d.0) new (client_at config a d.0)) is ∙ ap (λ b. cond b new (client_at config a d.0)) (turned c.0 d.0.0) ∙ one (same_client d.0 c) refl)
    ∙ ap (λ xs. cond (same_client d.0 c) (g (client_at config a d.0)) (client_at config a d.0) ∷ xs) (replaced config a given c new g is value)
  where
    one : (b : Bool) → same_client d.0 c ≡ b → cond b new (client_at config a d.0) ≡ cond b (g (client_at config a d.0)) (client_at config a d.0)
    one true same = value ∙ ap (λ x. g (client_at config a x)) (sym (same_clients d.0 c same))
    one false apart = refl

same_map : {X Y : Type 0} (f g : X → Y) (xs : List X) → ((x : X) → f x ≡ g x) → map f xs ≡ map g xs
same_map f g [] h = refl
same_map f g (x ∷ xs) h = ap (λ y. y ∷ map f xs) (h x) ∙ ap (λ ys. g x ∷ ys) (same_map f g xs h)

-- a client with a process is one of those given
pid_has : (given : List (ClientNo × ℕ)) (c : ClientNo) → 1 ≤ unwrap_or (option_map (λ (entry : ClientNo × ℕ). entry.1) (find (λ (entry : ClientNo × ℕ). same_client c entry.0) given)) 0 → has_client given c ≡ true
pid_has [] c some = absurd (omega arith)
pid_has (d ∷ given) c some = go (same_client c d.0) refl (turned c.0 d.0.0) some (pid_has given c) where
  go : (b : Bool) → same_client c d.0 ≡ b → (c.0 == d.0.0) ≡ (d.0.0 == c.0)
      → 1 ≤ unwrap_or (option_map (λ (entry : ClientNo × ℕ). entry.1) (cond b (Some d) (find (λ (entry : ClientNo × ℕ). same_client c entry.0) given))) 0
      → (1 ≤ unwrap_or (option_map (λ (entry : ClientNo × ℕ). entry.1) (find (λ (entry : ClientNo × ℕ). same_client c entry.0) given)) 0 → has_client given c ≡ true)
      → (d.0.0 == c.0 || has_client given c) ≡ true
  go true same t some rest = ap (λ b. b || has_client given c) (sym t ∙ same)
  go false apart t some rest = ap (λ b. b || has_client given c) (sym t ∙ apart) ∙ rest some

-- ---- notes
notes_joined : (frames : List Frame) (notes : List Note) (f : Frame) (note : Note) → HaveNotes frames notes → IsNoteOf f.load note → HaveNotes (frames ++ f ∷ []) (notes ++ note ∷ [])
notes_joined [] [] f note h k = (k, tt)
notes_joined [] (n ∷ notes) f note h k = absurd h
notes_joined (g ∷ frames) [] f note h k = absurd h
notes_joined (g ∷ frames) (n ∷ notes) f note h k = (h.0, notes_joined frames notes f note h.1 k)

note_there : (frames : List Frame) (notes : List Note) (i : ℕ) (f : Frame) → HaveNotes frames notes → slice_get frames i ≡ Some f → (note : Note) × (slice_get notes i ≡ Some note) × IsNoteOf f.load note
note_there [] [] i f h is = absurd (none_some f is)
note_there [] (n ∷ notes) i f h is = absurd h
note_there (g ∷ frames) [] i f h is = absurd h
note_there (g ∷ frames) (n ∷ notes) zero f h is = let same : g ≡ f = cc in (n, refl, subst (λ (x : Frame). IsNoteOf x.load n) same h.0)
note_there (g ∷ frames) (n ∷ notes) (suc i) f h is = note_there frames notes i f h.1 is

note_of_frame : (a : Account) (notes : List Note) (k : ℕ) (f : Frame) → HaveNotes a.frames notes → frame_at a k ≡ Some f → (note : Note) × (note_on notes k ≡ Some note) × IsNoteOf f.load note
note_of_frame a notes zero f h is = absurd (none_some f is)
note_of_frame a notes (suc k) f h is = note_there a.frames notes k f h is

-- ---- the account grows
pub from_append : (keep : List Entry → List Entry) (config : Config) (a : Account) (es : List (ℕ × Event)) (e : ℕ × Event) → account_from keep config a (es ++ e ∷ []) ≡ next_account keep config (account_from keep config a es) e
from_append keep config a [] e = refl
from_append keep config a (x ∷ es) e = from_append keep config (next_account keep config a x) es e

taken_extended : (a : Account) (l : ℕ) (event : Event) (e : Effect) → taken_in_order (extended a l event e) ≡ taken_in_order a + cond (asks_next event && not (list_any found_none e.texts)) 1 0
taken_extended a l event e =
    sum_by-append (λ line. cond (asks_next line.event && not (list_any found_none line.texts)) 1 0) a.lines _
    ∙ ap (λ n. taken_in_order a + n) (let z : 0 + cond (asks_next event && not (list_any found_none e.texts)) 1 0 ≡ cond (asks_next event && not (list_any found_none e.texts)) 1 0 = omega arith in z)

-- ---- what is known of the account and the event
record Here (config : Config) (a : Account) (l : ℕ) (event : Event) : Type 0 where
  base : Base config a l
  spells : Each (λ (f : Frame). SpellsLoad f.bytes f.line f.load) a.frames
  heard : (k : ℕ) (f : Frame) (head : Head) (reply : Reply) (if_taken : List Entry) → frame_at a k ≡ Some f → f.load ≡ Answers head reply if_taken
      → hearing (client_at config a head.client) f.bytes ≡ heard_as head reply (flight_under head.orig (client_at config a head.client))
  node : NodeFollows config a l event
  client : (c : ClientNo) → client_at config (next_account (latest config.node.retry) config a (l, event)) c ≡ after_event a l event (client_at config a c)
  known : is_of_clients config.clients event ≡ true

module _ (config : Config) (a : Account) (l : ℕ) where
  -- the world that is read off the account, with these notes, and so many frames handed out
  abbrev read : List Note → ℕ → WorldState
  read notes handed = record {
    moment = now a l;
    node = node_at config a;
    clients = map (λ (d : ClientNo × ℕ). client_at config a d.0) config.clients;
    link = record { frames = map sent_as a.frames; handed_out = handed };
    notes = notes;
    history = a.history;
  }

  -- what an effect and a step have in common, where the node and the clients are left so
  record Agree (event : Event) (n : NodeState) (g : ClientNo × ℕ → ClientState) (handed : ℕ) (e : Effect) (s : Stepped) : Type 0 where
    told : e.texts ≡ s.did ∷ []
    ended : e.ended ≡ s.ended
    moment : s.world.moment ≡ now a l + ticks_of event
    node : s.world.node ≡ n
    clients : s.world.clients ≡ map g config.clients
    frames : s.world.link.frames ≡ map sent_as (a.frames ++ e.frames)
    handed_out : s.world.link.handed_out ≡ handed
    notes : HaveNotes (a.frames ++ e.frames) s.world.notes
    history : s.world.history ≡ with_entries e.entries a.history

  abbrev same_client_states : ClientNo × ℕ → ClientState
  same_client_states d = client_at config a d.0

  no_frames : (notes : List Note) → HaveNotes a.frames notes → HaveNotes (a.frames ++ []) notes
  no_frames notes h = subst (λ frames. HaveNotes frames notes) (sym (append-nil a.frames)) h

  same_frames : map sent_as a.frames ≡ map sent_as (a.frames ++ [])
  same_frames = ap (map sent_as) (sym (append-nil a.frames))

  -- a text alone
  text_agrees : (event : Event) (d : Did) (notes : List Note) (handed : ℕ) → HaveNotes a.frames notes → ticks_of event ≡ 0 → Agree event (node_at config a) same_client_states handed (says d) (shows (read notes handed) d)
  text_agrees event d notes handed h still = record {
    told = refl;
    ended = refl;
    moment = let z : now a l ≡ now a l + ticks_of event = omega (arith, still) in z;
    node = refl;
    clients = refl;
    frames = same_frames;
    handed_out = refl;
    notes = no_frames notes h;
    history = refl;
  }

  -- ---- calls and polls
  call_agrees : (c : ClientNo) (text : CallText) (notes : List Note) (handed : ℕ) → HaveNotes a.frames notes → (o : Option IssueFault)
      → Agree (event.Call c text) (node_at config a) (λ (d : ClientNo × ℕ). cond (same_client d.0 c) (after_judged o (call_of text) (client_at config a d.0)) (client_at config a d.0)) handed
      (on_judged (client_at config a c) o) (call_judged (read notes handed) (client_at config a c) (call_of text) o)
  call_agrees c text notes handed h (Some fault) = record {
    told = refl;
    ended = refl;
    moment = let z : now a l ≡ now a l + 0 = omega arith in z;
    node = refl;
    clients = same_map (λ (d : ClientNo × ℕ). client_at config a d.0) (λ (d : ClientNo × ℕ). cond (same_client d.0 c) (client_at config a d.0) (client_at config a d.0)) config.clients (λ d. both (same_client d.0 c) (client_at config a d.0));
    frames = same_frames;
    handed_out = refl;
    notes = no_frames notes h;
    history = refl;
  }
    where
      both : (b : Bool) (s : ClientState) → s ≡ cond b s s
      both true s = refl
      both false s = refl
  call_agrees c text notes handed h None = record {
    told = refl;
    ended = refl;
    moment = let z : now a l ≡ now a l + 0 = omega arith in z;
    node = refl;
    clients = replaced config a config.clients c (after_issue (call_of text) (client_at config a c)) (after_issue (call_of text)) refl refl;
    frames = same_frames;
    handed_out = refl;
    notes = no_frames notes h;
    history = refl;
  }

  -- a poll sends one part, where it sends
  abbrev IsSingle : Polled → Type 0
  IsSingle (Sends items) = (o : Outgoing) × (items ≡ o ∷ [])
  IsSingle other = Unit {0}

  fence_single : (calls : List ClientCall) (x : Polled) → fence_first calls ≡ Some x → IsSingle x
  fence_single [] x e = absurd (none_some x e)
  fence_single (k ∷ rest) x e = go (is_fence k.call) e where
    go : (b : Bool) → cond b (Some (EndsFence k.number)) None ≡ Some x → IsSingle x
    go true e = let same : EndsFence k.number ≡ x = cc in subst IsSingle same tt
    go false e = absurd (none_some x e)

  send_single : (s : ClientState) (room : Bool) (x : Polled) → cond room (option_map (λ (p : ClientPart). Sends (anew (next_id s) p ∷ [])) (slice_get (sendable s) 0)) None ≡ Some x → IsSingle x
  send_single s true x e = case_of_map IsSingle (λ (p : ClientPart). Sends (anew (next_id s) p ∷ [])) (slice_get (sendable s) 0) (λ p is. (anew (next_id s) p, refl)) x e
  send_single s false x e = absurd (none_some x e)

  poll_single : (s : ClientState) (t : ℕ) → IsSingle (poll s t)
  poll_single s t = first_case IsSingle (to_give_up s t ∷ fence_first s.calls ∷ to_send_again s t ∷ to_send s ∷ []) Idles (
    case_of_map IsSingle GivesUp (find (λ f. is_old t f.first) (flights s)) (λ f is. tt),
    (
      fence_single s.calls,
      (
        case_of_map IsSingle (λ (f : Sending). Sends (again (next_id s) f ∷ [])) (find (λ f. is_due t f.first f.last) (flights s)) (λ f is. (again (next_id s) f, refl)),
        (send_single s (has_room_in_flight s), tt),
      ),
    ),
  ) tt

  poll_agrees : (c : ClientNo) (notes : List Note) (handed : ℕ) → HaveNotes a.frames notes → (p : Polled) → IsSingle p
      → Agree (event.Poll c) (node_at config a) (λ (d : ClientNo × ℕ). cond (same_client d.0 c) (handed_out (after_poll (now a l) p (client_at config a d.0))) (client_at config a d.0)) handed
      (on_polled a l (client_at config a c) p) (polled (read notes handed) l (client_at config a c) p)
  poll_agrees c notes handed h (GivesUp f) single = record {
    told = refl;
    ended = refl;
    moment = let z : now a l ≡ now a l + 0 = omega arith in z;
    node = refl;
    clients = replaced config a config.clients c (handed_out (after_poll (now a l) (GivesUp f) (client_at config a c))) (λ s. handed_out (after_poll (now a l) (GivesUp f) s)) refl refl;
    frames = same_frames;
    handed_out = refl;
    notes = no_frames notes h;
    history = refl;
  }
  poll_agrees c notes handed h (EndsFence n) single = record {
    told = refl;
    ended = refl;
    moment = let z : now a l ≡ now a l + 0 = omega arith in z;
    node = refl;
    clients = replaced config a config.clients c (handed_out (after_poll (now a l) (EndsFence n) (client_at config a c))) (λ s. handed_out (after_poll (now a l) (EndsFence n) s)) refl refl;
    frames = same_frames;
    handed_out = refl;
    notes = no_frames notes h;
    history = refl;
  }
  poll_agrees c notes handed h Idles single = record {
    told = refl;
    ended = refl;
    moment = let z : now a l ≡ now a l + 0 = omega arith in z;
    node = refl;
    clients = replaced config a config.clients c (handed_out (after_poll (now a l) Idles (client_at config a c))) (λ s. handed_out (after_poll (now a l) Idles s)) refl refl;
    frames = same_frames;
    handed_out = refl;
    notes = no_frames notes h;
    history = refl;
  }
  poll_agrees c notes handed h (Sends items) single =
      subst (λ is. Agree (event.Poll c) (node_at config a) (λ (d : ClientNo × ℕ). cond (same_client d.0 c) (handed_out (after_poll (now a l) (Sends is) (client_at config a d.0))) (client_at config a d.0)) handed
      (on_polled a l (client_at config a c) (Sends is)) (polled (read notes handed) l (client_at config a c) (Sends is))) (sym single.1) (one single.0)
    where
      one : (o : Outgoing) → Agree (event.Poll c) (node_at config a) (λ (d : ClientNo × ℕ). cond (same_client d.0 c) (handed_out (after_poll (now a l) (Sends (o ∷ [])) (client_at config a d.0))) (client_at config a d.0)) handed
          (on_polled a l (client_at config a c) (Sends (o ∷ []))) (polled (read notes handed) l (client_at config a c) (Sends (o ∷ [])))
      one o = record {
        told = ap (λ d. d ∷ []) (ap (λ n. sent_text c n o) (sym (ap (λ n. n + 1) (map-length sent_as a.frames))));
        ended = refl;
        moment = let z : now a l ≡ now a l + 0 = omega arith in z;
        node = refl;
        clients = replaced config a config.clients c (handed_out (after_poll (now a l) (Sends (o ∷ [])) (client_at config a c))) (λ s. handed_out (after_poll (now a l) (Sends (o ∷ [])) s)) refl refl;
        frames = sym (map-append sent_as a.frames _);
        handed_out = refl;
        notes = notes_joined a.frames notes _ _ h ((λ i is. same_part_of i is), refl);
        history = refl;
      }
        where
          same_part_of : (i : Carried) → ◌≡◌ {A = List Carried} (record { part = o.part; item = record { head = head_of c (pid_of config c) o; request = o.request } } ∷ []) (i ∷ []) → o.part ≡ i.part
          same_part_of i is = let same : ◌≡◌ {A = Carried} (record { part = o.part; item = record { head = head_of c (pid_of config c) o; request = o.request } }) i = cc in ap (λ (x : Carried). x.part) same

  -- ---- a delivery
  -- agreement on a delivery: which frame is next isn't asked, and its text isn't that there is none
  record Delivers (event : Event) (n : NodeState) (g : ClientNo × ℕ → ClientState) (handed : ℕ) (e : Effect) (s : Stepped) : Type 0 where
    agrees : Agree event n g handed e s
    finds : found_none s.did ≡ false

  module _ (event : Event) (here : Here config a l event) (still : ticks_of event ≡ 0) (notes : List Note) (have : HaveNotes a.frames notes) (out : ℕ) where
    same_moment : now a l ≡ now a l + ticks_of event
    same_moment = omega (arith, still)

    -- the node said this to the item of a frame
    said_agrees : (k : ℕ) (i : Carried) (note : Note) → note.part ≡ i.part → (s : NodeStep)
        → Delivers event s.node same_client_states out (then_also (on_said a l k 0 i s.said) nothing_happens) (node_stepped (read notes out) l k note.part i.item s)
    said_agrees k i note part s = subst (λ p. Delivers event s.node same_client_states out (then_also (on_said a l k 0 i s.said) nothing_happens) (node_stepped (read notes out) l k p i.item s)) (sym part) (go s.said) where
      numbered : (client : ClientNo) (how : How) (status : ℕ) → did.Handled k client i.part how status (next_frame_number a) ≡ did.Handled k client i.part how status (length (map sent_as a.frames) + 1)
      numbered client how status = ap (λ n. did.Handled k client i.part how status (n + 1)) (sym (map-length sent_as a.frames))

      go : (said : ItemAnswer) → Delivers event s.node same_client_states out (then_also (on_said a l k 0 i said) nothing_happens) (node_said (record (read notes out) { node = s.node }) l k i.part i.item said)
      go (IsBusy oldest at) = record {
        agrees = record { told = refl; ended = refl; moment = same_moment; node = refl; clients = refl; frames = same_frames; handed_out = refl; notes = no_frames notes have; history = refl };
        finds = refl;
      }
      go (Gives Executed reply) = record {
        agrees = record { told = ap (λ d. d ∷ []) (numbered i.item.head.client Executed (status_in reply)); ended = refl; moment = same_moment; node = refl; clients = refl; frames = sym (map-append sent_as a.frames _); handed_out = refl; notes = notes_joined a.frames notes _ _ have refl; history = refl };
        finds = refl;
      }
      go (Gives Repeated reply) = record {
        agrees = record { told = ap (λ d. d ∷ []) (numbered i.item.head.client Repeated (status_in reply)); ended = refl; moment = same_moment; node = refl; clients = refl; frames = sym (map-append sent_as a.frames _); handed_out = refl; notes = notes_joined a.frames notes _ _ have refl; history = refl };
        finds = refl;
      }
      go (Gives Looked reply) = record {
        agrees = record { told = ap (λ d. d ∷ []) (numbered i.item.head.client Looked (status_in reply)); ended = refl; moment = same_moment; node = refl; clients = refl; frames = sym (map-append sent_as a.frames _); handed_out = refl; notes = notes_joined a.frames notes _ _ have (refl, refl); history = refl };
        finds = refl;
      }

    -- a request frame at the node
    asks_agree : (k : ℕ) (f : Frame) (items : List Carried) (note : Note) → frame_at a k ≡ Some f → f.load ≡ Asks items → SpellsLoad f.bytes f.line (Asks items) → IsNoteOf (Asks items) note
        → Delivers event (node_after latest (node_at config a) (now a l) (items_carried items)) same_client_states out (handed (latest config.node.retry) config a l k (Asks items)) (node_judged (read notes out) l k note.part f.bytes (request_fault f.bytes))
    asks_agree k f items note is carries spells notes_it =
        let i : Carried = spells.0 in
        let reads : ReadsAsRequest f.bytes spells.0.item.head spells.0.item.request = requests_are_read_again f.bytes spells.0.item.head spells.0.item.request spells.2 in
        let one = said_agrees k spells.0 note (notes_it.0 spells.0 spells.1) (step_item latest (node_at config a) (now a l) spells.0.item) in
        let item : ◌≡◌ {A = Item} (record { head = head_in f.bytes; request = request_in f.bytes }) spells.0.item = λ j. record { head = reads.same_head j; request = reads.same_body j } in
        let judged : node_judged (read notes out) l k note.part f.bytes (request_fault f.bytes) ≡ node_stepped (read notes out) l k note.part spells.0.item (step_item latest (node_at config a) (now a l) spells.0.item) =
        ap (node_judged (read notes out) l k note.part f.bytes) reads.faultless
        ∙ ap (λ (x : Item). node_stepped (read notes out) l k note.part x (step_item latest (node_at config a) (now a l) x)) item in
        let on_these : Delivers event (node_after latest (node_at config a) (now a l) (items_carried items)) same_client_states out
        (on_all_said a l k 0 items (said_to latest (node_at config a) (now a l) (items_carried items))) (node_stepped (read notes out) l k note.part spells.0.item (step_item latest (node_at config a) (now a l) spells.0.item)) =
        subst (λ xs. Delivers event (node_after latest (node_at config a) (now a l) (items_carried xs)) same_client_states out
        (on_all_said a l k 0 xs (said_to latest (node_at config a) (now a l) (items_carried xs))) (node_stepped (read notes out) l k note.part spells.0.item (step_item latest (node_at config a) (now a l) spells.0.item))) (sym spells.1) one in
        subst (λ e. Delivers event (node_after latest (node_at config a) (now a l) (items_carried items)) same_client_states out e (node_judged (read notes out) l k note.part f.bytes (request_fault f.bytes)))
        (sym (here.node.says k f items is carries))
        (subst (Delivers event (node_after latest (node_at config a) (now a l) (items_carried items)) same_client_states out (on_all_said a l k 0 items (said_to latest (node_at config a) (now a l) (items_carried items)))) (sym judged) on_these)

    -- a reply frame at its client
    answers_agree : (k : ℕ) (f : Frame) (head : Head) (reply : Reply) (if_taken : List Entry) (note : Note) → frame_at a k ≡ Some f → f.load ≡ Answers head reply if_taken → SpellsLoad f.bytes f.line (Answers head reply if_taken)
        → IsNoteOf (Answers head reply if_taken) note
        → Delivers event (node_at config a) (λ (d : ClientNo × ℕ). after_load (Answers head reply if_taken) (client_at config a d.0)) out
        (on_reply (client_at config a head.client) k head reply if_taken)
        (with_found (read notes out) (client_in (map (λ (d : ClientNo × ℕ). client_at config a d.0) config.clients) head.client) (λ s. client_heard (read notes out) k f.line note s f.bytes (hearing s f.bytes)))
    answers_agree k f head reply if_taken note is carries spells notes_it =
        ap_found (found config a config.clients head.client has)
        (subst (λ h. Delivers event (node_at config a) (λ (d : ClientNo × ℕ). after_load (Answers head reply if_taken) (client_at config a d.0)) out (on_reply (client_at config a head.client) k head reply if_taken) (client_heard (read notes out) k f.line note (client_at config a head.client) f.bytes h))
        (sym (here.heard k f head reply if_taken is carries)) (heard_so (flight_under head.orig (client_at config a head.client)) refl))
      where
        stands : ReplyStands config a a.history (Answers head reply if_taken)
        stands = subst (ReplyStands config a a.history) carries (frame_at_each (λ (f : Frame). ReplyStands config a a.history f.load) a k f here.base.once.answers is)

        has : has_client config.clients head.client ≡ true
        has = pid_has config.clients head.client (let some : 1 ≤ head.pid = spells.1.good_head.pid.0 in subst (λ n. 1 ≤ n) stands.2.process some)

        ap_found : client_in (map (λ (d : ClientNo × ℕ). client_at config a d.0) config.clients) head.client ≡ Some (client_at config a head.client)
            → Delivers event (node_at config a) (λ (d : ClientNo × ℕ). after_load (Answers head reply if_taken) (client_at config a d.0)) out (on_reply (client_at config a head.client) k head reply if_taken)
            (client_heard (read notes out) k f.line note (client_at config a head.client) f.bytes (hearing (client_at config a head.client) f.bytes))
            → Delivers event (node_at config a) (λ (d : ClientNo × ℕ). after_load (Answers head reply if_taken) (client_at config a d.0)) out (on_reply (client_at config a head.client) k head reply if_taken)
            (with_found (read notes out) (client_in (map (λ (d : ClientNo × ℕ). client_at config a d.0) config.clients) head.client) (λ s. client_heard (read notes out) k f.line note s f.bytes (hearing s f.bytes)))
        ap_found there d = subst (λ o. Delivers event (node_at config a) (λ (d : ClientNo × ℕ). after_load (Answers head reply if_taken) (client_at config a d.0)) out (on_reply (client_at config a head.client) k head reply if_taken)
            (with_found (read notes out) o (λ s. client_heard (read notes out) k f.line note s f.bytes (hearing s f.bytes)))) (sym there) d

        -- where no part in flight has its orig, all clients stay
        none_left : flight_under head.orig (client_at config a head.client) ≡ None → (d : ClientNo × ℕ) → client_at config a d.0 ≡ after_load (Answers head reply if_taken) (client_at config a d.0)
        none_left none d = go (same_client d.0 head.client) refl where
          go : (b : Bool) → same_client d.0 head.client ≡ b → client_at config a d.0 ≡ cond b (after_heard (flight_under head.orig (client_at config a d.0)) reply (client_at config a d.0)) (client_at config a d.0)
          go false apart = refl
          go true same = subst (λ c. client_at config a c ≡ after_heard (flight_under head.orig (client_at config a c)) reply (client_at config a c)) (sym (same_clients d.0 head.client same))
              (ap (λ o. after_heard o reply (client_at config a head.client)) (sym none))

        -- the entry of a look, where one waits
        entry_taken : (es : List Entry) → ReplyStands config a a.history (Answers head reply es) → Each (IsLookOf f.line head) es → IsNoteOf (Answers head reply es) note → taken_entry f.line f.bytes note.part note.looked a.history ≡ with_entries es a.history
        entry_taken [] st looks its = ap (λ o. taken_entry f.line f.bytes note.part o a.history) its
        entry_taken (e ∷ es) st looks its =
            let reads : ReadsAsReply f.bytes head (kind_of spells.0) reply = replies_are_read_again f.bytes head (kind_of spells.0) reply spells.1 in
            let line : f.line ≡ e.line = sym looks.0.on_line in
            let first : 0 ≡ e.position = sym looks.0.first in
            let client : (head_in f.bytes).client ≡ e.client = ap (λ (h : Head). h.client) reads.same_head ∙ sym st.3.1.client in
            let process : (head_in f.bytes).pid ≡ e.pid = ap (λ (h : Head). h.pid) reads.same_head ∙ sym looks.0.process in
            let part : note.part ≡ e.part = its.0 in
            let answer : reply_in f.bytes ≡ e.reply = reads.same_body ∙ sym st.3.1.reply_is in
            let same : ◌≡◌ {A = Entry} (record { line = f.line; position = 0; client = (head_in f.bytes).client; pid = (head_in f.bytes).pid; part = note.part; request = e.request; reply = reply_in f.bytes }) e =
            λ j. record { line = line j; position = first j; client = client j; pid = process j; part = part j; request = e.request; reply = answer j } in
            ap (λ o. taken_entry f.line f.bytes note.part o a.history) its.1
            ∙ ap (λ x. with_entry x a.history) same
            ∙ ap (λ xs. with_entries xs (with_entry e a.history)) (sym st.3.2)

        heard_so : (o : Option Sending) → flight_under head.orig (client_at config a head.client) ≡ o
            → Delivers event (node_at config a) (λ (d : ClientNo × ℕ). after_load (Answers head reply if_taken) (client_at config a d.0)) out
            (on_flight (client_at config a head.client) k head reply if_taken (flight_under head.orig (client_at config a head.client)))
            (client_heard (read notes out) k f.line note (client_at config a head.client) f.bytes (heard_as head reply (flight_under head.orig (client_at config a head.client))))
        heard_so o there = subst (λ x. Delivers event (node_at config a) (λ (d : ClientNo × ℕ). after_load (Answers head reply if_taken) (client_at config a d.0)) out
            (on_flight (client_at config a head.client) k head reply if_taken x) (client_heard (read notes out) k f.line note (client_at config a head.client) f.bytes (heard_as head reply x))) (sym there) (by o there)
          where
            by : (o : Option Sending) → flight_under head.orig (client_at config a head.client) ≡ o
                → Delivers event (node_at config a) (λ (d : ClientNo × ℕ). after_load (Answers head reply if_taken) (client_at config a d.0)) out
                (on_flight (client_at config a head.client) k head reply if_taken o) (client_heard (read notes out) k f.line note (client_at config a head.client) f.bytes (heard_as head reply o))
            by None none = record {
              agrees = record {
                told = refl;
                ended = refl;
                moment = same_moment;
                node = refl;
                clients = same_map (λ (d : ClientNo × ℕ). client_at config a d.0) (λ (d : ClientNo × ℕ). after_load (Answers head reply if_taken) (client_at config a d.0)) config.clients (none_left none);
                frames = same_frames;
                handed_out = refl;
                notes = no_frames notes have;
                history = refl;
              };
              finds = refl;
            }
            by (Some x) there = record {
              agrees = record {
                told = refl;
                ended = refl;
                moment = same_moment;
                node = refl;
                clients = replaced config a config.clients head.client (handed_out (after_reply x.part reply (client_at config a head.client))) (λ s. after_heard (flight_under head.orig s) reply s) refl
                    (ap (λ o. after_heard o reply (client_at config a head.client)) (sym there));
                frames = same_frames;
                handed_out = refl;
                notes = no_frames notes have;
                history = entry_taken if_taken stands spells.3 notes_it;
              };
              finds = refl;
            }

    -- the frame of this number, as the link has it
    link_is : (k : ℕ) → link_frame (record { frames = map sent_as a.frames; handed_out = out }) k ≡ option_map sent_as (frame_at a k)
    link_is zero = refl
    link_is (suc k) = slice_get-map sent_as a.frames k

    load_agrees : (k : ℕ) (f : Frame) (note : Note) → frame_at a k ≡ Some f → (load : Load) → f.load ≡ load → SpellsLoad f.bytes f.line load → IsNoteOf load note
        → Delivers event (node_after_load (now a l) load (node_at config a)) (λ (d : ClientNo × ℕ). after_load load (client_at config a d.0)) out (handed (latest config.node.retry) config a l k load)
        (arrived (read notes out) l k (Some note) f.bytes (elim load [ Asks items ↦ to.Node | Answers head reply if_taken ↦ to.Client head.client ]) f.line)
    load_agrees k f note is (Asks items) carries spells its = asks_agree k f items note is carries spells its
    load_agrees k f note is (Answers head reply if_taken) carries spells its = answers_agree k f head reply if_taken note is carries spells its

    live_agrees : (k : ℕ) (f : Frame) → frame_at a k ≡ Some f → (live : Bool)
        → Delivers event (node_after_delivered (now a l) live f (node_at config a)) (λ (d : ClientNo × ℕ). after_delivered live f (client_at config a d.0)) out (if_live (latest config.node.retry) config a l k f live)
        (delivered (read notes out) l k (note_on notes k) (cond live (Live f.bytes (end_of f) f.line) (Expired f.moment)))
    live_agrees k f is false = record { agrees = text_agrees event (did.Expired k f.moment) notes out have still; finds = refl }
    live_agrees k f is true =
        let note = note_of_frame a notes k f have is in
        subst (λ o. Delivers event (node_after_load (now a l) f.load (node_at config a)) (λ (d : ClientNo × ℕ). after_load f.load (client_at config a d.0)) out (handed (latest config.node.retry) config a l k f.load)
        (arrived (read notes out) l k o f.bytes (end_of f) f.line)) (sym note.1)
        (load_agrees k f note.0 is f.load refl (frame_at_each (λ (f : Frame). SpellsLoad f.bytes f.line f.load) a k f here.spells is) note.2)

    delivery_agrees : (k : ℕ)
        → Delivers event (node_after_frame (now a l) (frame_at a k) (node_at config a)) (λ (d : ClientNo × ℕ). after_frame (now a l) (frame_at a k) (client_at config a d.0)) out
        (on_delivery (latest config.node.retry) config a l k) (deliver (read notes out) l k)
    delivery_agrees k =
        subst (λ o. Delivers event (node_after_frame (now a l) (frame_at a k) (node_at config a)) (λ (d : ClientNo × ℕ). after_frame (now a l) (frame_at a k) (client_at config a d.0)) out
        (on_delivery (latest config.node.retry) config a l k) (delivered (read notes out) l k (note_on notes k) (found_at (now a l) o))) (sym (link_is k)) (go (frame_at a k) refl)
      where
        go : (o : Option Frame) → frame_at a k ≡ o
            → Delivers event (node_after_frame (now a l) o (node_at config a)) (λ (d : ClientNo × ℕ). after_frame (now a l) o (client_at config a d.0)) out
            (on_frame (latest config.node.retry) config a l k o) (delivered (read notes out) l k (note_on notes k) (found_at (now a l) (option_map sent_as o)))
        go None is = record { agrees = text_agrees event (did.Absent k) notes out have still; finds = refl }
        go (Some f) is = live_agrees k f is (is_live (now a l) f.moment)

  -- ---- the events
  -- what a step on the world that is read off has to be
  abbrev StepAgrees : Event → List Note → Type 0
  StepAgrees event notes = (handed : ℕ) × Agree event (node_after_event a l event (node_at config a)) (λ (d : ClientNo × ℕ). after_event a l event (client_at config a d.0)) handed
      (effect (latest config.node.retry) config a l event) (step (read notes (taken_in_order a)) l event)
      × (handed ≡ taken_in_order a + cond (asks_next event && not (list_any found_none (effect (latest config.node.retry) config a l event).texts)) 1 0)

  none_more : taken_in_order a ≡ taken_in_order a + 0
  none_more = omega arith

  -- the next frame, where there is one
  frame_after : (n : ℕ) → frame_at a (n + 1) ≡ slice_get a.frames n
  frame_after n = ap (frame_at a) (let z : n + 1 ≡ suc n = omega arith in z)

  has_one : (f : Frame) → frame_at a (taken_in_order a + 1) ≡ Some f → nat_lt (taken_in_order a) (length (map sent_as a.frames)) ≡ true
  has_one f is = lt (slice_get_within a.frames (taken_in_order a) f (sym (frame_after (taken_in_order a)) ∙ is)) (map-length sent_as a.frames) where
    lt : taken_in_order a < length a.frames → length (map sent_as a.frames) ≡ length a.frames → nat_lt (taken_in_order a) (length (map sent_as a.frames)) ≡ true
    lt h k = grind (arith, nat_tests)

  has_no : frame_at a (taken_in_order a + 1) ≡ None → nat_lt (taken_in_order a) (length (map sent_as a.frames)) ≡ false
  has_no is = go (nat_lt (taken_in_order a) (length (map sent_as a.frames))) refl where
    there : nat_lt (taken_in_order a) (length (map sent_as a.frames)) ≡ true → length (map sent_as a.frames) ≡ length a.frames → taken_in_order a < length a.frames
    there h k = grind (arith, nat_tests)

    go : (b : Bool) → nat_lt (taken_in_order a) (length (map sent_as a.frames)) ≡ b → b ≡ false
    go false h = refl
    go true h =
        let f = slice_get_there a.frames (taken_in_order a) (there h (map-length sent_as a.frames)) in
        absurd (none_some f.0 (sym is ∙ frame_after (taken_in_order a) ∙ f.1))

  -- one text that finds a frame counts it
  counts : (e : Effect) (d : Did) → e.texts ≡ d ∷ [] → found_none d ≡ false → taken_in_order a + 1 ≡ taken_in_order a + cond (true && not (list_any found_none e.texts)) 1 0
  counts e d told finds = ap (λ b. taken_in_order a + cond (not b) 1 0) (sym (ap (list_any found_none) told ∙ ap (λ b. b || false) finds))

  next_world : (notes : List Note) → (go : WorldState → ℕ → Stepped) → (b : Bool) → nat_lt (taken_in_order a) (length (map sent_as a.frames)) ≡ b
      → with_next (read notes (taken_in_order a)) go (next_number (read notes (taken_in_order a)).link)
      ≡ cond b (go (read notes (taken_in_order a + 1)) (taken_in_order a + 1)) (shows (read notes (taken_in_order a)) did.NoFrame)
  next_world notes go true has =
      ap (λ b. with_next (read notes (taken_in_order a)) go (cond b (Some (taken_in_order a + 1)) None)) has
      ∙ ap (λ (x : LinkFrames). go (record (read notes (taken_in_order a)) { link = x }) (taken_in_order a + 1))
      (ap (λ b. cond b (record { frames = map sent_as a.frames; handed_out = taken_in_order a + 1 }) (record { frames = map sent_as a.frames; handed_out = taken_in_order a })) has)
  next_world notes go false has = ap (λ b. with_next (read notes (taken_in_order a)) go (cond b (Some (taken_in_order a + 1)) None)) has

  next_agrees : Here config a l event.DeliverNext → (notes : List Note) → HaveNotes a.frames notes → StepAgrees event.DeliverNext notes
  next_agrees here notes have = go (frame_at a (taken_in_order a + 1)) refl where
    go : (o : Option Frame) → frame_at a (taken_in_order a + 1) ≡ o → StepAgrees event.DeliverNext notes
    go None is = (
      taken_in_order a,
      subst (λ o. Agree event.DeliverNext (node_after_frame (now a l) o (node_at config a)) (λ (d : ClientNo × ℕ). after_frame (now a l) o (client_at config a d.0)) (taken_in_order a)
          (if_there (latest config.node.retry) config (on_delivery (latest config.node.retry) config a l) (taken_in_order a + 1) o) (step (read notes (taken_in_order a)) l event.DeliverNext)) (sym is)
          (subst (Agree event.DeliverNext (node_at config a) same_client_states (taken_in_order a) (says did.NoFrame)) (sym (next_world notes (λ v k. deliver v l k) false (has_no is)))
          (text_agrees event.DeliverNext did.NoFrame notes (taken_in_order a) have refl)),
      subst (λ o. taken_in_order a ≡ taken_in_order a + cond (true && not (list_any found_none (if_there (latest config.node.retry) config (on_delivery (latest config.node.retry) config a l) (taken_in_order a + 1) o).texts)) 1 0) (sym is) none_more,
    )
    go (Some f) is =
        let d = delivery_agrees event.DeliverNext here refl notes have (taken_in_order a + 1) (taken_in_order a + 1) in
        let there : if_there (latest config.node.retry) config (on_delivery (latest config.node.retry) config a l) (taken_in_order a + 1) (frame_at a (taken_in_order a + 1)) ≡ on_delivery (latest config.node.retry) config a l (taken_in_order a + 1) =
        ap (if_there (latest config.node.retry) config (on_delivery (latest config.node.retry) config a l) (taken_in_order a + 1)) is in (
          taken_in_order a + 1,
          subst (λ e. Agree event.DeliverNext (node_after_event a l event.DeliverNext (node_at config a)) (λ (d : ClientNo × ℕ). after_event a l event.DeliverNext (client_at config a d.0)) (taken_in_order a + 1) e (step (read notes (taken_in_order a)) l event.DeliverNext)) (sym there)
              (subst (Agree event.DeliverNext (node_after_event a l event.DeliverNext (node_at config a)) (λ (d : ClientNo × ℕ). after_event a l event.DeliverNext (client_at config a d.0)) (taken_in_order a + 1) (on_delivery (latest config.node.retry) config a l (taken_in_order a + 1)))
              (sym (next_world notes (λ v k. deliver v l k) true (has_one f is))) d.agrees),
          subst (λ (e : Effect). taken_in_order a + 1 ≡ taken_in_order a + cond (true && not (list_any found_none e.texts)) 1 0) (sym there) (counts (on_delivery (latest config.node.retry) config a l (taken_in_order a + 1)) (deliver (read notes (taken_in_order a + 1)) l (taken_in_order a + 1)).did d.agrees.told d.finds),
        )

  drop_agrees : (notes : List Note) → HaveNotes a.frames notes → StepAgrees event.Drop notes
  drop_agrees notes have = go (frame_at a (taken_in_order a + 1)) refl where
    go : (o : Option Frame) → frame_at a (taken_in_order a + 1) ≡ o → StepAgrees event.Drop notes
    go None is = (
      taken_in_order a,
      subst (λ o. Agree event.Drop (node_at config a) same_client_states (taken_in_order a)
          (if_there (latest config.node.retry) config (λ k. says (did.Dropped k)) (taken_in_order a + 1) o) (step (read notes (taken_in_order a)) l event.Drop)) (sym is)
          (subst (Agree event.Drop (node_at config a) same_client_states (taken_in_order a) (says did.NoFrame)) (sym (next_world notes (λ v k. shows v (did.Dropped k)) false (has_no is)))
          (text_agrees event.Drop did.NoFrame notes (taken_in_order a) have refl)),
      subst (λ o. taken_in_order a ≡ taken_in_order a + cond (true && not (list_any found_none (if_there (latest config.node.retry) config (λ k. says (did.Dropped k)) (taken_in_order a + 1) o).texts)) 1 0) (sym is) none_more,
    )
    go (Some f) is = (
      taken_in_order a + 1,
      subst (λ o. Agree event.Drop (node_at config a) same_client_states (taken_in_order a + 1)
          (if_there (latest config.node.retry) config (λ k. says (did.Dropped k)) (taken_in_order a + 1) o) (step (read notes (taken_in_order a)) l event.Drop)) (sym is)
          (subst (Agree event.Drop (node_at config a) same_client_states (taken_in_order a + 1) (says (did.Dropped (taken_in_order a + 1)))) (sym (next_world notes (λ v k. shows v (did.Dropped k)) true (has_one f is)))
          (text_agrees event.Drop (did.Dropped (taken_in_order a + 1)) notes (taken_in_order a + 1) have refl)),
      subst (λ o. taken_in_order a + 1 ≡ taken_in_order a + cond (true && not (list_any found_none (if_there (latest config.node.retry) config (λ k. says (did.Dropped k)) (taken_in_order a + 1) o).texts)) 1 0) (sym is) refl,
    )

  -- ---- what only shows
  whole : Ran config a l 0 → memory_at config a.history l 0 ≡ after (opening config.node) a.history
  whole ran = ap (after (opening config.node)) (all_before (is_before l 0) a.history ran.before)

  -- each text that the account tells is one that the world shows
  show_agrees : (event : Event) (d : Did) (e : Effect) (notes : List Note) → HaveNotes a.frames notes → ticks_of event ≡ 0 → e ≡ says d
      → Agree event (node_at config a) same_client_states (taken_in_order a) e (shows (read notes (taken_in_order a)) d)
  show_agrees event d e notes have still is =
      subst (λ x. Agree event (node_at config a) same_client_states (taken_in_order a) x (shows (read notes (taken_in_order a)) d)) (sym is) (text_agrees event d notes (taken_in_order a) have still)

  peek_is : (pid : ℕ) (addr : Addr) (n : ℕ) → Ran config a l 0 → on_peek (memory_at config a.history l 0) pid addr n ≡ says (peeked addr n (page_at (node_at config a).flat pid (page_of addr)))
  peek_is pid addr n ran = ap (λ s. on_peek s pid addr n) (whole ran) ∙ go (page_at (node_at config a).flat pid (page_of addr)) where
    go : (o : Option Page) → on_found_page addr n o ≡ says (peeked addr n o)
    go None = refl
    go (Some page) = refl

  shown_is : (k : ℕ) → shown k (frame_at a k) ≡ says (frame_shown k (link_frame (record { frames = map sent_as a.frames; handed_out = taken_in_order a }) k))
  shown_is k = go (frame_at a k) ∙ ap (λ o. says (frame_shown k o)) (sym (linked k)) where
    go : (o : Option Frame) → shown k o ≡ says (frame_shown k (option_map sent_as o))
    go None = refl
    go (Some f) = refl

    linked : (k : ℕ) → link_frame (record { frames = map sent_as a.frames; handed_out = taken_in_order a }) k ≡ option_map sent_as (frame_at a k)
    linked zero = refl
    linked (suc k) = slice_get-map sent_as a.frames k

  garbage_is : (o : Option BadFrame) → on_garbage o ≡ says (garbage o)
  garbage_is (Some fault) = refl
  garbage_is None = refl

  kept_count : (n : ℕ) (es : List Entry) → min n (length es) ≡ length (map (record_at a) (latest n es))
  kept_count n es = least ∙ sym (map-length (record_at a) (latest n es) ∙ length-drop (length es - n) es) where
    least : min n (length es) ≡ length es - (length es - n)
    least = ⊎_elim
        (λ (few : n ≤ length es). min-eq_left few ∙ (let z : n ≡ length es - (length es - n) = omega arith in z))
        (λ (many : length es ≤ n). min-eq_right many ∙ (let z : length es ≡ length es - (length es - n) = omega arith in z))
        (let c : (n ≤ length es) ⊎ (length es ≤ n) = grind arith in c)

  stat_is : Ran config a l 0 → says (did.Stat (used (memory_at config a.history l 0)) (min config.node.retry (length (recorded a.history l 0))))
      ≡ says (did.Stat (used (node_at config a).flat) (length (node_at config a).records))
  stat_is ran =
      ap (λ s. says (did.Stat (used s) (min config.node.retry (length (recorded a.history l 0))))) (whole ran)
      ∙ ap (λ n. says (did.Stat (used (node_at config a).flat) n))
      (ap (λ es. min config.node.retry (length es)) (ap changing_of (all_before (is_before l 0) a.history ran.before)) ∙ kept_count config.node.retry (changing_of a.history))

  -- ---- every event
  every_step : (event : Event) → Here config a l event → (notes : List Note) → HaveNotes a.frames notes → StepAgrees event notes
  every_step (event.Call c text) here notes have = (
    taken_in_order a,
    subst (Agree (event.Call c text) (node_at config a) (λ (d : ClientNo × ℕ). after_event a l (event.Call c text) (client_at config a d.0)) (taken_in_order a) (on_call (client_at config a c) (call_of text)))
        (sym (ap (λ o. with_found (read notes (taken_in_order a)) o (λ s. call_judged (read notes (taken_in_order a)) s (call_of text) (issue_fault s (call_of text)))) (found config a config.clients c here.known)))
        (call_so (issue_fault (client_at config a c) (call_of text)) refl),
    none_more,
  )
    where
      same_fault : (o : Option IssueFault) → issue_fault (client_at config a c) (call_of text) ≡ o → (d : ClientNo × ℕ)
          → cond (same_client d.0 c) (after_judged o (call_of text) (client_at config a d.0)) (client_at config a d.0) ≡ after_event a l (event.Call c text) (client_at config a d.0)
      same_fault o is d = go (same_client d.0 c) refl where
        go : (b : Bool) → same_client d.0 c ≡ b → cond b (after_judged o (call_of text) (client_at config a d.0)) (client_at config a d.0)
            ≡ cond b (after_judged (issue_fault (client_at config a d.0) (call_of text)) (call_of text) (client_at config a d.0)) (client_at config a d.0)
        go false apart = refl
        go true same = subst (λ x. after_judged o (call_of text) (client_at config a x) ≡ after_judged (issue_fault (client_at config a x) (call_of text)) (call_of text) (client_at config a x)) (sym (same_clients d.0 c same))
            (ap (λ x. after_judged x (call_of text) (client_at config a c)) (sym is))

      call_so : (o : Option IssueFault) → issue_fault (client_at config a c) (call_of text) ≡ o
          → Agree (event.Call c text) (node_at config a) (λ (d : ClientNo × ℕ). after_event a l (event.Call c text) (client_at config a d.0)) (taken_in_order a)
          (on_judged (client_at config a c) (issue_fault (client_at config a c) (call_of text))) (call_judged (read notes (taken_in_order a)) (client_at config a c) (call_of text) (issue_fault (client_at config a c) (call_of text)))
      call_so o is =
          let agrees = call_agrees c text notes (taken_in_order a) have o in
          subst (λ x. Agree (event.Call c text) (node_at config a) (λ (d : ClientNo × ℕ). after_event a l (event.Call c text) (client_at config a d.0)) (taken_in_order a)
          (on_judged (client_at config a c) x) (call_judged (read notes (taken_in_order a)) (client_at config a c) (call_of text) x)) (sym is)
          (record {
            told = agrees.told;
            ended = agrees.ended;
            moment = agrees.moment;
            node = agrees.node;
            clients = agrees.clients ∙ same_map _ (λ (d : ClientNo × ℕ). after_event a l (event.Call c text) (client_at config a d.0)) config.clients (same_fault o is);
            frames = agrees.frames;
            handed_out = agrees.handed_out;
            notes = agrees.notes;
            history = agrees.history;
          })
  every_step (event.Poll c) here notes have = (
    taken_in_order a,
    subst (Agree (event.Poll c) (node_at config a) (λ (d : ClientNo × ℕ). after_event a l (event.Poll c) (client_at config a d.0)) (taken_in_order a) (on_polled a l (client_at config a c) (poll (client_at config a c) (now a l))))
        (sym (ap (λ o. with_found (read notes (taken_in_order a)) o (λ s. polled (read notes (taken_in_order a)) l s (poll s (now a l)))) (found config a config.clients c here.known)))
        (poll_so (poll (client_at config a c) (now a l)) refl),
    none_more,
  )
    where
      same_poll : (p : Polled) → poll (client_at config a c) (now a l) ≡ p → (d : ClientNo × ℕ)
          → cond (same_client d.0 c) (handed_out (after_poll (now a l) p (client_at config a d.0))) (client_at config a d.0) ≡ after_event a l (event.Poll c) (client_at config a d.0)
      same_poll p is d = go (same_client d.0 c) refl where
        go : (b : Bool) → same_client d.0 c ≡ b → cond b (handed_out (after_poll (now a l) p (client_at config a d.0))) (client_at config a d.0)
            ≡ cond b (handed_out (after_poll (now a l) (poll (client_at config a d.0) (now a l)) (client_at config a d.0))) (client_at config a d.0)
        go false apart = refl
        go true same = subst (λ x. handed_out (after_poll (now a l) p (client_at config a x)) ≡ handed_out (after_poll (now a l) (poll (client_at config a x) (now a l)) (client_at config a x))) (sym (same_clients d.0 c same))
            (ap (λ x. handed_out (after_poll (now a l) x (client_at config a c))) (sym is))

      poll_so : (p : Polled) → poll (client_at config a c) (now a l) ≡ p
          → Agree (event.Poll c) (node_at config a) (λ (d : ClientNo × ℕ). after_event a l (event.Poll c) (client_at config a d.0)) (taken_in_order a)
          (on_polled a l (client_at config a c) (poll (client_at config a c) (now a l))) (polled (read notes (taken_in_order a)) l (client_at config a c) (poll (client_at config a c) (now a l)))
      poll_so p is =
          let agrees = poll_agrees c notes (taken_in_order a) have p (subst IsSingle is (poll_single (client_at config a c) (now a l))) in
          subst (λ x. Agree (event.Poll c) (node_at config a) (λ (d : ClientNo × ℕ). after_event a l (event.Poll c) (client_at config a d.0)) (taken_in_order a)
          (on_polled a l (client_at config a c) x) (polled (read notes (taken_in_order a)) l (client_at config a c) x)) (sym is)
          (record {
            told = agrees.told;
            ended = agrees.ended;
            moment = agrees.moment;
            node = agrees.node;
            clients = agrees.clients ∙ same_map _ (λ (d : ClientNo × ℕ). after_event a l (event.Poll c) (client_at config a d.0)) config.clients (same_poll p is);
            frames = agrees.frames;
            handed_out = agrees.handed_out;
            notes = agrees.notes;
            history = agrees.history;
          })
  every_step (event.Deliver k) here notes have = (taken_in_order a, (delivery_agrees (event.Deliver k) here refl notes have (taken_in_order a) k).agrees, none_more)
  every_step event.DeliverNext here notes have = next_agrees here notes have
  every_step event.Drop here notes have = drop_agrees notes have
  every_step (event.Tick by) here notes have = (
    taken_in_order a,
    record { told = refl; ended = refl; moment = refl; node = refl; clients = refl; frames = same_frames; handed_out = refl; notes = no_frames notes have; history = refl },
    none_more,
  )
  every_step (event.Peek pid addr len) here notes have = (
    taken_in_order a,
    show_agrees (event.Peek pid addr len) (peeked addr len (page_at (node_at config a).flat pid (page_of addr))) (on_peek (memory_at config a.history l 0) pid addr len) notes have refl (peek_is pid addr len here.base.ran),
    none_more,
  )
  every_step (event.Show k) here notes have = (
    taken_in_order a,
    show_agrees (event.Show k) (frame_shown k (link_frame (record { frames = map sent_as a.frames; handed_out = taken_in_order a }) k)) (shown k (frame_at a k)) notes have refl (shown_is k),
    none_more,
  )
  every_step event.Stat here notes have = (
    taken_in_order a,
    show_agrees event.Stat (did.Stat (used (node_at config a).flat) (length (node_at config a).records))
        (says (did.Stat (used (memory_at config a.history l 0)) (min config.node.retry (length (recorded a.history l 0))))) notes have refl (stat_is here.base.ran),
    none_more,
  )
  every_step (event.GarbageNode bytes) here notes have = (
    taken_in_order a,
    show_agrees (event.GarbageNode bytes) (garbage (request_fault (expanded bytes))) (on_garbage (request_fault (expanded bytes))) notes have refl (garbage_is (request_fault (expanded bytes))),
    none_more,
  )
  every_step (event.GarbageClient c bytes) here notes have = (
    taken_in_order a,
    show_agrees (event.GarbageClient c bytes) (garbage (reply_fault (expanded bytes))) (on_garbage (reply_fault (expanded bytes))) notes have refl (garbage_is (reply_fault (expanded bytes))),
    none_more,
  )

  -- ---- the world after
  stands_next : (event : Event) → (here : Here config a l event) → (notes : List Note) → (s : StepAgrees event notes)
      → IsReadOff config (next_account (latest config.node.retry) config a (l, event)) (step (read notes (taken_in_order a)) l event).world
  stands_next event here notes s = record {
    moment = s.1.moment ∙ ap (λ n. n + ticks_of event) (now_clock a l here.base.times.rising) ∙ sym (clock_extended a l event (effect (latest config.node.retry) config a l event));
    node = s.1.node ∙ sym here.node.node;
    clients = s.1.clients ∙ same_map (λ (d : ClientNo × ℕ). after_event a l event (client_at config a d.0)) (λ (d : ClientNo × ℕ). client_at config (next_account (latest config.node.retry) config a (l, event)) d.0) config.clients (λ d. sym (here.client d.0));
    frames = s.1.frames;
    handed_out = s.1.handed_out ∙ s.2 ∙ sym (taken_extended a l event (effect (latest config.node.retry) config a l event));
    notes = s.1.notes;
    history = s.1.history;
  }

-- ---- every schedule
front_of : {X : Type 0} (P : X → Type 0) (xs : List X) (x : X) → Each P (xs ++ x ∷ []) → Each P xs × P x
front_of P [] x h = (tt, h.0)
front_of P (y ∷ xs) x h = let rest = front_of P xs x h.1 in ((h.0, rest.0), rest.1)

front_rises : (events : List (ℕ × Event)) (m : ℕ) (e : ℕ × Event) → IsRisingFrom m (events ++ e ∷ []) → IsRisingFrom m events
front_rises [] m e r = tt
front_rises (x ∷ events) m e r = (r.0, front_rises events (x.0 + 1) e r.1)

good_front : (config : Config) (events : List (ℕ × Event)) (e : ℕ × Event) → IsGood config (events ++ e ∷ []) → IsGood config events
good_front config events e good = record {
  rising = front_rises events 1 e good.rising;
  typed = (front_of _ events e good.typed).0;
  known = (front_of _ events e good.known).0;
  clients = good.clients;
}

here_is : (config : Config) (events : List (ℕ × Event)) (l : ℕ) (event : Event) → 1 ≤ config.node.retry → IsGood config (events ++ (l, event) ∷ []) → length events + 1 < 2 ^ 64 → Here config (account_of_latest config events) l event
here_is config events l event some good few =
    let front : IsGood config events = good_front config events (l, event) good in
    let split = rising_front events 0 l event (rises_from_zero (events ++ (l, event) ∷ []) good.rising) in
    let one : account config events ≡ account_of_latest config events = one_account config events some split.0 front.typed in
    let base : Base config (account config events) l = base_later config (account config events) (past 0 events) l split.1 (base_of_account config events split.0 front.typed) in
    record {
      base = subst (λ a. Base config a l) one base;
      spells = subst (λ (a : Account). Each (λ (f : Frame). SpellsLoad f.bytes f.line f.load) a.frames) one (frames_are_spelled config events front (omega arith));
      heard = subst (λ (a : Account). (k : ℕ) (f : Frame) (head : Head) (reply : Reply) (if_taken : List Entry) → frame_at a k ≡ Some f → f.load ≡ Answers head reply if_taken
          → hearing (client_at config a head.client) f.bytes ≡ heard_as head reply (flight_under head.orig (client_at config a head.client))) one (replies_are_heard config events front (omega arith));
      node = nodes_follow config events l event some (rises_from_zero (events ++ (l, event) ∷ []) good.rising) front.typed;
      client = λ c. clients_follow (latest config.node.retry) config events l event c;
      known = (front_of _ events (l, event) good.known).1;
    }

pub worlds_follow : WorldsFollow
worlds_follow config events l event w some good few st =
    let a : Account = account_of_latest config events in
    let here : Here config (account_of_latest config events) l event = here_is config events l event some good few in
    let same : w ≡ read config (account_of_latest config events) l w.notes (taken_in_order (account_of_latest config events)) = λ j. record {
      moment = (st.moment ∙ sym (now_clock (account_of_latest config events) l here.base.times.rising)) j;
      node = st.node j;
      clients = st.clients j;
      link = record { frames = st.frames j; handed_out = st.handed_out j };
      notes = w.notes;
      history = st.history j;
    } in
    subst (λ v. StandsOn config events l event (step v l event)) (sym same)
    (let s = every_step config (account_of_latest config events) l event here w.notes st.notes in
    record {
      told = s.1.told;
      ended = s.1.ended;
      stands = subst (λ x. IsReadOff config x (step (read config (account_of_latest config events) l w.notes (taken_in_order (account_of_latest config events))) l event).world)
          (sym (from_append (latest config.node.retry) config nothing_yet events (l, event))) (stands_next config (account_of_latest config events) l event here w.notes s);
    })
