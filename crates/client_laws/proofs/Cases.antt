-- The cases of what an event brings: what holds of each of them holds of every event.
use Rattle.std.proofs.Common.{◌≡◌, ℕ, ◌+◌, List, [], ◌∷◌, refl, subst, Some, None, Option, Bool, true, false, cond, arith}
use Rattle.std.specs.Prelude.{find, option_map, slice_get, ◌==◌}
use Rattle.cl_types.specs.declared.numbers.ClientNo.{ClientNo}
use Rattle.cl_types.specs.declared.numbers.Addr.{Addr}
use Rattle.cl_types.specs.declared.config.Config.{Config}
use Rattle.cl_types.specs.declared.frame.BadFrame.{BadFrame}
use Rattle.cl_types.specs.declared.frame.Head.{Head}
use Rattle.cl_types.specs.declared.frame.IssueFault.{IssueFault}
use Rattle.cl_types.specs.declared.reply.Reply.{Reply}
use Rattle.cl_types.specs.declared.schedule.CallText.{CallText}
use Rattle.cl_types.specs.declared.schedule.Event.{Event}
use Rattle.cl_types.specs.declared.schedule.Event.TheVariants as event
use Rattle.cl_types.specs.declared.line.Did.{Did}
use Rattle.cl_types.specs.declared.line.Did.TheVariants as did
use Rattle.cl_types.specs.declared.line.Entry.{Entry}
use Rattle.cl_types.specs.Times.{is_live, is_old, is_due}
use Rattle.cl_types.specs.Pages.{page_of}
use Rattle.flat_model.specs.State.{FlatState, Page, page_at}
use Rattle.frame_model.specs.Frames.{request_fault, reply_fault}
use Rattle.client_model.specs.Order.{is_fence}
use Rattle.client_model.specs.Issue.{issue_fault}
use Rattle.trace.specs.Account.{Account, Frame, Carried, Load, Asks, Answers, Effect, says, now, frame_at, taken_in_order, memory_at}
use Rattle.client_model.specs.Client.{ClientState, ClientCall, ClientPart, Sending, Polled, GivesUp, EndsFence, Sends, Idles, poll, flights, sendable, flight_under, next_id, to_give_up, fence_first, to_send_again, to_send, has_room_in_flight, again, anew}
use Rattle.cl_types.specs.Written.{call_of, expanded}
use Rattle.trace.specs.Clients.{client_at}
use Rattle.trace.specs.Properties.{is_delivery}
use Rattle.trace.specs.Events.{on_judged, on_call, on_polled, on_flight, on_found_page, on_peek, shown, on_garbage, on_items, handed, if_live, on_frame, on_delivery, if_there, on_next, effect}
use Rattle.client_laws.specs.Flights.{FlightOf}
use Rattle.lemmas.proofs.Lists.{find_some, case_of_map, each_slice_get}
use Rattle.client_laws.proofs.Entries.{first_case}
use Rattle.lemmas.proofs.SameParts.{eqb_is}
use Rattle.client_laws.proofs.StateRead.{SendableOf, flights_are, sendable_are}

-- the text says nothing of calls, parts and frames that a law reads
abbrev pub IsQuiet : Did → Type 0
IsQuiet (did.Issued client call) = ⊥
IsQuiet (did.Sent frame client part id) = ⊥
IsQuiet (did.Again frame client part id orig) = ⊥
IsQuiet (did.GaveUp client part) = ⊥
IsQuiet did.FenceEnded = ⊥
IsQuiet (did.Handled frame client part how status reply) = ⊥
IsQuiet (did.Busy frame client part oldest at) = ⊥
IsQuiet (did.Took frame client part) = ⊥
IsQuiet other = Unit {0}

-- the event shows no memory
abbrev pub IsNoPeek : Event → Type 0
IsNoPeek (event.Peek pid addr len) = ⊥
IsNoPeek other = Unit {0}

-- the frame of this number is live, and carries this
pub record IsGiven (a : Account) (l k : ℕ) (frame : Frame) (load : Load) : Type 0 where
  pub is_frame : frame_at a k ≡ Some frame
  pub live : is_live (now a l) frame.moment ≡ true
  pub carries : frame.load ≡ load

-- what is to be shown of the effects of all events on line l
pub record Cases (keep : List Entry → List Entry) (config : Config) (a : Account) (l : ℕ) (P : Event → Effect → Type 0) : Type 0 where
  pub quiet : (event : Event) (d : Did) → IsNoPeek event → IsQuiet d → P event (says d)
  pub peeks : (pid : ℕ) (addr : Addr) (n : ℕ) → P (event.Peek pid addr n) (on_peek (memory_at config a.history l 0) pid addr n)
  pub issues : (c : ClientNo) (text : CallText) → issue_fault (client_at config a c) (call_of text) ≡ None
      → P (event.Call c text) (on_judged (client_at config a c) None)
  pub gives_up : (c : ClientNo) (f : Sending) → FlightOf a c f → is_old (now a l) f.first ≡ true
      → P (event.Poll c) (on_polled a l (client_at config a c) (GivesUp f))
  pub ends_fence : (c : ClientNo) (k : ClientCall) (rest : List ClientCall) → (client_at config a c).calls ≡ k ∷ rest → is_fence k.call ≡ true
      → P (event.Poll c) (on_polled a l (client_at config a c) (EndsFence k.number))
  pub sends_again : (c : ClientNo) (f : Sending) → FlightOf a c f → is_due (now a l) f.first f.last ≡ true
      → P (event.Poll c) (on_polled a l (client_at config a c) (Sends (again (next_id (client_at config a c)) f ∷ [])))
  pub sends : (c : ClientNo) (p : ClientPart) → SendableOf config a c p
      → P (event.Poll c) (on_polled a l (client_at config a c) (Sends (anew (next_id (client_at config a c)) p ∷ [])))
  pub items : (event : Event) (k : ℕ) (frame : Frame) (items : List Carried) → is_delivery event ≡ true → IsGiven a l k frame (Asks items)
      → P event (on_items keep config a l k 0 items)
  pub takes : (event : Event) (k : ℕ) (frame : Frame) (head : Head) (reply : Reply) (if_taken : List Entry) (f : Sending)
      → is_delivery event ≡ true → IsGiven a l k frame (Answers head reply if_taken) → FlightOf a head.client f → f.orig ≡ head.orig
      → P event (on_flight (client_at config a head.client) k head reply if_taken (Some f))

pub delivery_no_peek : (e : Event) → is_delivery e ≡ true → IsNoPeek e
delivery_no_peek (event.Peek pid addr len) h = let z : false ≡ true = h in grind arith
delivery_no_peek other h = tt

-- a peek brings a quiet text alone
pub peek_is_quiet : (P : Effect → Type 0) → ((d : Did) → IsQuiet d → P (says d)) → (s : FlatState) (pid : ℕ) (addr : Addr) (n : ℕ) → P (on_peek s pid addr n)
peek_is_quiet P quiet s pid addr n = go (page_at s pid (page_of addr)) where
  go : (o : Option Page) → P (on_found_page addr n o)
  go None = quiet did.PeekNoMapping tt
  go (Some page) = quiet (did.Peeked _) tt

module _ (keep : List Entry → List Entry) (config : Config) (a : Account) (l : ℕ) (P : Event → Effect → Type 0) (cases : Cases keep config a l P) where
  call_case : (c : ClientNo) (text : CallText) → P (event.Call c text) (on_call (client_at config a c) (call_of text))
  call_case c text = go (issue_fault (client_at config a c) (call_of text)) refl where
    go : (o : Option IssueFault) → issue_fault (client_at config a c) (call_of text) ≡ o → P (event.Call c text) (on_judged (client_at config a c) o)
    go None is = cases.issues c text is
    go (Some fault) is = cases.quiet (event.Call c text) (did.NotIssued fault) tt tt

  -- ---- the four rules of a poll
  abbrev Of : ClientNo → Polled → Type 0
  Of c p = P (event.Poll c) (on_polled a l (client_at config a c) p)

  fence_case : (c : ClientNo) (calls : List ClientCall) → (client_at config a c).calls ≡ calls → (x : Polled) → fence_first calls ≡ Some x → Of c x
  fence_case c [] is x e = grind arith
  fence_case c (k ∷ rest) is x e = go (is_fence k.call) refl e where
    go : (b : Bool) → is_fence k.call ≡ b → cond b (Some (EndsFence k.number)) None ≡ Some x → Of c x
    go true fence e = let same : EndsFence k.number ≡ x = cc in subst (Of c) same (cases.ends_fence c k rest is fence)
    go false fence e = grind arith

  send_case : (c : ClientNo) (room : Bool) (x : Polled)
      → cond room (option_map (λ (p : ClientPart). Sends (anew (next_id (client_at config a c)) p ∷ [])) (slice_get (sendable (client_at config a c)) 0)) None ≡ Some x → Of c x
  send_case c true x e =
      case_of_map (Of c) (λ (p : ClientPart). Sends (anew (next_id (client_at config a c)) p ∷ [])) (slice_get (sendable (client_at config a c)) 0)
      (λ p is. cases.sends c p (each_slice_get (SendableOf config a c) (sendable (client_at config a c)) 0 p (sendable_are config a c) is)) x e
  send_case c false x e = grind arith

  poll_case : (c : ClientNo) → Of c (poll (client_at config a c) (now a l))
  poll_case c =
      let s : ClientState = client_at config a c in
      let t : ℕ = now a l in
      first_case (Of c) (to_give_up s t ∷ fence_first s.calls ∷ to_send_again s t ∷ to_send s ∷ []) Idles (
        case_of_map (Of c) GivesUp (find (λ g. is_old (now a l) g.first) (flights (client_at config a c)))
            (λ f is. let h = find_some (FlightOf a c) (λ g. is_old (now a l) g.first) (flights (client_at config a c)) f (flights_are config a c) is in cases.gives_up c f h.0 h.1),
        (
          fence_case c (client_at config a c).calls refl,
          (
            case_of_map (Of c) (λ (f : Sending). Sends (again (next_id (client_at config a c)) f ∷ [])) (find (λ g. is_due (now a l) g.first g.last) (flights (client_at config a c)))
                (λ f is. let h = find_some (FlightOf a c) (λ g. is_due (now a l) g.first g.last) (flights (client_at config a c)) f (flights_are config a c) is in cases.sends_again c f h.0 h.1),
            (send_case c (has_room_in_flight (client_at config a c)), tt),
          ),
        ),
      )
      (cases.quiet (event.Poll c) did.Idle tt tt)

  -- ---- a delivery
  reply_case : (e : Event) (k : ℕ) (frame : Frame) (head : Head) (reply : Reply) (if_taken : List Entry) → is_delivery e ≡ true → IsGiven a l k frame (Answers head reply if_taken)
      → (o : Option Sending) → flight_under head.orig (client_at config a head.client) ≡ o → P e (on_flight (client_at config a head.client) k head reply if_taken o)
  reply_case e k frame head reply if_taken delivers given None is = cases.quiet e (did.Late k head.orig) (delivery_no_peek e delivers) tt
  reply_case e k frame head reply if_taken delivers given (Some f) is =
      let h = find_some (FlightOf a head.client) (λ (f : Sending). f.orig == head.orig) (flights (client_at config a head.client)) f (flights_are config a head.client) is in
      cases.takes e k frame head reply if_taken f delivers given h.0 (eqb_is f.orig head.orig h.1)

  handed_case : (e : Event) (k : ℕ) (frame : Frame) (load : Load) → is_delivery e ≡ true → IsGiven a l k frame load → P e (handed keep config a l k load)
  handed_case e k frame (Asks items) delivers given = cases.items e k frame items delivers given
  handed_case e k frame (Answers head reply if_taken) delivers given =
      reply_case e k frame head reply if_taken delivers given (flight_under head.orig (client_at config a head.client)) refl

  live_case : (e : Event) (k : ℕ) (frame : Frame) → is_delivery e ≡ true → frame_at a k ≡ Some frame → (b : Bool) → is_live (now a l) frame.moment ≡ b → P e (if_live keep config a l k frame b)
  live_case e k frame delivers at_number false is = cases.quiet e (did.Expired k frame.moment) (delivery_no_peek e delivers) tt
  live_case e k frame delivers at_number true is = handed_case e k frame frame.load delivers (record { is_frame = at_number; live = is; carries = refl })

  delivery_case : (e : Event) (k : ℕ) → is_delivery e ≡ true → P e (on_delivery keep config a l k)
  delivery_case e k delivers = go (frame_at a k) refl where
    go : (o : Option Frame) → frame_at a k ≡ o → P e (on_frame keep config a l k o)
    go None is = cases.quiet e (did.Absent k) (delivery_no_peek e delivers) tt
    go (Some frame) is = live_case e k frame delivers is (is_live (now a l) frame.moment) refl

  next_case : (e : Event) (go : ℕ → Effect) → IsNoPeek e → ((k : ℕ) → P e (go k)) → P e (on_next keep config a go)
  next_case e go no_peek each = by (frame_at a (taken_in_order a + 1)) where
    by : (o : Option Frame) → P e (if_there keep config go (taken_in_order a + 1) o)
    by None = cases.quiet e did.NoFrame no_peek tt
    by (Some frame) = each (taken_in_order a + 1)

  -- ---- what only shows
  show_case : (k : ℕ) → P (event.Show k) (shown k (frame_at a k))
  show_case k = go (frame_at a k) where
    go : (o : Option Frame) → P (event.Show k) (shown k o)
    go None = cases.quiet (event.Show k) (did.ShownAbsent k) tt tt
    go (Some frame) = cases.quiet (event.Show k) (did.Shown k frame.bytes) tt tt

  garbage_case : (e : Event) → IsNoPeek e → (o : Option BadFrame) → P e (on_garbage o)
  garbage_case e no_peek (Some fault) = cases.quiet e (did.Bad fault) no_peek tt
  garbage_case e no_peek None = cases.quiet e did.Idle no_peek tt

  pub effect_by : (e : Event) → P e (effect keep config a l e)
  effect_by (event.Call client text) = call_case client text
  effect_by (event.Poll client) = poll_case client
  effect_by (event.Deliver frame) = delivery_case (event.Deliver frame) frame refl
  effect_by event.DeliverNext = next_case event.DeliverNext (on_delivery keep config a l) tt (λ k. delivery_case event.DeliverNext k refl)
  effect_by event.Drop = next_case event.Drop (λ k. says (did.Dropped k)) tt (λ k. cases.quiet event.Drop (did.Dropped k) tt tt)
  effect_by (event.Tick by) = cases.quiet (event.Tick by) (did.Now (now a l + by)) tt tt
  effect_by (event.Peek pid addr len) = cases.peeks pid addr len
  effect_by (event.Show frame) = show_case frame
  effect_by event.Stat = cases.quiet event.Stat (did.Stat _ _) tt tt
  effect_by (event.GarbageNode bytes) = garbage_case (event.GarbageNode bytes) tt (request_fault (expanded bytes))
  effect_by (event.GarbageClient client bytes) = garbage_case (event.GarbageClient client bytes) tt (reply_fault (expanded bytes))
