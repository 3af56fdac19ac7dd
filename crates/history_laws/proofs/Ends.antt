-- In every account as many calls as a client issued have ended, or are held by it.
use Rattle.std.proofs.Common.{◌≡◌, ℕ, ◌+◌, ◌<◌, ◌≤◌, List, [], ◌∷◌, refl, sym, ap, ◌∙◌, subst, Some, None, Option, Bool, true, false, cond, arith, map, length, length-append}
use Rattle.std.specs.Prelude.{filter, filter_map, find, slice_get, option_map, ◌&&◌, ◌==◌, not, is_none, is_some}
use Rattle.std.specs.List.{AllByRecursion as Each, cons_option, enumerate_from}
use Rattle.std.proofs.lemmas.Bool.Decides.{nat_tests}
use Rattle.std.proofs.lemmas.List.{length-map}
use Rattle.std.proofs.lemmas.List.Elements.{filter_map-append, filter-append}
use Rattle.cl_types.specs.declared.call.Call.{Call}
use Rattle.cl_types.specs.declared.config.Config.{Config}
use Rattle.cl_types.specs.declared.frame.BadFrame.{BadFrame}
use Rattle.cl_types.specs.declared.frame.Head.{Head}
use Rattle.cl_types.specs.declared.frame.IssueFault.{IssueFault}
use Rattle.cl_types.specs.declared.line.Did.TheVariants as did
use Rattle.cl_types.specs.declared.line.EndedCall.{EndedCall}
use Rattle.cl_types.specs.declared.line.Entry.{Entry}
use Rattle.cl_types.specs.declared.numbers.ClientNo.{ClientNo}
use Rattle.cl_types.specs.declared.reply.Part.{Part}
use Rattle.cl_types.specs.declared.reply.Reply.{Reply}
use Rattle.cl_types.specs.declared.request.Request.{Request}
use Rattle.cl_types.specs.declared.schedule.Event.{Event}
use Rattle.cl_types.specs.declared.schedule.Event.TheVariants as event
use Rattle.cl_types.specs.Parts.{same_part}
use Rattle.cl_types.specs.Times.{is_live, is_old, is_due}
use Rattle.trace.specs.Account.{Account, Line, Frame, Load, Asks, Answers, Effect, says, extended, now, frame_at, taken_in_order, memory_at, nothing_yet}
use Rattle.client_model.specs.Client.{ClientState, ClientCall, ClientPart, Finished, Sending, Outgoing, Polled, GivesUp, EndsFence, Sends, Idles, Standing, Unsent, standing_so, named, parts_named, call_standing, part_changed, call_changed, given_up, answered, finished, finished_with, all_over, after_part, is_fence_of, sent_calls, gone_out, after_reply, after_poll, handed_out, end_told, flights, flight_under, poll, to_give_up, fence_first, to_send_again, to_send, has_room_in_flight, sendable, again, anew, next_id}
use Rattle.cl_types.specs.Parts.{same_client}
use Rattle.cl_types.specs.Written.{call_of, expanded}
use Rattle.trace.specs.Clients.{issued, numbered, standing_at, has_ended, client_at}
use Rattle.trace.specs.Events.{on_judged, on_polled, on_flight, on_reply, handed, if_live, on_frame, on_delivery, if_there, shown, on_garbage, effect, next_account, account_from}
use Rattle.frame_model.specs.Frames.{request_fault, reply_fault}
use Rattle.client_model.specs.Issue.{issue_fault, after_judged}
use Rattle.client_model.specs.Order.{is_fence}
use Rattle.history_laws.specs.Ends.{ended_calls, ends_of, CallsAddUp}
use Rattle.client_laws.specs.Following.{after_heard, after_load, after_delivered, after_frame, after_event}
use Rattle.lemmas.proofs.Lists.{each_weaker_with, each_always, each_map, each_filter, each_filter_from, case_of_map}
use Rattle.client_laws.proofs.Entries.{first_case}
use Rattle.lemmas.proofs.SameParts.{eqb_same, same_clients}
use Rattle.client_laws.proofs.Standings.{line_of}
use Rattle.client_laws.proofs.Cases.{peek_is_quiet}
use Rattle.client_laws.proofs.Fences.{Followed, followed_next, followed_nothing}
use Rattle.client_laws.proofs.Following.{follows}
use Rattle.history_laws.proofs.AnswersKept.{no_end}

-- ---- the calls that a client holds
-- the numbers of the calls rise, from n on
abbrev Rising : ℕ → List ClientCall → Type 0
Rising n [] = Unit {0}
Rising n (k ∷ ks) = (n ≤ k.number) × Rising (k.number + 1) ks

rising_lower : (m n : ℕ) (ks : List ClientCall) → m ≤ n → Rising n ks → Rising m ks
rising_lower m n [] low h = tt
rising_lower m n (k ∷ ks) low h = let first : n ≤ k.number = h.0 in (omega arith, h.1)

rising_filter : (test : ClientCall → Bool) (n : ℕ) (ks : List ClientCall) → Rising n ks → Rising n (filter test ks)
rising_filter test n [] h = tt
rising_filter test n (k ∷ ks) h = go (test k) (rising_filter test (k.number + 1) ks h.1) where
  go : (b : Bool) → Rising (k.number + 1) (filter test ks) → Rising n (cond b (k ∷ filter test ks) (filter test ks))
  go true rest = (h.0, rest)
  go false rest = let first : n ≤ k.number = h.0 in rising_lower n (k.number + 1) (filter test ks) (omega arith) rest

rising_numbered : (how : Part → Standing) (n : ℕ) (ks : List Call) → Rising n (map (call_standing how) (enumerate_from n ks))
rising_numbered how n [] = tt
rising_numbered how n (k ∷ ks) = (omega arith, rising_numbered how (n + 1) ks)

-- the parts have this number of a call in their names
abbrev AreOf : ℕ → List ClientPart → Type 0
AreOf n ps = Each (λ (p : ClientPart). p.part.call.0 ≡ n) ps

-- a call whose parts have its number in their names, and which has not ended
record Goes (k : ClientCall) : Type 0 where
  parts : AreOf k.number k.parts
  going : finished k ≡ None

parts_of_call : (how : Part → Standing) (k : ℕ × Call) → AreOf k.0 (map (standing_so how) (parts_named k.0 k.1))
parts_of_call how k =
    each_map (λ (p : ClientPart). p.part.call.0 ≡ k.0) (standing_so how) (parts_named k.0 k.1)
    (each_map (λ (p : Part × Request). p.0.call.0 ≡ k.0) (named k.0) _ (each_always _ (λ q. refl) _))

not_finished : (a : Account) (c : ClientNo) (k : ClientCall) → not (has_ended a c k) ≡ true → finished k ≡ None
not_finished a c k h = go (is_fence k.call) _ (option_map (finished_with k) (all_over k)) h where
  go : (b over : Bool) (o : Option Finished) → not (cond b over (is_some (cond b None o))) ≡ true → cond b None o ≡ None
  go true over o h = refl
  go false over None h = refl
  go false over (Some f) h = grind arith

calls_go : (config : Config) (a : Account) (c : ClientNo) → Each Goes (client_at config a c).calls
calls_go config a c =
    each_weaker_with OfItself (λ k. finished k ≡ None) Goes (λ k p g. record { parts = p; going = g }) (client_at config a c).calls
    (each_filter_from OfItself (λ k. not (has_ended a c k)) all all_so)
    (each_filter (λ k. finished k ≡ None) (λ k. not (has_ended a c k)) (not_finished a c) all)
  where
    all : List ClientCall
    all = map (call_standing (standing_at a c)) (numbered a c)

    OfItself : ClientCall → Type 0
    OfItself k = AreOf k.number k.parts

    all_so : Each OfItself all
    all_so =
        each_map OfItself (call_standing (standing_at a c)) (numbered a c)
        (each_always _ (parts_of_call (standing_at a c)) (numbered a c))

calls_rise : (config : Config) (a : Account) (c : ClientNo) → Rising 1 (client_at config a c).calls
calls_rise config a c =
    rising_filter (λ k. not (has_ended a c k)) 1 (map (call_standing (standing_at a c)) (numbered a c))
    (rising_numbered (standing_at a c) 1 (issued a c))

-- ---- by the change of one part at most one call ends
parts_apart : (p : Part) (f : Standing → Standing) (n : ℕ) (ps : List ClientPart)
    → AreOf n ps → (n == p.call.0) ≡ false → map (part_changed p f) ps ≡ ps
parts_apart p f n [] of apart = refl
parts_apart p f n (q ∷ ps) of apart =
    let other : same_part q.part p ≡ false =
    ap (λ m. m == p.call.0 && q.part.part == p.part) of.0 ∙ ap (λ b. b && q.part.part == p.part) apart in
    let one : part_changed p f q ≡ q =
    λ i. record { part = q.part; request = q.request; standing = cond (other i) (f q.standing) q.standing } in
    λ i. one i ∷ parts_apart p f n ps of.1 apart i

-- a call of another number goes on
goes_on : (p : Part) (f : Standing → Standing) (k : ClientCall) → Goes k → (k.number == p.call.0) ≡ false
    → finished (call_changed p f k) ≡ None
goes_on p f k goes apart =
    let same : call_changed p f k ≡ k =
    λ i. record { number = k.number; call = k.call; parts = parts_apart p f k.number k.parts goes.parts apart i } in
    ap finished same ∙ goes.going

abbrev changed : Part → (Standing → Standing) → List ClientCall → List ClientCall
changed p f ks = map (call_changed p f) ks

-- calls of higher numbers go on
none_finished : (p : Part) (f : Standing → Standing) (n : ℕ) (ks : List ClientCall)
    → p.call.0 < n → Rising n ks → Each Goes ks → filter_map finished (changed p f ks) ≡ []
none_finished p f n [] above rising go = refl
none_finished p f n (k ∷ ks) above rising go =
    let first : n ≤ k.number = rising.0 in
    ap (λ o. cons_option o (filter_map finished (changed p f ks))) (goes_on p f k go.0 (differ (omega arith)))
    ∙ none_finished p f (k.number + 1) ks (omega arith) rising.1 go.1
  where
    differ : p.call.0 < k.number → (k.number == p.call.0) ≡ false
    differ h = grind (arith, nat_tests)

finished_once : (p : Part) (f : Standing → Standing) (n : ℕ) (ks : List ClientCall)
    → Rising n ks → Each Goes ks → length (filter_map finished (changed p f ks)) ≤ 1
finished_once p f n [] rising go = omega arith
finished_once p f n (k ∷ ks) rising go = by (k.number == p.call.0) refl (finished_once p f (k.number + 1) ks rising.1 go.1) where
  alone : (o : Option Finished) (fs : List Finished) → fs ≡ [] → length (cons_option o fs) ≤ 1
  alone None fs none = let l : length fs ≡ 0 = ap length none in omega arith
  alone (Some x) fs none = let l : length fs ≡ 0 = ap length none in omega arith

  above : (k.number == p.call.0) ≡ true → p.call.0 < k.number + 1
  above h = grind (arith, nat_tests)

  by : (b : Bool) → (k.number == p.call.0) ≡ b → length (filter_map finished (changed p f ks)) ≤ 1
      → length (filter_map finished (changed p f (k ∷ ks))) ≤ 1
  by true same few = alone (finished (call_changed p f k)) _ (none_finished p f (k.number + 1) ks (above same) rising.1 go.1)
  by false apart few =
      subst (λ o. length (cons_option o (filter_map finished (changed p f ks))) ≤ 1) (sym (goes_on p f k go.0 apart)) few

-- each of a list gives something or is left
given_or_left : {X Y : Type 0} (f : X → Option Y) (xs : List X)
    → length (filter (λ x. is_none (f x)) xs) + length (filter_map f xs) ≡ length xs
given_or_left f [] = refl
given_or_left {X} {Y} f (x ∷ xs) = go (f x) (filter (λ x. is_none (f x)) xs) (filter_map f xs) (given_or_left f xs) where
  go : (o : Option Y) (left : List X) (given : List Y) → length left + length given ≡ length xs
      → length (cond (is_none o) (x ∷ left) left) + length (cons_option o given) ≡ length (x ∷ xs)
  go None left given h = omega arith
  go (Some y) left given h = omega arith

-- ---- what a line tells as ended
-- how many calls of the client a line tells as ended
abbrev told_of : ClientNo → Option EndedCall → ℕ
told_of c None = 0
told_of c (Some e) = cond (same_client c e.client) 1 0

own_told : (c : ClientNo) (fs : List Finished) → length fs ≤ 1 → told_of c (end_told c fs) ≡ length fs
own_told c [] few = refl
own_told c (f ∷ []) few = ap (λ b. cond b 1 0) (eqb_same c.0)
own_told c (f ∷ g ∷ fs) few = absurd (omega arith)

other_told : (c d : ClientNo) (fs : List Finished) → same_client c d ≡ false → told_of c (end_told d fs) ≡ 0
other_told c d [] apart = refl
other_told c d (f ∷ fs) apart = ap (λ b. cond b 1 0) apart

ends_extended : (a : Account) (l : ℕ) (event : Event) (e : Effect) (c : ClientNo)
    → length (ends_of (extended a l event e) c) ≡ length (ends_of a c) + told_of c e.ended
ends_extended a l event e c =
    ap (λ xs. length (filter own xs)) (filter_map-append (λ (line : Line). line.ended) a.lines (line_of a l event e ∷ []))
    ∙ ap length (filter-append own (ended_calls a) (cons_option e.ended []))
    ∙ length-append (ends_of a c) (filter own (cons_option e.ended []))
    ∙ ap (λ n. length (ends_of a c) + n) (one e.ended)
  where
    own : EndedCall → Bool
    own x = same_client c x.client

    one : (o : Option EndedCall) → length (filter own (cons_option o [])) ≡ told_of c o
    one None = refl
    one (Some x) = go (same_client c x.client) where
      go : (b : Bool) → length {A = EndedCall} (cond b (x ∷ []) []) ≡ cond b 1 0
      go true = refl
      go false = refl

-- ---- a step of a client
-- the calls that it issued anew and those that it held are those that are told as ended and those that it holds after
abbrev Balances : ClientNo → ClientState → ClientState → Option EndedCall → Type 0
Balances c s new o = new.issued + length s.calls ≡ s.issued + (told_of c o + length new.calls)

stays : (c : ClientNo) (s : ClientState) (o : Option EndedCall) → told_of c o ≡ 0 → Balances c s s o
stays c s o none = omega arith

judged_balances : (c : ClientNo) (s : ClientState) (k : Call) (o : Option IssueFault) → Balances c s (after_judged o k s) None
judged_balances c s k None =
    let more = length-append s.calls (call_standing (λ p. Unsent) (s.issued + 1, k) ∷ []) in omega arith
judged_balances c s k (Some fault) = stays c s None refl

-- a Fence ends: the calls after it stay
others_stay : (n m : ℕ) (ks : List ClientCall) → n < m → Rising m ks → filter (λ k. not (is_fence_of n k)) ks ≡ ks
others_stay n m [] low rising = refl
others_stay n m (k ∷ ks) low rising =
    let first : m ≤ k.number = rising.0 in
    let other : is_fence_of n k ≡ false = ap (λ b. is_fence k.call && b) (differ (omega arith)) ∙ neither (is_fence k.call) in
    ap (λ b. cond (not b) (k ∷ filter (λ k. not (is_fence_of n k)) ks) (filter (λ k. not (is_fence_of n k)) ks)) other
    ∙ ap (λ z. k ∷ z) (others_stay n (k.number + 1) ks (omega arith) rising.1)
  where
    differ : n < k.number → (n == k.number) ≡ false
    differ h = grind (arith, nat_tests)

    neither : (b : Bool) → (b && false) ≡ false
    neither true = refl
    neither false = refl

fence_goes : (k : ClientCall) (ks : List ClientCall) → is_fence k.call ≡ true → Rising 1 (k ∷ ks)
    → filter (λ j. not (is_fence_of k.number j)) (k ∷ ks) ≡ ks
fence_goes k ks fence rising =
    let own : is_fence_of k.number k ≡ true = ap (λ b. b && k.number == k.number) fence ∙ eqb_same k.number in
    let rest : List ClientCall = filter (λ j. not (is_fence_of k.number j)) ks in
    ap (λ b. cond (not b) (k ∷ rest) rest) own ∙ others_stay k.number (k.number + 1) ks (omega arith) rising.1

as_many_sent : (t : ℕ) (items : List Outgoing) (ks : List ClientCall) → length (sent_calls t items ks) ≡ length ks
as_many_sent t [] ks = refl
as_many_sent t (o ∷ os) ks =
    as_many_sent t os (map (call_changed o.part (gone_out t o)) ks) ∙ length-map ks (call_changed o.part (gone_out t o))

-- ---- a line of another client
other_poll : (a : Account) (l : ℕ) (c : ClientNo) (s : ClientState) → same_client c s.client ≡ false → (p : Polled)
    → told_of c (on_polled a l s p).ended ≡ 0
other_poll a l c s apart (GivesUp f) = other_told c s.client (after_poll (now a l) (GivesUp f) s).ended apart
other_poll a l c s apart (EndsFence n) = other_told c s.client (after_poll (now a l) (EndsFence n) s).ended apart
other_poll a l c s apart (Sends items) = refl
other_poll a l c s apart Idles = refl

other_reply : (c : ClientNo) (s : ClientState) → same_client c s.client ≡ false
    → (k : ℕ) (head : Head) (reply : Reply) (if_taken : List Entry) (o : Option Sending)
    → told_of c (on_flight s k head reply if_taken o).ended ≡ 0
other_reply c s apart k head reply if_taken None = refl
other_reply c s apart k head reply if_taken (Some f) = other_told c s.client (after_reply f.part reply s).ended apart

-- ---- each line, to each client
module _ (keep : List Entry → List Entry) (config : Config) (a : Account) (l : ℕ) (c : ClientNo) where
  abbrev state : ClientState
  state = client_at config a c

  -- a part changes, and the call that ends by it is told
  part_balances : (p : Part) (f : Standing → Standing)
      → Balances c state (handed_out (after_part p f state)) (end_told c (after_part p f state).ended)
  part_balances p f =
      let held : List ClientCall = changed p f state.calls in
      let few : length (filter_map finished held) ≤ 1 =
      finished_once p f 1 state.calls (calls_rise config a c) (calls_go config a c) in
      let told : told_of c (end_told c (filter_map finished held)) ≡ length (filter_map finished held) = own_told c _ few in
      let both : length (filter (λ k. is_none (finished k)) held) + length (filter_map finished held) ≡ length held =
      given_or_left finished held in
      let same : length held ≡ length state.calls = length-map state.calls (call_changed p f) in
      omega arith

  -- ---- a call
  none_told : (d : ClientState) (o : Option IssueFault) → told_of c (on_judged d o).ended ≡ 0
  none_told d None = refl
  none_told d (Some fault) = refl

  call_balances : (d : ClientState) (o : Option IssueFault) (k : Call) (b : Bool)
      → Balances c state (cond b (after_judged (issue_fault state k) k state) state) (on_judged d o).ended
  call_balances d o k true =
      let new : ClientState = after_judged (issue_fault state k) k state in
      let balances : Balances c state new None = judged_balances c state k (issue_fault state k) in
      let none : told_of c (on_judged d o).ended ≡ 0 = none_told d o in
      omega arith
  call_balances d o k false = stays c state _ (none_told d o)

  -- ---- a poll
  abbrev Of : Polled → Type 0
  Of p = Balances c state (handed_out (after_poll (now a l) p state)) (on_polled a l state p).ended

  fence_balances : (k : ClientCall) (rest : List ClientCall) → state.calls ≡ k ∷ rest → is_fence k.call ≡ true
      → Of (EndsFence k.number)
  fence_balances k rest is fence =
      let after : filter (λ j. not (is_fence_of k.number j)) state.calls ≡ rest =
      ap (filter (λ j. not (is_fence_of k.number j))) is ∙ fence_goes k rest fence (subst (Rising 1) is (calls_rise config a c)) in
      let left : length (filter (λ j. not (is_fence_of k.number j)) state.calls) ≡ length rest = ap length after in
      let before : length state.calls ≡ length (k ∷ rest) = ap length is in
      let told : told_of c (on_polled a l state (EndsFence k.number)).ended ≡ 1 = ap (λ b. cond b 1 0) (eqb_same c.0) in
      omega arith

  first_balances : (calls : List ClientCall) → state.calls ≡ calls → (x : Polled) → fence_first calls ≡ Some x → Of x
  first_balances [] is x e = grind arith
  first_balances (k ∷ rest) is x e = go (is_fence k.call) refl e where
    go : (b : Bool) → is_fence k.call ≡ b → cond b (Some (EndsFence k.number)) None ≡ Some x → Of x
    go true fence e = let same : EndsFence k.number ≡ x = cc in subst Of same (fence_balances k rest is fence)
    go false fence e = grind arith

  sends_balances : (items : List Outgoing) → Of (Sends items)
  sends_balances items =
      let same : length (sent_calls (now a l) items state.calls) ≡ length state.calls = as_many_sent (now a l) items state.calls in
      omega arith

  send_balances : (room : Bool) (x : Polled)
      → cond room (option_map (λ p. Sends (anew (next_id state) p ∷ [])) (slice_get (sendable state) 0)) None ≡ Some x → Of x
  send_balances true x e =
      case_of_map Of (λ p. Sends (anew (next_id state) p ∷ [])) (slice_get (sendable state) 0)
      (λ p is. sends_balances (anew (next_id state) p ∷ [])) x e
  send_balances false x e = grind arith

  own_poll : Of (poll state (now a l))
  own_poll =
      let t : ℕ = now a l in
      first_case Of (to_give_up state t ∷ fence_first state.calls ∷ to_send_again state t ∷ to_send state ∷ []) Idles (
        case_of_map Of GivesUp (find (λ g. is_old t g.first) (flights state)) (λ f is. part_balances f.part (given_up t)),
        (
          first_balances state.calls refl,
          (
            case_of_map Of (λ f. Sends (again (next_id state) f ∷ [])) (find (λ g. is_due t g.first g.last) (flights state))
                (λ f is. sends_balances (again (next_id state) f ∷ [])),
            (send_balances (has_room_in_flight state), tt),
          ),
        ),
      )
      (stays c state None refl)

  poll_balances : (d : ClientNo) (b : Bool) → same_client c d ≡ b
      → Balances c state (cond b (handed_out (after_poll (now a l) (poll state (now a l)) state)) state)
      (on_polled a l (client_at config a d) (poll (client_at config a d) (now a l))).ended
  poll_balances d true same =
      subst (λ (x : ClientNo). Balances c state (handed_out (after_poll (now a l) (poll state (now a l)) state))
      (on_polled a l (client_at config a x) (poll (client_at config a x) (now a l))).ended)
      (same_clients c d same) own_poll
  poll_balances d false apart =
      stays c state _ (other_poll a l c (client_at config a d) apart (poll (client_at config a d) (now a l)))

  -- ---- a delivery
  own_reply : (k : ℕ) (head : Head) (reply : Reply) (if_taken : List Entry) (o : Option Sending)
      → Balances c state (after_heard o reply state) (on_flight state k head reply if_taken o).ended
  own_reply k head reply if_taken None = stays c state None refl
  own_reply k head reply if_taken (Some f) = part_balances f.part (answered reply)

  reply_balances : (k : ℕ) (head : Head) (reply : Reply) (if_taken : List Entry) (b : Bool) → same_client c head.client ≡ b
      → Balances c state (cond b (after_heard (flight_under head.orig state) reply state) state)
      (on_reply (client_at config a head.client) k head reply if_taken).ended
  reply_balances k head reply if_taken true same =
      subst (λ (x : ClientNo). Balances c state (after_heard (flight_under head.orig state) reply state)
      (on_reply (client_at config a x) k head reply if_taken).ended)
      (same_clients c head.client same) (own_reply k head reply if_taken (flight_under head.orig state))
  reply_balances k head reply if_taken false apart =
      let d : ClientState = client_at config a head.client in
      stays c state _ (other_reply c d apart k head reply if_taken (flight_under head.orig d))

  load_balances : (k : ℕ) (load : Load) → Balances c state (after_load load state) (handed keep config a l k load).ended
  load_balances k (Asks items) = stays c state _ (ap (told_of c) (no_end keep config l k items a 0))
  load_balances k (Answers head reply if_taken) = reply_balances k head reply if_taken (same_client c head.client) refl

  frame_balances : (k : ℕ) (o : Option Frame)
      → Balances c state (after_frame (now a l) o state) (on_frame keep config a l k o).ended
  frame_balances k None = stays c state None refl
  frame_balances k (Some frame) = go (is_live (now a l) frame.moment) where
    go : (b : Bool) → Balances c state (after_delivered b frame state) (if_live keep config a l k frame b).ended
    go true = load_balances k frame.load
    go false = stays c state None refl

  next_balances : (k : ℕ) (o : Option Frame) → frame_at a k ≡ o
      → Balances c state (after_frame (now a l) o state) (if_there keep config (on_delivery keep config a l) k o).ended
  next_balances k None is = stays c state None refl
  next_balances k (Some frame) is =
      subst (λ o. Balances c state (after_frame (now a l) o state) (on_delivery keep config a l k).ended) is
      (frame_balances k (frame_at a k))

  -- ---- what only shows
  drop_balances : (k : ℕ) (o : Option Frame) → Balances c state state (if_there keep config (λ k. says (did.Dropped k)) k o).ended
  drop_balances k None = stays c state None refl
  drop_balances k (Some frame) = stays c state None refl

  show_balances : (k : ℕ) (o : Option Frame) → Balances c state state (shown k o).ended
  show_balances k None = stays c state None refl
  show_balances k (Some frame) = stays c state None refl

  garbage_balances : (o : Option BadFrame) → Balances c state state (on_garbage o).ended
  garbage_balances None = stays c state None refl
  garbage_balances (Some fault) = stays c state None refl

  line_balances : (e : Event) → Balances c state (after_event a l e state) (effect keep config a l e).ended
  line_balances (event.Call client text) =
      let d : ClientState = client_at config a client in
      call_balances d (issue_fault d (call_of text)) (call_of text) (same_client c client)
  line_balances (event.Poll client) = poll_balances client (same_client c client) refl
  line_balances (event.Deliver frame) = frame_balances frame (frame_at a frame)
  line_balances event.DeliverNext = next_balances (taken_in_order a + 1) (frame_at a (taken_in_order a + 1)) refl
  line_balances event.Drop = drop_balances (taken_in_order a + 1) (frame_at a (taken_in_order a + 1))
  line_balances (event.Tick by) = stays c state None refl
  line_balances (event.Peek pid addr len) =
      peek_is_quiet (λ e. Balances c state state e.ended) (λ d quiet. stays c state None refl)
      (memory_at config a.history l 0) pid addr len
  line_balances (event.Show frame) = show_balances frame (frame_at a frame)
  line_balances event.Stat = stays c state None refl
  line_balances (event.GarbageNode bytes) = garbage_balances (request_fault (expanded bytes))
  line_balances (event.GarbageClient client bytes) = garbage_balances (reply_fault (expanded bytes))

-- ---- the induction
abbrev Ends : Config → Account → ClientNo → Type 0
Ends config a c = length (issued a c) ≡ length (ends_of a c) + length (client_at config a c).calls

ends_next : (keep : List Entry → List Entry) (config : Config) (a : Account) (e : ℕ × Event) (c : ClientNo)
    → Followed a c → Ends config a c → Ends config (next_account keep config a e) c
ends_next keep config a e c h before =
    let new : Account = next_account keep config a e in
    let after : ClientState = after_event a e.0 e.1 (client_at config a c) in
    let told : ℕ = told_of c (effect keep config a e.0 e.1).ended in
    let is : client_at config new c ≡ after = follows keep config a e.0 e.1 c h.premises in
    let issues : length (issued new c) ≡ after.issued = ap (λ (s : ClientState). s.issued) is in
    let holds : length (client_at config new c).calls ≡ length after.calls = ap (λ (s : ClientState). length s.calls) is in
    let ends : length (ends_of new c) ≡ length (ends_of a c) + told = ends_extended a e.0 e.1 (effect keep config a e.0 e.1) c in
    let line : after.issued + length (client_at config a c).calls ≡ length (issued a c) + (told + length after.calls) =
    line_balances keep config a e.0 c e.1 in
    omega arith

ends_from : (keep : List Entry → List Entry) (config : Config) (events : List (ℕ × Event)) (a : Account) (c : ClientNo)
    → Followed a c → Ends config a c → Ends config (account_from keep config a events) c
ends_from keep config [] a c h before = before
ends_from keep config (e ∷ es) a c h before =
    ends_from keep config es (next_account keep config a e) c
    (followed_next keep config a e c h) (ends_next keep config a e c h before)

pub calls_add_up : CallsAddUp
calls_add_up keep config events c = ends_from keep config events nothing_yet c (followed_nothing c) refl
