-- What each rule of a poll does to the fields is what it does to the machine.
use Rattle.std.proofs.Common.{◌≡◌, ℕ, zero, suc, ◌+◌, ◌-◌, ◌*◌, ◌<◌, ◌≤◌, List, [], ◌∷◌, ◌++◌, refl, ap, sym, ◌∙◌, subst, Some, None, Option, Bool, true, false, cond, arith, map, length}
use Rattle.std.specs.Prelude.{◌==◌, ◌||◌, ◌&&◌, leb, nat_lt, find, option_map, slice_get, sum_by, unwrap_or, ◌^◌}
use Rattle.std.specs.List.{AllByRecursion as Each, list_any}
use Rattle.std.proofs.lemmas.Bool.Decides.{nat_tests}
use Rattle.std.proofs.lemmas.List.{length-map}
use Rattle.cl_types.specs.Bytes.{with_bytes}
use Rattle.cl_types.specs.declared.numbers.ClientNo.{ClientNo}
use Rattle.cl_types.specs.declared.numbers.CallNo.{CallNo}
use Rattle.cl_types.specs.declared.frame.Head.{Head}
use Rattle.cl_types.specs.declared.request.Request.{Request}
use Rattle.cl_types.specs.declared.reply.Part.{Part}
use Rattle.client_model.specs.Cut.{Ending, GivenUp}
use Rattle.client_model.specs.Client.{ClientPart, ClientState, GivesUp, InFlight, Outgoing, Over, Polled, Sending, Sends, Standing, Unsent, after_polled, again, anew, flight, flights, given_up, has_room_in_flight, head_of, parts_of, sendable, to_give_up, to_send, to_send_again}
use Rattle.client_retry.specs.declared.flown.Flown.{Flown}
use Rattle.client_retry.specs.declared.due.Due.{Due}
use Rattle.client_retry.specs.declared.due.Due.TheVariants as due
use Rattle.client_retry.specs.Flights.{Flights, has_orig, has_part, with_flown, without, sent_again}
use Rattle.client_retry.specs.Rules.{due_again, due_first}
use Rattle.client_core.specs.declared.ids.TheConstants.{LAST_FIRST_ID}
use Rattle.client_core.specs.declared.answers.Poll.{Poll}
use Rattle.client_core.specs.declared.answers.Poll.TheVariants as poll
use Rattle.client_core.specs.Answers.{poll_answer, poll_bytes, frame_bytes}
use Rattle.client_core.specs.Held.{Held, Holding, IsAwaited, after_coming, changed, has_unsent, held_at, may_send, next_part, part_to_send, print_of, request_at, with_one_sent}
use Rattle.client_core.specs.Fields.{call_in, flown_of, state_of, IsFit, IsSound}
use Rattle.client_core.specs.Polls.{Does, due_in}
use Rattle.client_core.proofs.Basics.{none_some}
use Rattle.client_core.proofs.Naming.{IsInFlight, IsThere}
use Rattle.client_core.proofs.Laws.{IsId, fresh_id, ids, left}
use Rattle.client_core.proofs.Deciding.{find_flown, flight_requests, found_by_id, next_found, sendable_request}
use Rattle.client_core.proofs.Sounds.{Step, again_step, apart, came_step, flying, known, rising, sent_step, there, vacant}
use Rattle.cl_types.specs.Times.{is_old as is_old_at, is_due as is_due_at}
use Rattle.lemmas.proofs.Lists.{find_some as each_found}
use Rattle.lemmas.proofs.SameParts.{eqb_is}

-- the rules of time, of a sending
abbrev is_old : ℕ → Sending → Bool
is_old t f = is_old_at t f.first

abbrev is_due : ℕ → Sending → Bool
is_due t f = is_due_at t f.first f.last

-- and of a part in flight
abbrev is_old_flown : ℕ → Flown → Bool
is_old_flown t f = is_old_at t f.first

abbrev is_due_flown : ℕ → Flown → Bool
is_due_flown t f = is_due_at t f.first f.last

-- ---- what a poll did
pub one_rule : (rule : Option Polled) (p0 : Polled) (old new : ClientState) (answer : Poll) (out out' : List ℕ) → rule ≡ Some p0 → Does p0 old new answer out out' → (p : Polled) → rule ≡ Some p → Does p old new answer out out'
one_rule rule p0 old new answer out out' is does p e = subst (λ q. Does q old new answer out out') (same p (sym is ∙ e)) does
  where
    same : (p : Polled) → ◌≡◌ {A = Option Polled} (Some p0) (Some p) → p0 ≡ p
    same p k = cc

pub sent_does : (s new : ClientState) (o : Outgoing) (part : Part) (id orig : ℕ) (again_is : Bool) → o.part ≡ part → o.id ≡ id → o.orig ≡ orig → o.again ≡ again_is → (len : ℕ) (out out' : List ℕ) →
    len ≡ length (frame_bytes (record { client = s.client; pid = s.pid; id = id; orig = orig }) o.request) → out' ≡ with_bytes 0 (frame_bytes (record { client = s.client; pid = s.pid; id = id; orig = orig }) o.request) out →
    new ≡ after_polled s.last (Sends (o ∷ [])) s → Does (Sends (o ∷ [])) s new (poll.Sent len part id orig again_is) out out'
sent_does s new o part id orig again_is part_is id_is orig_is again_so len out out' len_is out_is state_is =
    let frame : frame_bytes (record { client = s.client; pid = s.pid; id = id; orig = orig }) o.request ≡ frame_bytes (head_of s.client s.pid o) o.request = λ i. frame_bytes (record { client = s.client; pid = s.pid; id = sym id_is i; orig = sym orig_is i }) o.request in
    record {
      answered = λ i. poll.Sent ((len_is ∙ ap (length {A = ℕ}) frame) i) (sym part_is i) (sym id_is i) (sym orig_is i) (sym again_so i);
      bytes = out_is ∙ ap (λ b. with_bytes 0 b out) frame;
      state = state_is;
    }

any_found : {X : Type 0} (test : X → Bool) (xs : List X) (x : X) → find test xs ≡ Some x → list_any test xs ≡ true
any_found test [] x e = none_some x e
any_found {X} test (y ∷ xs) x e = go (test y) (any_found test xs x) e
  where
    go : (b : Bool) → (find test xs ≡ Some x → list_any test xs ≡ true) → cond b (Some y) (find test xs) ≡ Some x → (b || list_any test xs) ≡ true
    go true rec k = refl
    go false rec k = rec k

always : {X : Type 0} (xs : List X) → Each (λ (x : X). Unit {0}) xs
always [] = tt
always (x ∷ xs) = (tt, always xs)

-- ---- what is due
record IsOld (ss : List Sending) (t : ℕ) (part : Part) (orig first : ℕ) : Type 0 where
  x : Sending
  found : find (is_old t) ss ≡ Some x
  part_is : x.part ≡ part
  orig_is : x.orig ≡ orig
  first_is : x.first ≡ first

old_by : (ss : List Sending) (t : ℕ) (part : Part) (orig first : ℕ) (o d : Option Sending) → find (is_old t) ss ≡ o → due_first (option_map flown_of o) (due_again (option_map flown_of d)) ≡ due.GiveUp part orig first → IsOld ss t part orig first
old_by ss t part orig first (Some x) d e h = record { x = x; found = e; part_is = cc; orig_is = cc; first_is = cc }
old_by ss t part orig first None (Some x) e h = absurd cc
old_by ss t part orig first None None e h = absurd cc

is_old_one : (ss : List Sending) (t : ℕ) (part : Part) (orig first : ℕ) → due_first (find (is_old_flown t) (map flown_of ss)) (due_again (find (is_due_flown t) (map flown_of ss))) ≡ due.GiveUp part orig first → IsOld ss t part orig first
is_old_one ss t part orig first h =
    old_by ss t part orig first (find (is_old t) ss) (find (is_due t) ss) refl
    ((λ i. due_first (sym (find_flown (is_old_flown t) ss) i) (due_again (sym (find_flown (is_due_flown t) ss) i))) ∙ h)

record IsDue (ss : List Sending) (t : ℕ) (part : Part) (orig : ℕ) : Type 0 where
  x : Sending
  found : find (is_due t) ss ≡ Some x
  part_is : x.part ≡ part
  orig_is : x.orig ≡ orig

due_by : (ss : List Sending) (t : ℕ) (part : Part) (orig : ℕ) (o d : Option Sending) → find (is_due t) ss ≡ d → due_first (option_map flown_of o) (due_again (option_map flown_of d)) ≡ due.Resend part orig → IsDue ss t part orig
due_by ss t part orig (Some x) d e h = absurd cc
due_by ss t part orig None (Some x) e h = record { x = x; found = e; part_is = cc; orig_is = cc }
due_by ss t part orig None None e h = absurd cc

is_due_one : (ss : List Sending) (t : ℕ) (part : Part) (orig : ℕ) → due_first (find (is_old_flown t) (map flown_of ss)) (due_again (find (is_due_flown t) (map flown_of ss))) ≡ due.Resend part orig → IsDue ss t part orig
is_due_one ss t part orig h =
    due_by ss t part orig (find (is_old t) ss) (find (is_due t) ss) refl
    ((λ i. due_first (sym (find_flown (is_old_flown t) ss) i) (due_again (sym (find_flown (is_due_flown t) ss) i))) ∙ h)

-- where nothing is to be given up, no rule finds an old part
pub nothing_old : (ss : List Sending) (t : ℕ) → ((part : Part) (orig first : ℕ) → due_first (find (is_old_flown t) (map flown_of ss)) (due_again (find (is_due_flown t) (map flown_of ss))) ≡ due.GiveUp part orig first → ⊥) → find (is_old t) ss ≡ None
nothing_old ss t h = go (find (is_old t) ss) refl
  where
    go : (o : Option Sending) → find (is_old t) ss ≡ o → o ≡ None
    go None e = refl
    go (Some x) e = absurd (h x.part x.orig x.first (λ i. due_first ((find_flown (is_old_flown t) ss ∙ ap (option_map flown_of) e) i) (due_again (find (is_due_flown t) (map flown_of ss)))))

module _ (no : ClientNo) (pid issued sendings : ℕ) (calls : Holding) (f : Flights) (last : ℕ) (sound : IsSound (state_of no pid issued sendings calls f last) calls.held f) where
  -- ---- a part is given up
  pub record GaveUp (part : Part) (orig first : ℕ) : Type 0 where
    pub x : Sending
    pub rule : to_give_up (state_of no pid issued sendings calls f last) last ≡ Some (GivesUp x)
    pub part_is : x.part ≡ part
    pub first_is : x.first ≡ first
    pub entry : find (λ g. g.orig == orig) f.flown ≡ Some (flown_of x)

  pub gave_up : (part : Part) (orig first : ℕ) → due_in (state_of no pid issued sendings calls f last) ≡ due.GiveUp part orig first → GaveUp part orig first
  gave_up part orig first h =
      let old = is_old_one (flights (state_of no pid issued sendings calls f last)) last part orig first h in
      let in_flown : find (is_old_flown last) f.flown ≡ Some (flown_of old.x) = ap (find (is_old_flown last)) (sym sound.flight) ∙ find_flown (is_old_flown last) (flights (state_of no pid issued sendings calls f last)) ∙ ap (option_map flown_of) old.found in
      record {
        x = old.x;
        rule = ap (option_map GivesUp) old.found;
        part_is = old.part_is;
        first_is = old.first_is;
        entry = ap (λ n. find (λ (g : Flown). g.orig == n) f.flown) (sym old.orig_is) ∙ found_by_id (is_old_flown last) f.flown (flown_of old.x) (apart no pid issued sendings calls f last sound) in_flown;
      }

  pub entry_there : (orig : ℕ) (g : Flown) → find (λ g. g.orig == orig) f.flown ≡ Some g → has_orig orig f.flown ≡ true
  entry_there orig g e = any_found (λ (g : Flown). g.orig == orig) f.flown g e

  pub entry_flies : (orig : ℕ) (g : Flown) → find (λ g. g.orig == orig) f.flown ≡ Some g → IsInFlight calls.held f.flown g
  entry_flies orig g e = (each_found (IsInFlight calls.held f.flown) (λ (g : Flown). g.orig == orig) f.flown g (flying no pid issued sendings calls f last sound) e).0

  pub awaited : (part : Part) (orig first : ℕ) → GaveUp part orig first → IsAwaited part calls.held
  awaited part orig first u = subst (λ q. IsAwaited q calls.held) u.part_is (entry_flies orig (flown_of u.x) u.entry).awaited

  pub gave_up_step : (part : Part) (orig first : ℕ) (u : GaveUp part orig first) (calls' : Holding) (f' : Flights) → calls' ≡ after_coming part (GivenUp first last) calls → f'.flown ≡ without orig f.flown → f'.last ≡ f.last →
      Step no pid issued sendings calls f last sound (after_polled last (GivesUp u.x) (state_of no pid issued sendings calls f last)) issued sendings calls' f'
  gave_up_step part orig first u calls' f' calls_are flown_is last_is =
      came_step no pid issued sendings calls f last sound orig (flown_of u.x) (GivenUp u.x.first last) (given_up last) u.entry refl (λ q r st. never q r st)
      calls' f' (calls_are ∙ (λ i. after_coming (sym u.part_is i) (GivenUp (sym u.first_is i) last) calls)) flown_is last_is
    where
      never : (q : Part) (r : Request) (st : Standing) → flight q r (given_up last st) ≡ None
      never q r Unsent = refl
      never q r (InFlight orig first last) = refl
      never q r (Over e) = refl

  -- ---- a part is sent again
  pub record SentAgain (part : Part) (orig : ℕ) : Type 0 where
    pub x : Sending
    pub rule : to_send_again (state_of no pid issued sendings calls f last) last ≡ Some (Sends (again (sendings + 1) x ∷ []))
    pub part_is : x.part ≡ part
    pub orig_is : x.orig ≡ orig
    pub due_is : is_due last x ≡ true
    pub entry : find (λ g. g.orig == orig) f.flown ≡ Some (flown_of x)
    pub request : request_at calls.held part ≡ Some x.request

  pub sent_once_more : (part : Part) (orig : ℕ) → due_in (state_of no pid issued sendings calls f last) ≡ due.Resend part orig → SentAgain part orig
  sent_once_more part orig h =
      let d = is_due_one (flights (state_of no pid issued sendings calls f last)) last part orig h in
      let in_flown : find (is_due_flown last) f.flown ≡ Some (flown_of d.x) = ap (find (is_due_flown last)) (sym sound.flight) ∙ find_flown (is_due_flown last) (flights (state_of no pid issued sendings calls f last)) ∙ ap (option_map flown_of) d.found in
      let asks = each_found (λ (x : Sending). request_at calls.held x.part ≡ Some x.request) (is_due last) (flights (state_of no pid issued sendings calls f last)) d.x
      (flight_requests (state_of no pid issued sendings calls f last) f.flown calls.held refl (there no pid issued sendings calls f last sound)) d.found in
      record {
        x = d.x;
        rule = ap (option_map (λ (x : Sending). Sends (again (sendings + 1) x ∷ []))) d.found;
        part_is = d.part_is;
        orig_is = d.orig_is;
        due_is = asks.1;
        entry = ap (λ n. find (λ (g : Flown). g.orig == n) f.flown) (sym d.orig_is) ∙ found_by_id (is_due_flown last) f.flown (flown_of d.x) (apart no pid issued sendings calls f last sound) in_flown;
        request = ap (request_at calls.held) (sym d.part_is) ∙ asks.0;
      }

  pub sent_again_step : (part : Part) (orig : ℕ) (u : SentAgain part orig) (f' : Flights) → f'.flown ≡ sent_again orig last f.flown → f'.last ≡ last →
      Step no pid issued sendings calls f last sound (after_polled last (Sends (again (sendings + 1) u.x ∷ [])) (state_of no pid issued sendings calls f last)) issued (sendings + 1) calls f'
  sent_again_step part orig u f' flown_is last_is =
      again_step no pid issued sendings calls f last sound (again (sendings + 1) u.x) orig (flown_of u.x) u.entry refl refl (since last u.x.last u.x.first u.due_is) (age last u.x.last u.x.first u.due_is) f' flown_is last_is
    where
      since : (t l s : ℕ) → (leb 100 (t - l) && leb (t - s) 300) ≡ true → 100 ≤ t - l
      since t l s e = grind (arith, nat_tests)

      age : (t l s : ℕ) → (leb 100 (t - l) && leb (t - s) 300) ≡ true → t - s ≤ 300
      age t l s e = grind (arith, nat_tests)

  -- ---- a part is sent for the first time
  pub record SentNew (part : Part) : Type 0 where
    pub q : ClientPart
    pub rule : has_room_in_flight (state_of no pid issued sendings calls f last) ≡ true → to_send (state_of no pid issued sendings calls f last) ≡ Some (Sends (anew (sendings + 1) q ∷ []))
    pub part_is : q.part ≡ part
    pub request : request_at calls.held part ≡ Some q.request
    pub h : Held
    pub at : held_at part.call.0 calls.held ≡ Some h
    pub next : part.part ≡ h.sent
    pub unsent : has_unsent h ≡ true

  pub sent_first : (part : Part) → option_map (λ (p : ClientPart). p.part) (slice_get (sendable (state_of no pid issued sendings calls f last)) 0) ≡ Some part → SentNew part
  sent_first part e = go (slice_get (sendable (state_of no pid issued sendings calls f last)) 0) refl e
    where
      numbered : Each (IsThere calls.held) calls.held
      numbered = there no pid issued sendings calls f last sound

      sending : part_to_send calls.held ≡ Some part
      sending = sym (next_found f.flown issued calls.held (rising no pid issued sendings calls f last sound) sound.fits) ∙ e

      finds : (o : Option Held) → find (may_send (map print_of calls.held)) calls.held ≡ o → option_map next_part o ≡ Some part → (h : Held) × (find (may_send (map print_of calls.held)) calls.held ≡ Some h) × (next_part h ≡ part)
      finds None k z = none_some part z
      finds (Some h) k z = (h, k, cc)

      left_side : (a b : Bool) → (a && b) ≡ true → a ≡ true
      left_side true b k = refl
      left_side false b k = k

      go : (o : Option ClientPart) → slice_get (sendable (state_of no pid issued sendings calls f last)) 0 ≡ o → option_map (λ (p : ClientPart). p.part) o ≡ Some part → SentNew part
      go None k z = none_some part z
      go (Some q) k z =
          let one = finds (find (may_send (map print_of calls.held)) calls.held) refl sending in
          let is = each_found (IsThere calls.held) (may_send (map print_of calls.held)) calls.held one.0 numbered one.1 in
          let part_is : q.part ≡ part = cc in
          record {
            q = q;
            rule = λ room. ap (λ b. cond b (option_map (λ (p : ClientPart). Sends (anew (sendings + 1) p ∷ [])) (slice_get (sendable (state_of no pid issued sendings calls f last)) 0)) None) room ∙ ap (option_map (λ (p : ClientPart). Sends (anew (sendings + 1) p ∷ []))) k;
            part_is = part_is;
            request = ap (request_at calls.held) (sym part_is) ∙ sendable_request (state_of no pid issued sendings calls f last) f.flown calls.held refl numbered q k;
            h = one.0;
            at = ap (λ (p : Part). held_at p.call.0 calls.held) (sym one.2) ∙ is.0;
            next = ap (λ (p : Part). p.part) (sym one.2);
            unsent = left_side _ _ is.1;
          }

  pub sent_first_step : (part : Part) (u : SentNew part) (calls' : Holding) (f' : Flights) → calls'.held ≡ changed part.call.0 with_one_sent calls.held → calls'.ended ≡ calls.ended →
      f'.flown ≡ with_flown (record { part = part; orig = sendings + 1; first = last; last = last }) f.flown → f'.last ≡ last →
      Step no pid issued sendings calls f last sound (after_polled last (Sends (anew (sendings + 1) u.q ∷ [])) (state_of no pid issued sendings calls f last)) issued (sendings + 1) calls' f'
  sent_first_step part u calls' f' held_is ended_is flown_is last_is =
      sent_step no pid issued sendings calls f last sound (anew (sendings + 1) u.q) u.h
      (ap (λ (p : Part). held_at p.call.0 calls.held) u.part_is ∙ u.at) (ap (λ (p : Part). p.part) u.part_is ∙ u.next) u.unsent refl refl calls' f'
      (held_is ∙ ap (λ (p : Part). changed p.call.0 with_one_sent calls.held) (sym u.part_is)) ended_is
      (flown_is ∙ ap (λ (p : Part). with_flown (record { part = p; orig = sendings + 1; first = last; last = last }) f.flown) (sym u.part_is)) last_is

  pub few_fly : has_room_in_flight (state_of no pid issued sendings calls f last) ≡ true → length f.flown < 64
  few_fly room = go (length f.flown) (ap (λ n. nat_lt n 64) (ap (length {A = Flown}) (sym sound.flight) ∙ length-map (flights (state_of no pid issued sendings calls f last)) flown_of) ∙ room)
    where
      go : (n : ℕ) → nat_lt n 64 ≡ true → n < 64
      go n e = grind (arith, nat_tests)

  pub new_part : (part : Part) → SentNew part → has_part part f.flown ≡ false
  new_part part u = vacant no pid issued sendings calls f last sound part u.h u.at u.next

  pub new_id : has_orig (sendings + 1) f.flown ≡ false
  new_id = fresh_id sendings f.flown (known no pid issued sendings calls f last sound)

  pub unsent_there : (part : Part) → SentNew part → option_map has_unsent (held_at part.call.0 calls.held) ≡ Some true
  unsent_there part u = ap (option_map has_unsent) u.at ∙ ap (λ b. Some b) u.unsent

  -- ---- ids
  pub entry_id : (orig : ℕ) (g : Flown) → find (λ g. g.orig == orig) f.flown ≡ Some g → (1 ≤ orig) × (orig ≤ sendings)
  entry_id orig g e =
      let is = each_found (λ (x : Flown). IsId sendings x.orig) (λ (x : Flown). x.orig == orig) f.flown g (of_ids f.flown (known no pid issued sendings calls f last sound)) e in
      subst (IsId sendings) (eqb_is g.orig orig is.1) is.0
    where
      of_ids : (fs : List Flown) → Each (IsId sendings) (ids fs) → Each (λ (x : Flown). IsId sendings x.orig) fs
      of_ids [] h = tt
      of_ids (x ∷ fs) h = (h.0, of_ids fs h.1)

  pub few_ids : issued < 2 ^ 32 → sendings + 1 < 2 ^ 64
  few_ids small = go (sum_by left (parts_of (map (call_in f.flown) calls.held))) sound.valid.sendings
    where
      go : (n : ℕ) → sendings + n ≤ LAST_FIRST_ID + 260 * issued → sendings + 1 < 2 ^ 64
      go n h = omega arith

pub nothing_due : (ss : List Sending) (t : ℕ) → ((part : Part) (orig first : ℕ) → due_first (find (is_old_flown t) (map flown_of ss)) (due_again (find (is_due_flown t) (map flown_of ss))) ≡ due.GiveUp part orig first → ⊥) →
    ((part : Part) (orig : ℕ) → due_first (find (is_old_flown t) (map flown_of ss)) (due_again (find (is_due_flown t) (map flown_of ss))) ≡ due.Resend part orig → ⊥) → find (is_due t) ss ≡ None
nothing_due ss t old again = go (find (is_due t) ss) refl
  where
    none_old : find (is_old t) ss ≡ None
    none_old = nothing_old ss t old

    go : (o : Option Sending) → find (is_due t) ss ≡ o → o ≡ None
    go None e = refl
    go (Some x) e = absurd (again x.part x.orig (λ i. due_first ((find_flown (is_old_flown t) ss ∙ ap (option_map flown_of) none_old) i) (due_again ((find_flown (is_due_flown t) ss ∙ ap (option_map flown_of) e) i))))
