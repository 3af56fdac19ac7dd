-- What is heard, by what was read and what is in flight.
use Rattle.std.proofs.Common.{◌≡◌, ℕ, zero, ◌+◌, ◌<◌, ◌≤◌, List, [], ◌∷◌, ◌++◌, refl, ap, sym, ◌∙◌, subst, Some, None, Option, Bool, true, false, cond, arith, map, length}
use Rattle.std.specs.Prelude.{◌==◌, ◌&&◌, find, is_some, nat_lt, option_and_then, option_map, slice_get, slice_index}
use Rattle.std.specs.List.{AllByRecursion as Each}
use Rattle.std.proofs.lemmas.Bool.Decides.{nat_tests}
use Rattle.cl_types.specs.declared.numbers.ClientNo.{ClientNo}
use Rattle.cl_types.specs.declared.call.Kind.{Kind}
use Rattle.cl_types.specs.declared.call.Kind.TheVariants as kind
use Rattle.cl_types.specs.declared.frame.BadFrame.{BadFrame}
use Rattle.cl_types.specs.declared.frame.Head.{Head}
use Rattle.cl_types.specs.declared.request.Request.{Request}
use Rattle.cl_types.specs.declared.request.Request.TheVariants as request
use Rattle.cl_types.specs.declared.reply.Part.{Part}
use Rattle.cl_types.specs.declared.reply.Reply.{Reply}
use Rattle.cl_types.specs.declared.reply.Reply.TheVariants as reply
use Rattle.client_model.specs.Cut.{Replied, cut}
use Rattle.cl_types.specs.Kinds.{kind_number}
use Rattle.frame_model.specs.Frames.{head_in, is_reply_of, kind_of, reply_fault, reply_in}
use Rattle.frame_model.specs.FrameLaws.{ReadsAsReply}
use Rattle.client_model.specs.Client.{ClientState, InFlight, Over, Sending, Standing, Unsent, after_part, answered, flight, flight_under, flights}
use Rattle.client_model.specs.Hearing.{Hearing, HearsBad, HearsOther, HearsLate, HearsUnfit, HearsReply, after_hearing, heard_good, heard_in_flight, heard_judged, hearing, is_as_long, is_fit}
use Rattle.call_cut.specs.Taking.{TakesFor, is_reply_to}
use Rattle.client_retry.specs.declared.flown.Flown.{Flown}
use Rattle.client_retry.specs.Flights.{Flights, without}
use Rattle.client_core.specs.declared.answers.Heard.{Heard}
use Rattle.client_core.specs.declared.answers.Heard.TheVariants as heard
use Rattle.client_core.specs.Answers.{ends_a_call, heard_answer, heard_as}
use Rattle.client_core.specs.Held.{Held, Holding, IsAwaited, after_coming, held_at, request_at}
use Rattle.client_core.specs.Fields.{flown_of, state_of, IsSound}
use Rattle.client_core.proofs.Basics.{none_some}
use Rattle.client_core.proofs.Deciding.{find_flown, flight_requests}
use Rattle.client_core.proofs.Polling.{entry_flies}
use Rattle.client_core.proofs.Sounds.{Step, came_step, there}
use Rattle.lemmas.proofs.Lists.{find_some as each_found}
use Rattle.lemmas.proofs.SameParts.{and_left as left_of, and_right as right_of}

-- ---- kinds
same_kind : (a b : Kind) → (kind_number a == kind_number b) ≡ true → a ≡ b
same_kind kind.Alloc kind.Alloc e = refl
same_kind kind.Alloc kind.Free e = absurd cc
same_kind kind.Alloc kind.Read e = absurd cc
same_kind kind.Alloc kind.Write e = absurd cc
same_kind kind.Alloc kind.Atomic e = absurd cc
same_kind kind.Alloc kind.Offload e = absurd cc
same_kind kind.Free kind.Alloc e = absurd cc
same_kind kind.Free kind.Free e = refl
same_kind kind.Free kind.Read e = absurd cc
same_kind kind.Free kind.Write e = absurd cc
same_kind kind.Free kind.Atomic e = absurd cc
same_kind kind.Free kind.Offload e = absurd cc
same_kind kind.Read kind.Alloc e = absurd cc
same_kind kind.Read kind.Free e = absurd cc
same_kind kind.Read kind.Read e = refl
same_kind kind.Read kind.Write e = absurd cc
same_kind kind.Read kind.Atomic e = absurd cc
same_kind kind.Read kind.Offload e = absurd cc
same_kind kind.Write kind.Alloc e = absurd cc
same_kind kind.Write kind.Free e = absurd cc
same_kind kind.Write kind.Read e = absurd cc
same_kind kind.Write kind.Write e = refl
same_kind kind.Write kind.Atomic e = absurd cc
same_kind kind.Write kind.Offload e = absurd cc
same_kind kind.Atomic kind.Alloc e = absurd cc
same_kind kind.Atomic kind.Free e = absurd cc
same_kind kind.Atomic kind.Read e = absurd cc
same_kind kind.Atomic kind.Write e = absurd cc
same_kind kind.Atomic kind.Atomic e = refl
same_kind kind.Atomic kind.Offload e = absurd cc
same_kind kind.Offload kind.Alloc e = absurd cc
same_kind kind.Offload kind.Free e = absurd cc
same_kind kind.Offload kind.Read e = absurd cc
same_kind kind.Offload kind.Write e = absurd cc
same_kind kind.Offload kind.Atomic e = absurd cc
same_kind kind.Offload kind.Offload e = refl

fits_kind : (q : Request) (r : Reply) → is_reply_of (kind_of q) r ≡ true → is_as_long q r ≡ true → is_reply_to q r ≡ true
fits_kind (request.Alloc pages perm) (reply.Refused refusal) good long = refl
fits_kind (request.Alloc pages perm) reply.Nothing good long = absurd cc
fits_kind (request.Alloc pages perm) (reply.At addr') good long = refl
fits_kind (request.Alloc pages perm) (reply.Word word) good long = absurd cc
fits_kind (request.Alloc pages perm) (reply.Got answer) good long = absurd cc
fits_kind (request.Free addr pages) (reply.Refused refusal) good long = refl
fits_kind (request.Free addr pages) reply.Nothing good long = refl
fits_kind (request.Free addr pages) (reply.At addr') good long = absurd cc
fits_kind (request.Free addr pages) (reply.Word word) good long = absurd cc
fits_kind (request.Free addr pages) (reply.Got answer) good long = absurd cc
fits_kind (request.Read addr n) (reply.Refused refusal) good long = refl
fits_kind (request.Read addr n) reply.Nothing good long = absurd cc
fits_kind (request.Read addr n) (reply.At addr') good long = absurd cc
fits_kind (request.Read addr n) (reply.Word word) good long = absurd cc
fits_kind (request.Read addr n) (reply.Got answer) good long = long
fits_kind (request.Write addr bytes) (reply.Refused refusal) good long = refl
fits_kind (request.Write addr bytes) reply.Nothing good long = refl
fits_kind (request.Write addr bytes) (reply.At addr') good long = absurd cc
fits_kind (request.Write addr bytes) (reply.Word word) good long = absurd cc
fits_kind (request.Write addr bytes) (reply.Got answer) good long = absurd cc
fits_kind (request.Atomic addr op) (reply.Refused refusal) good long = refl
fits_kind (request.Atomic addr op) reply.Nothing good long = absurd cc
fits_kind (request.Atomic addr op) (reply.At addr') good long = absurd cc
fits_kind (request.Atomic addr op) (reply.Word word) good long = refl
fits_kind (request.Atomic addr op) (reply.Got answer) good long = absurd cc
fits_kind (request.Offload number op out bytes) (reply.Refused refusal) good long = refl
fits_kind (request.Offload number op out bytes) reply.Nothing good long = absurd cc
fits_kind (request.Offload number op out bytes) (reply.At addr') good long = absurd cc
fits_kind (request.Offload number op out bytes) (reply.Word word) good long = absurd cc
fits_kind (request.Offload number op out bytes) (reply.Got answer) good long = long

-- ---- what bytes are heard as
abbrev judged : ClientState → List ℕ → Head → Hearing
judged s bytes head = cond (head.client.0 == s.client.0) (heard_in_flight s.pid bytes (flight_under head.orig s)) (HearsOther head.client)

heard_view : (s : ClientState) (bytes : List ℕ) (head : Head) (k : Kind) (body : Reply) → ReadsAsReply bytes head k body → hearing s bytes ≡ judged s bytes head
heard_view s bytes head k body r = ap (heard_judged s bytes) r.faultless ∙ ap (judged s bytes) r.same_head

-- the answer and the state are those of what was heard
pub record IsHeard (old new : ClientState) (bytes : List ℕ) (answer : Heard) : Type 0 where
  pub answer_is : answer ≡ heard_answer old (heard_as old bytes)
  pub state_is : new ≡ after_hearing (heard_as old bytes) old

is_heard_as : (old new : ClientState) (bytes : List ℕ) (answer : Heard) (h : Hearing) → hearing old bytes ≡ h → answer ≡ heard_answer old h → new ≡ after_hearing h old → IsHeard old new bytes answer
unfolding heard_as
is_heard_as old new bytes answer h is a n = record { answer_is = a ∙ ap (heard_answer old) (sym is); state_is = n ∙ ap (λ z. after_hearing z old) (sym is) }

pub is_bad : (old : ClientState) (bytes : List ℕ) (fault : BadFrame) → reply_fault bytes ≡ Some fault → IsHeard old old bytes (heard.Bad fault)
is_bad old bytes fault e = is_heard_as old old bytes (heard.Bad fault) (HearsBad fault) (ap (heard_judged old bytes) e) refl refl

pub is_other : (old : ClientState) (bytes : List ℕ) (head : Head) (k : Kind) (body : Reply) → ReadsAsReply bytes head k body → (head.client.0 == old.client.0) ≡ false → IsHeard old old bytes (heard.Other head.client)
is_other old bytes head k body r other =
    is_heard_as old old bytes (heard.Other head.client) (HearsOther head.client)
    (heard_view old bytes head k body r ∙ ap (λ b. cond b (heard_in_flight old.pid bytes (flight_under head.orig old)) (HearsOther head.client)) other) refl refl

in_flight : (old : ClientState) (bytes : List ℕ) (head : Head) (k : Kind) (body : Reply) → ReadsAsReply bytes head k body → (head.client.0 == old.client.0) ≡ true → hearing old bytes ≡ heard_in_flight old.pid bytes (flight_under head.orig old)
in_flight old bytes head k body r ours = heard_view old bytes head k body r ∙ ap (λ b. cond b (heard_in_flight old.pid bytes (flight_under head.orig old)) (HearsOther head.client)) ours

-- the reply has the kind and the process of the request, and is as long as it asks
abbrev pub fits_so : Request → ℕ → Head → Kind → Reply → Bool
fits_so q pid head k body = kind_number k == kind_number (kind_of q) && head.pid == pid && is_as_long q body

fit_is : (bytes : List ℕ) (head : Head) (k : Kind) (body : Reply) (pid : ℕ) (x : Sending) → ReadsAsReply bytes head k body → is_fit pid bytes x ≡ fits_so x.request pid head k body
fit_is bytes head k body pid x r =
    (λ i. r.same_kind i == 128 + kind_number (kind_of x.request) && (r.same_head i).pid == pid && is_as_long x.request (r.same_body i))
    ∙ ap (λ b. b && head.pid == pid && is_as_long x.request body) (more (kind_number k) (kind_number (kind_of x.request)))
  where
    more : (a b : ℕ) → (128 + a == 128 + b) ≡ (a == b)
    more a b = go (a == b) refl
      where
        go : (t : Bool) → (a == b) ≡ t → (128 + a == 128 + b) ≡ t
        go true e = grind (arith, nat_tests)
        go false e = grind (arith, nat_tests)

never : (r : Reply) (q : Part) (x : Request) (st : Standing) → flight q x (answered r st) ≡ None
never r q x Unsent = refl
never r q x (InFlight orig first last) = refl
never r q x (Over e) = refl

module _ (no : ClientNo) (pid issued sendings : ℕ) (calls : Holding) (f : Flights) (last : ℕ) (sound : IsSound (state_of no pid issued sendings calls f last) calls.held f) (bytes : List ℕ) (head : Head) (k : Kind) (body : Reply) (r : ReadsAsReply bytes head k body) (ours : (head.client.0 == no.0) ≡ true) where
  under : option_map flown_of (flight_under head.orig (state_of no pid issued sendings calls f last)) ≡ find (λ (g : Flown). g.orig == head.orig) f.flown
  under = sym (find_flown (λ (g : Flown). g.orig == head.orig) (flights (state_of no pid issued sendings calls f last))) ∙ ap (find (λ (g : Flown). g.orig == head.orig)) sound.flight

  pub is_late : ◌≡◌ {A = Option Part} None (option_map (λ g. g.part) (find (λ (g : Flown). g.orig == head.orig) f.flown)) → IsHeard (state_of no pid issued sendings calls f last) (state_of no pid issued sendings calls f last) bytes (heard.Late head.orig)
  is_late e = go (flight_under head.orig (state_of no pid issued sendings calls f last)) refl (e ∙ ap (option_map (λ (g : Flown). g.part)) (sym under))
    where
      go : (o : Option Sending) → flight_under head.orig (state_of no pid issued sendings calls f last) ≡ o → ◌≡◌ {A = Option Part} None (option_map (λ (g : Flown). g.part) (option_map flown_of o)) → IsHeard (state_of no pid issued sendings calls f last) (state_of no pid issued sendings calls f last) bytes (heard.Late head.orig)
      go (Some x) k' z = none_some (flown_of x).part z
      go None k' z =
          is_heard_as (state_of no pid issued sendings calls f last) (state_of no pid issued sendings calls f last) bytes (heard.Late head.orig) (HearsLate head.orig)
          (in_flight (state_of no pid issued sendings calls f last) bytes head k body r ours ∙ ap (heard_in_flight pid bytes) k' ∙ ap (λ (h : Head). HearsLate h.orig) r.same_head) refl refl

  -- the part in flight under the id
  pub record IsUnder (part : Part) : Type 0 where
    pub x : Sending
    pub found : flight_under head.orig (state_of no pid issued sendings calls f last) ≡ Some x
    pub part_is : x.part ≡ part
    pub entry : find (λ (g : Flown). g.orig == head.orig) f.flown ≡ Some (flown_of x)
    pub request : request_at calls.held part ≡ Some x.request

  pub is_under : (part : Part) → Some part ≡ option_map (λ g. g.part) (find (λ (g : Flown). g.orig == head.orig) f.flown) → IsUnder part
  is_under part e = go (flight_under head.orig (state_of no pid issued sendings calls f last)) refl (e ∙ ap (option_map (λ (g : Flown). g.part)) (sym under))
    where
      go : (o : Option Sending) → flight_under head.orig (state_of no pid issued sendings calls f last) ≡ o → Some part ≡ option_map (λ (g : Flown). g.part) (option_map flown_of o) → IsUnder part
      go None k' z = none_some part (sym z)
      go (Some x) k' z =
          let part_is : x.part ≡ part = cc in
          let asks = each_found (λ (y : Sending). request_at calls.held y.part ≡ Some y.request) (λ (y : Sending). y.orig == head.orig) (flights (state_of no pid issued sendings calls f last)) x
          (flight_requests (state_of no pid issued sendings calls f last) f.flown calls.held refl (there no pid issued sendings calls f last sound)) k' in
          record {
            x = x;
            found = k';
            part_is = part_is;
            entry = sym under ∙ ap (option_map flown_of) k';
            request = ap (request_at calls.held) (sym part_is) ∙ asks.0;
          }

  pub is_unfit : (part : Part) (u : IsUnder part) (asked : Request) → request_at calls.held part ≡ Some asked → fits_so asked pid head k body ≡ false → IsHeard (state_of no pid issued sendings calls f last) (state_of no pid issued sendings calls f last) bytes (heard.Unfit head.orig)
  is_unfit part u asked e not_fit =
      let same : u.x.request ≡ asked = one u.x.request (sym u.request ∙ e) in
      is_heard_as (state_of no pid issued sendings calls f last) (state_of no pid issued sendings calls f last) bytes (heard.Unfit head.orig) (HearsUnfit head.orig)
      (in_flight (state_of no pid issued sendings calls f last) bytes head k body r ours ∙ ap (heard_in_flight pid bytes) u.found
      ∙ ap (λ b. cond b (HearsReply u.x (reply_in bytes)) (HearsUnfit (head_in bytes).orig)) (fit_is bytes head k body pid u.x r ∙ ap (λ q. fits_so q pid head k body) same ∙ not_fit)
      ∙ ap (λ (h : Head). HearsUnfit h.orig) r.same_head) refl refl
    where
      one : (q : Request) → ◌≡◌ {A = Option Request} (Some q) (Some asked) → q ≡ asked
      one q z = cc

  -- ---- a reply is taken
  pub fit_request : (part : Part) (u : IsUnder part) (asked : Request) → request_at calls.held part ≡ Some asked → fits_so asked pid head k body ≡ true → fits_so u.x.request pid head k body ≡ true
  fit_request part u asked e fit = ap (λ q. fits_so q pid head k body) (one u.x.request (sym u.request ∙ e)) ∙ fit
    where
      one : (q : Request) → ◌≡◌ {A = Option Request} (Some q) (Some asked) → q ≡ asked
      one q z = cc

  pub awaited_under : (part : Part) (u : IsUnder part) → IsAwaited part calls.held
  awaited_under part u = subst (λ q. IsAwaited q calls.held) u.part_is (entry_flies no pid issued sendings calls f last sound head.orig (flown_of u.x) u.entry).awaited

  pub takes_for : (part : Part) (u : IsUnder part) → is_reply_of k body ≡ true → fits_so u.x.request pid head k body ≡ true → (h : Held) → held_at part.call.0 calls.held ≡ Some h → TakesFor h.call part.part body
  takes_for part u good fit h at =
      let kinds : k ≡ kind_of u.x.request = same_kind k (kind_of u.x.request) (left_of (kind_number k == kind_number (kind_of u.x.request)) (head.pid == pid) (left_of (kind_number k == kind_number (kind_of u.x.request) && head.pid == pid) (is_as_long u.x.request body) fit)) in
      record {
        asked = u.x.request;
        there = sym (ap (option_and_then (λ (h : Held). slice_get (cut h.call) part.part)) at) ∙ u.request;
        fits = fits_kind u.x.request body (ap (λ z. is_reply_of z body) (sym kinds) ∙ good) (right_of (kind_number k == kind_number (kind_of u.x.request) && head.pid == pid) (is_as_long u.x.request body) fit);
      }

  pub taken_step : (part : Part) (u : IsUnder part) (calls' : Holding) (f' : Flights) → calls' ≡ after_coming part (Replied body) calls → f'.flown ≡ without head.orig f.flown → f'.last ≡ f.last →
      Step no pid issued sendings calls f last sound (after_part u.x.part (answered body) (state_of no pid issued sendings calls f last)) issued sendings calls' f'
  taken_step part u calls' f' calls_are flown_is last_is =
      came_step no pid issued sendings calls f last sound head.orig (flown_of u.x) (Replied body) (answered body) u.entry refl (never body) calls' f' (calls_are ∙ ap (λ q. after_coming q (Replied body) calls) (sym u.part_is)) flown_is last_is

  pub is_taken : (part : Part) (u : IsUnder part) (calls' : Holding) (f' : Flights) → calls' ≡ after_coming part (Replied body) calls → f'.flown ≡ without head.orig f.flown → f'.last ≡ f.last → fits_so u.x.request pid head k body ≡ true → (ends : Bool) → ends ≡ nat_lt (length calls.ended) (length calls'.ended) →
      IsHeard (state_of no pid issued sendings calls f last) (state_of no pid issued sendings calls' f' last) bytes (cond ends (heard.Ended part) (heard.Took part))
  is_taken part u calls' f' calls_are flown_is last_is fit ends ends_is =
      let step = taken_step part u calls' f' calls_are flown_is last_is in
      is_heard_as (state_of no pid issued sendings calls f last) (state_of no pid issued sendings calls' f' last) bytes (cond ends (heard.Ended part) (heard.Took part)) (HearsReply u.x body)
      (in_flight (state_of no pid issued sendings calls f last) bytes head k body r ours ∙ ap (heard_in_flight pid bytes) u.found
      ∙ ap (λ b. cond b (HearsReply u.x (reply_in bytes)) (HearsUnfit (head_in bytes).orig)) (fit_is bytes head k body pid u.x r ∙ fit)
      ∙ ap (HearsReply u.x) r.same_body)
      ((λ i. cond (ends_is i) (heard.Ended (sym u.part_is i)) (heard.Took (sym u.part_is i))) ∙ ap (λ (s : ClientState). cond (ends_a_call (state_of no pid issued sendings calls f last) s) (heard.Ended u.x.part) (heard.Took u.x.part)) step.state_is)
      step.state_is

pub other_no : (m n : ℕ) → (m ≡ n → ⊥) → (m == n) ≡ false
other_no m n ne = grind (arith, nat_tests)

-- the answer of the branch that was taken
pub heard_by : (old s new : ClientState) (bytes : List ℕ) (this other : Heard) (ends b : Bool) → s ≡ old → ends ≡ b → IsHeard s new bytes (cond ends this other) → IsHeard old new bytes (cond b this other)
heard_by old s new bytes this other ends b is e h = subst (λ z. IsHeard z new bytes (cond b this other)) is (subst (λ c. IsHeard s new bytes (cond c this other)) e h)
