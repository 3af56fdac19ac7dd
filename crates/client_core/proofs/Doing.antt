-- Each function of the poll does what its rule says.
use Rattle.std.proofs.Common.{◌≡◌, ℕ, zero, suc, ◌+◌, ◌<◌, ◌≤◌, List, [], ◌∷◌, ◌++◌, refl, ap, sym, ◌∙◌, subst, Some, None, Option, Bool, true, false, cond, arith, map, length, drop}
use Rattle.std.specs.Prelude.{find, is_some, nat_lt, option_map, slice_get, unwrap_or}
use Rattle.std.proofs.lemmas.Bool.Decides.{nat_tests}
use Rattle.std.proofs.lemmas.List.{length-map}
use Rattle.cl_types.specs.Bytes.{with_bytes}
use Rattle.cl_types.specs.declared.numbers.ClientNo.{ClientNo}
use Rattle.cl_types.specs.declared.numbers.CallNo.{CallNo}
use Rattle.cl_types.specs.declared.call.Call.TheVariants as call
use Rattle.cl_types.specs.declared.frame.Head.{Head}
use Rattle.cl_types.specs.declared.request.Request.{Request}
use Rattle.cl_types.specs.declared.reply.Part.{Part}
use Rattle.client_model.specs.Cut.{GivenUp, combine}
use Rattle.client_model.specs.Client.{ClientPart, ClientState, EndsFence, Finished, GivesUp, Idles, Polled, Sending, Sends, after_poll, after_polled, again, anew, at_moment, fence_first, first_some, flights, has_room_in_flight, poll as poll_of, sendable, to_give_up, to_send, to_send_again}
use Rattle.client_retry.specs.declared.flown.Flown.{Flown}
use Rattle.client_retry.specs.declared.due.Due.{Due}
use Rattle.client_retry.specs.declared.due.Due.TheVariants as due
use Rattle.client_retry.specs.Flights.{Flights, with_flown, without, sent_again}
use Rattle.client_retry.specs.Rules.{due_of}
use Rattle.client_core.specs.declared.answers.Poll.{Poll}
use Rattle.client_core.specs.declared.answers.Poll.TheVariants as poll
use Rattle.client_core.specs.Answers.{frame_bytes, poll_answer, poll_bytes}
use Rattle.client_core.specs.Held.{Held, Holding, after_coming, changed, fence_first_in, part_to_send, request_at, with_one_sent}
use Rattle.client_core.specs.Fields.{call_in, flown_of, state_of, IsSound}
use Rattle.client_core.specs.Polls.{Does, IsPolled, due_in}
use Rattle.client_core.proofs.Basics.{none_some}
use Rattle.client_core.proofs.Deciding.{fence_found, next_found}
use Rattle.client_core.proofs.Issuing.{first_ends}
use Rattle.client_core.proofs.Polling.{gave_up, gave_up_step, nothing_due, nothing_old, one_rule, sent_does, sent_first, sent_first_step, sent_once_more, sent_again_step}
use Rattle.client_core.proofs.Sounds.{Step, rising}

pub no_bytes : (out : List ℕ) → out ≡ with_bytes 0 [] out
no_bytes [] = refl
no_bytes (b ∷ out) = refl

some_map : {X Y : Type 0} (f : X → Y) (o : Option X) → is_some (option_map f o) ≡ is_some o
some_map f None = refl
some_map f (Some x) = refl

module _ (no : ClientNo) (pid issued sendings : ℕ) (calls : Holding) (f : Flights) (last : ℕ) (sound : IsSound (state_of no pid issued sendings calls f last) calls.held f) (old : ClientState) (is : state_of no pid issued sendings calls f last ≡ old) where
  pub gave_up_does : (part : Part) (orig first : ℕ) → due_in old ≡ due.GiveUp part orig first → (calls' : Holding) (f' : Flights) → calls' ≡ after_coming part (GivenUp first last) calls → f'.flown ≡ without orig f.flown → f'.last ≡ f.last →
      (p : Polled) (out : List ℕ) → to_give_up old old.last ≡ Some p → Does p old (state_of no pid issued sendings calls' f' last) (poll.GaveUp part) out out
  gave_up_does part orig first h calls' f' calls_are flown_is last_is =
      let u = gave_up no pid issued sendings calls f last sound part orig first (subst (λ s. due_in s ≡ due.GiveUp part orig first) (sym is) h) in
      let step = gave_up_step no pid issued sendings calls f last sound part orig first u calls' f' calls_are flown_is last_is in
      subst (λ s. (p : Polled) (out : List ℕ) → to_give_up s s.last ≡ Some p → Does p s (state_of no pid issued sendings calls' f' last) (poll.GaveUp part) out out) is
      (λ p out e. one_rule (to_give_up (state_of no pid issued sendings calls f last) last) (GivesUp u.x) (state_of no pid issued sendings calls f last) (state_of no pid issued sendings calls' f' last) (poll.GaveUp part) out out u.rule
      (record { answered = ap poll.GaveUp (sym u.part_is); bytes = no_bytes out; state = step.state_is }) p e)

  pub fence_there : is_some (fence_first old.calls) ≡ true → is_some (fence_first_in calls.held) ≡ true
  fence_there h =
      sym (some_map (λ (n : CallNo). EndsFence n.0) (fence_first_in calls.held)) ∙ ap is_some (sym (fence_found f.flown calls.held)) ∙ subst (λ s. is_some (fence_first s.calls) ≡ true) (sym is) h

  pub fence_does : (n : CallNo) → fence_first_in calls.held ≡ Some n → (calls' : Holding) → calls'.held ≡ drop 1 calls.held → calls'.ended ≡ calls.ended ++ record { number = n.0; answer = combine call.Fence []; call = call.Fence } ∷ [] →
      (p : Polled) (out : List ℕ) → fence_first old.calls ≡ Some p → Does p old (state_of no pid issued sendings calls' f last) (poll.Ended n) out out
  fence_does n first calls' held_is ended_is =
      let step = first_ends no pid issued sendings f last n calls' calls.ended ended_is calls.held sound first held_is in
      subst (λ s. (p : Polled) (out : List ℕ) → fence_first s.calls ≡ Some p → Does p s (state_of no pid issued sendings calls' f last) (poll.Ended n) out out) is
      (λ p out e. one_rule (fence_first (map (call_in f.flown) calls.held)) (EndsFence n.0) (state_of no pid issued sendings calls f last) (state_of no pid issued sendings calls' f last) (poll.Ended n) out out
      (fence_found f.flown calls.held ∙ ap (option_map (λ (n : CallNo). EndsFence n.0)) first)
      (record { answered = refl; bytes = no_bytes out; state = step.state_is }) p e)

  pub sent_again_does : (part : Part) (orig : ℕ) → due_in old ≡ due.Resend part orig → (f' : Flights) → f'.flown ≡ sent_again orig last f.flown → f'.last ≡ last → (len : ℕ) (out out' : List ℕ) →
      ((q : Request) → request_at calls.held part ≡ Some q → len ≡ length (frame_bytes (record { client = no; pid = pid; id = sendings + 1; orig = orig }) q)) →
      ((q : Request) → request_at calls.held part ≡ Some q → out' ≡ with_bytes 0 (frame_bytes (record { client = no; pid = pid; id = sendings + 1; orig = orig }) q) out) →
      (p : Polled) → to_send_again old old.last ≡ Some p → Does p old (state_of no pid issued (sendings + 1) calls f' last) (poll.Sent len part (sendings + 1) orig true) out out'
  sent_again_does part orig h f' flown_is last_is len out out' len_is out_is =
      let u = sent_once_more no pid issued sendings calls f last sound part orig (subst (λ s. due_in s ≡ due.Resend part orig) (sym is) h) in
      let step = sent_again_step no pid issued sendings calls f last sound part orig u f' flown_is last_is in
      subst (λ s. (p : Polled) → to_send_again s s.last ≡ Some p → Does p s (state_of no pid issued (sendings + 1) calls f' last) (poll.Sent len part (sendings + 1) orig true) out out') is
      (λ p e. one_rule (to_send_again (state_of no pid issued sendings calls f last) last) (Sends (again (sendings + 1) u.x ∷ [])) (state_of no pid issued sendings calls f last) (state_of no pid issued (sendings + 1) calls f' last) (poll.Sent len part (sendings + 1) orig true) out out' u.rule
      (sent_does (state_of no pid issued sendings calls f last) (state_of no pid issued (sendings + 1) calls f' last) (again (sendings + 1) u.x) part (sendings + 1) orig true u.part_is refl u.orig_is refl len out out'
      (len_is u.x.request u.request) (out_is u.x.request u.request) step.state_is) p e)

  pub sent_first_does : (part : Part) → option_map (λ (p : ClientPart). p.part) (slice_get (sendable old) 0) ≡ Some part → has_room_in_flight old ≡ true → (calls' : Holding) (f' : Flights) →
      calls'.held ≡ changed part.call.0 with_one_sent calls.held → calls'.ended ≡ calls.ended → f'.flown ≡ with_flown (record { part = part; orig = sendings + 1; first = last; last = last }) f.flown → f'.last ≡ last → (len : ℕ) (out out' : List ℕ) →
      ((q : Request) → request_at calls.held part ≡ Some q → len ≡ length (frame_bytes (record { client = no; pid = pid; id = sendings + 1; orig = sendings + 1 }) q)) →
      ((q : Request) → request_at calls.held part ≡ Some q → out' ≡ with_bytes 0 (frame_bytes (record { client = no; pid = pid; id = sendings + 1; orig = sendings + 1 }) q) out) →
      (p : Polled) → to_send old ≡ Some p → Does p old (state_of no pid issued (sendings + 1) calls' f' last) (poll.Sent len part (sendings + 1) (sendings + 1) false) out out'
  sent_first_does part h room calls' f' held_is ended_is flown_is last_is len out out' len_is out_is =
      let u = sent_first no pid issued sendings calls f last sound part (subst (λ s. option_map (λ (p : ClientPart). p.part) (slice_get (sendable s) 0) ≡ Some part) (sym is) h) in
      let step = sent_first_step no pid issued sendings calls f last sound part u calls' f' held_is ended_is flown_is last_is in
      subst (λ s. (p : Polled) → to_send s ≡ Some p → Does p s (state_of no pid issued (sendings + 1) calls' f' last) (poll.Sent len part (sendings + 1) (sendings + 1) false) out out') is
      (λ p e. one_rule (to_send (state_of no pid issued sendings calls f last)) (Sends (anew (sendings + 1) u.q ∷ [])) (state_of no pid issued sendings calls f last) (state_of no pid issued (sendings + 1) calls' f' last) (poll.Sent len part (sendings + 1) (sendings + 1) false) out out'
      (u.rule (subst (λ s. has_room_in_flight s ≡ true) (sym is) room))
      (sent_does (state_of no pid issued sendings calls f last) (state_of no pid issued (sendings + 1) calls' f' last) (anew (sendings + 1) u.q) part (sendings + 1) (sendings + 1) false u.part_is refl refl refl len out out'
      (len_is u.q.request u.request) (out_is u.q.request u.request) step.state_is) p e)

-- nothing is done
pub idles : (s : ClientState) (out : List ℕ) → Does Idles s s poll.Idle out out
idles s out = record { answered = refl; bytes = no_bytes out; state = refl }

-- ---- the first rule that applies
pub by_first : (s : ClientState) (t : ℕ) (p : Polled) → to_give_up s t ≡ Some p → poll_of s t ≡ p
by_first s t p e = go (to_give_up s t) e
  where
    go : (o : Option Polled) → o ≡ Some p → unwrap_or (first_some (o ∷ fence_first s.calls ∷ to_send_again s t ∷ to_send s ∷ [])) Idles ≡ p
    go None e = none_some p e
    go (Some q) e = cc

pub by_second : (s : ClientState) (t : ℕ) (p : Polled) → to_give_up s t ≡ None → fence_first s.calls ≡ Some p → poll_of s t ≡ p
by_second s t p a e = (λ i. unwrap_or (first_some (a i ∷ e i ∷ to_send_again s t ∷ to_send s ∷ [])) Idles)

pub by_third : (s : ClientState) (t : ℕ) (p : Polled) → to_give_up s t ≡ None → fence_first s.calls ≡ None → to_send_again s t ≡ Some p → poll_of s t ≡ p
by_third s t p a b e = (λ i. unwrap_or (first_some (a i ∷ b i ∷ e i ∷ to_send s ∷ [])) Idles)

pub by_fourth : (s : ClientState) (t : ℕ) → to_give_up s t ≡ None → fence_first s.calls ≡ None → to_send_again s t ≡ None → poll_of s t ≡ unwrap_or (to_send s) Idles
by_fourth s t a b c = (λ i. unwrap_or (first_some (a i ∷ b i ∷ c i ∷ to_send s ∷ [])) Idles) ∙ go (to_send s)
  where
    go : (o : Option Polled) → unwrap_or (first_some (o ∷ [])) Idles ≡ unwrap_or o Idles
    go None = refl
    go (Some p) = refl

-- ---- the whole poll, which begins with the new moment
same_answer : (t : ℕ) (s : ClientState) (p : Polled) → poll_answer (at_moment t s) p ≡ poll_answer s p
same_answer t s (GivesUp f) = refl
same_answer t s (EndsFence n) = refl
same_answer t s (Sends []) = refl
same_answer t s (Sends (o ∷ [])) = refl
same_answer t s (Sends (o ∷ o' ∷ os)) = refl
same_answer t s Idles = refl

same_bytes : (t : ℕ) (s : ClientState) (p : Polled) → poll_bytes (at_moment t s) p ≡ poll_bytes s p
same_bytes t s (GivesUp f) = refl
same_bytes t s (EndsFence n) = refl
same_bytes t s (Sends []) = refl
same_bytes t s (Sends (o ∷ [])) = refl
same_bytes t s (Sends (o ∷ o' ∷ os)) = refl
same_bytes t s Idles = refl

pub record PollDone (old new : ClientState) (t : ℕ) (answer : Poll) (out out' : List ℕ) : Type 0 where
  pub answer_is : answer ≡ poll_answer old (poll_of old t)
  pub bytes_are : out' ≡ with_bytes 0 (poll_bytes old (poll_of old t)) out
  pub state_is : new ≡ after_poll t (poll_of old t) old

pub poll_done : (old new : ClientState) (t : ℕ) (answer : Poll) (out out' : List ℕ) (p : Polled) → poll_of old t ≡ p → Does p (at_moment t old) new answer out out' → PollDone old new t answer out out'
poll_done old new t answer out out' p is does = record {
  answer_is = does.answered ∙ same_answer t old p ∙ ap (poll_answer old) (sym is);
  bytes_are = does.bytes ∙ ap (λ b. with_bytes 0 b out) (same_bytes t old p ∙ ap (poll_bytes old) (sym is));
  state_is = does.state ∙ ap (λ q. after_polled t q (at_moment t old)) (sym is);
}

pub sound_later : (no : ClientNo) (pid issued sendings : ℕ) (calls : Holding) (f : Flights) (last now : ℕ) → IsSound (state_of no pid issued sendings calls f last) calls.held f → last ≤ now → IsSound (state_of no pid issued sendings calls f now) calls.held f
sound_later c pid issued sendings calls f last now sound le = record {
  valid = record { rising = sound.valid.rising; calls = sound.valid.calls; few = sound.valid.few; counted = sound.valid.counted; apart = sound.valid.apart; ids = sound.valid.ids; sendings = sound.valid.sendings };
  fits = sound.fits;
  flight = sound.flight;
  moment = let m : f.last ≤ last = sound.moment in omega arith;
}

-- ---- the paths of a poll
turned_so : (s new : ClientState) (answer : Poll) (out out' : List ℕ) (p : Polled) → poll_of s s.last ≡ p → Does p s new answer out out' → IsPolled s new answer out out'
turned_so s new answer out out' p is does = record { does = subst (λ q. Does q s new answer out out') (sym is) does }

module _ (no : ClientNo) (pid issued sendings : ℕ) (calls : Holding) (f : Flights) (last : ℕ) (sound : IsSound (state_of no pid issued sendings calls f last) calls.held f) (old : ClientState) (is : state_of no pid issued sendings calls f last ≡ old) where
  pub due_there : (d : Due) → d ≡ due_of f.flown last → due_in old ≡ d
  due_there d e = subst (λ s. due_in s ≡ d) is (ap (λ fs. due_of fs last) sound.flight ∙ sym e)

  due_state : (d : Due) → d ≡ due_of f.flown last → due_in (state_of no pid issued sendings calls f last) ≡ d
  due_state d e = ap (λ fs. due_of fs last) sound.flight ∙ sym e

  pub turns_old : (part : Part) (orig first : ℕ) (d : Due) → d ≡ due_of f.flown last → d ≡ due.GiveUp part orig first → (new : ClientState) (answer : Poll) (out : List ℕ) →
      ((p : Polled) (out : List ℕ) → to_give_up old old.last ≡ Some p → Does p old new answer out out) → IsPolled old new answer out out
  turns_old part orig first d e give new answer out =
      let u = gave_up no pid issued sendings calls f last sound part orig first (due_state d e ∙ give) in
      subst (λ s. ((p : Polled) (out : List ℕ) → to_give_up s s.last ≡ Some p → Does p s new answer out out) → IsPolled s new answer out out) is
      (λ does. turned_so (state_of no pid issued sendings calls f last) new answer out out (GivesUp u.x) (by_first (state_of no pid issued sendings calls f last) last (GivesUp u.x) u.rule) (does (GivesUp u.x) out u.rule))

  none_old : (d : Due) → d ≡ due_of f.flown last → ((part : Part) (orig first : ℕ) → d ≡ due.GiveUp part orig first → ⊥) → to_give_up (state_of no pid issued sendings calls f last) last ≡ None
  none_old d e not = ap (option_map GivesUp) (nothing_old (flights (state_of no pid issued sendings calls f last)) last (λ part orig first g. not part orig first (sym (due_state d e) ∙ g)))

  pub turns_fence : (d : Due) → d ≡ due_of f.flown last → ((part : Part) (orig first : ℕ) → d ≡ due.GiveUp part orig first → ⊥) → (fence : Option CallNo) → fence ≡ fence_first_in calls.held → is_some fence ≡ true → (new : ClientState) (answer : Poll) (out : List ℕ) →
      ((p : Polled) (out : List ℕ) → fence_first old.calls ≡ Some p → Does p old new answer out out) → IsPolled old new answer out out
  turns_fence d e not None first fence new answer out = absurd cc
  turns_fence d e not (Some n) first fence new answer out =
      let rule : fence_first (map (call_in f.flown) calls.held) ≡ Some (EndsFence n.0) = fence_found f.flown calls.held ∙ ap (option_map (λ (n : CallNo). EndsFence n.0)) (sym first) in
      subst (λ s. ((p : Polled) (out : List ℕ) → fence_first s.calls ≡ Some p → Does p s new answer out out) → IsPolled s new answer out out) is
      (λ does. turned_so (state_of no pid issued sendings calls f last) new answer out out (EndsFence n.0) (by_second (state_of no pid issued sendings calls f last) last (EndsFence n.0) (none_old d e not) rule) (does (EndsFence n.0) out rule))

  pub fence_is : (fence : Option CallNo) → fence ≡ fence_first_in calls.held → is_some fence ≡ true → is_some (fence_first old.calls) ≡ true
  fence_is fence first some = subst (λ s. is_some (fence_first s.calls) ≡ true) is (ap is_some (fence_found f.flown calls.held) ∙ some_map (λ (n : CallNo). EndsFence n.0) (fence_first_in calls.held) ∙ ap is_some (sym first) ∙ some)

  none_first : (fence : Option CallNo) → fence ≡ fence_first_in calls.held → is_some fence ≡ false → fence_first (map (call_in f.flown) calls.held) ≡ None
  none_first None first h = fence_found f.flown calls.held ∙ ap (option_map (λ (n : CallNo). EndsFence n.0)) (sym first)
  none_first (Some n) first h = absurd cc

  pub turns_again : (part : Part) (orig : ℕ) (d : Due) → d ≡ due_of f.flown last → d ≡ due.Resend part orig → (fence : Option CallNo) → fence ≡ fence_first_in calls.held → is_some fence ≡ false → (new : ClientState) (answer : Poll) (out out' : List ℕ) →
      ((p : Polled) → to_send_again old old.last ≡ Some p → Does p old new answer out out') → IsPolled old new answer out out'
  turns_again part orig d e again_is fence first no_fence new answer out out' =
      let u = sent_once_more no pid issued sendings calls f last sound part orig (due_state d e ∙ again_is) in
      subst (λ s. ((p : Polled) → to_send_again s s.last ≡ Some p → Does p s new answer out out') → IsPolled s new answer out out') is
      (λ does. turned_so (state_of no pid issued sendings calls f last) new answer out out' (Sends (again (sendings + 1) u.x ∷ []))
      (by_third (state_of no pid issued sendings calls f last) last (Sends (again (sendings + 1) u.x ∷ [])) (none_old d e (λ part' orig' first' g. differ part' orig' first' (sym again_is ∙ g))) (none_first fence first no_fence) u.rule)
      (does (Sends (again (sendings + 1) u.x ∷ [])) u.rule))
    where
      differ : (part' : Part) (orig' first' : ℕ) → due.Resend part orig ≡ due.GiveUp part' orig' first' → ⊥
      differ part' orig' first' z = cc

  pub turns_next : (d : Due) → d ≡ due_of f.flown last → ((part : Part) (orig first : ℕ) → d ≡ due.GiveUp part orig first → ⊥) → ((part : Part) (orig : ℕ) → d ≡ due.Resend part orig → ⊥) → (fence : Option CallNo) → fence ≡ fence_first_in calls.held → is_some fence ≡ false →
      (new : ClientState) (answer : Poll) (out out' : List ℕ) → Does (unwrap_or (to_send old) Idles) old new answer out out' → IsPolled old new answer out out'
  turns_next d e not_old not_due fence first no_fence new answer out out' =
      subst (λ s. Does (unwrap_or (to_send s) Idles) s new answer out out' → IsPolled s new answer out out') is
      (λ does. turned_so (state_of no pid issued sendings calls f last) new answer out out' (unwrap_or (to_send (state_of no pid issued sendings calls f last)) Idles)
      (by_fourth (state_of no pid issued sendings calls f last) last (none_old d e not_old) (none_first fence first no_fence)
      (ap (option_map (λ (x : Sending). Sends (again (sendings + 1) x ∷ []))) (nothing_due (flights (state_of no pid issued sendings calls f last)) last (λ part orig first g. not_old part orig first (sym (due_state d e) ∙ g)) (λ part orig g. not_due part orig (sym (due_state d e) ∙ g)))))
      does)

-- the whole poll is the turn at the new moment
pub polled : (s old new : ClientState) (t : ℕ) (answer : Poll) (out out' : List ℕ) → at_moment t old ≡ s → IsPolled s new answer out out' → PollDone old new t answer out out'
polled s old new t answer out out' is turned =
    poll_done old new t answer out out' (poll_of old t) refl ((subst (λ z. IsPolled z new answer out out') (sym is) turned).does)

-- ---- the fourth rule
none_sent : (o : Option ClientPart) (sends : ClientPart → Polled) → option_map (λ (p : ClientPart). p.part) o ≡ None → option_map sends o ≡ None
none_sent None sends e = refl
none_sent (Some q) sends e = none_some q.part (sym e)

module _ (no : ClientNo) (pid issued sendings : ℕ) (calls : Holding) (f : Flights) (last : ℕ) (sound : IsSound (state_of no pid issued sendings calls f last) calls.held f) (old : ClientState) (is : state_of no pid issued sendings calls f last ≡ old) where
  next_is : option_map (λ (p : ClientPart). p.part) (slice_get (sendable (state_of no pid issued sendings calls f last)) 0) ≡ part_to_send calls.held
  next_is = next_found f.flown issued calls.held (rising no pid issued sendings calls f last sound) sound.fits

  pub next_there : (o : Option Part) (part : Part) → o ≡ part_to_send calls.held → o ≡ Some part → option_map (λ (p : ClientPart). p.part) (slice_get (sendable old) 0) ≡ Some part
  next_there o part e s = subst (λ z. option_map (λ (p : ClientPart). p.part) (slice_get (sendable z) 0) ≡ Some part) is (next_is ∙ sym e ∙ s)

  fly_as_many : length (flights (state_of no pid issued sendings calls f last)) ≡ length f.flown
  fly_as_many = sym (length-map (flights (state_of no pid issued sendings calls f last)) flown_of) ∙ ap (length {A = Flown}) sound.flight

  pub room_there : (n : ℕ) → n ≡ length f.flown → n < 64 → has_room_in_flight old ≡ true
  room_there n e less = subst (λ z. has_room_in_flight z ≡ true) is (ap (λ m. nat_lt m 64) (fly_as_many ∙ sym e) ∙ below n less)
    where
      below : (n : ℕ) → n < 64 → nat_lt n 64 ≡ true
      below n h = grind (arith, nat_tests)

  pub idles_full : (n : ℕ) → n ≡ length f.flown → 64 ≤ n → (out : List ℕ) → Does (unwrap_or (to_send old) Idles) old old poll.Idle out out
  idles_full n e le out =
      subst (λ p. Does p old old poll.Idle out out) (ap (λ o. unwrap_or o Idles) (sym full)) (idles old out)
    where
      above : (n : ℕ) → 64 ≤ n → nat_lt n 64 ≡ false
      above n h = grind (arith, nat_tests)

      full : to_send old ≡ None
      full = subst (λ z. to_send z ≡ None) is
          (ap (λ b. cond b (option_map (λ (p : ClientPart). Sends (anew (sendings + 1) p ∷ [])) (slice_get (sendable (state_of no pid issued sendings calls f last)) 0)) None) (ap (λ m. nat_lt m 64) (fly_as_many ∙ sym e) ∙ above n le))

  pub idles_none : (o : Option Part) → o ≡ part_to_send calls.held → o ≡ None → (out : List ℕ) → Does (unwrap_or (to_send old) Idles) old old poll.Idle out out
  idles_none o e none out =
      subst (λ p. Does p old old poll.Idle out out) (ap (λ o. unwrap_or o Idles) (sym nothing)) (idles old out)
    where
      either : (b : Bool) → cond b (option_map (λ (p : ClientPart). Sends (anew (sendings + 1) p ∷ [])) (slice_get (sendable (state_of no pid issued sendings calls f last)) 0)) None ≡ None
      either true = none_sent (slice_get (sendable (state_of no pid issued sendings calls f last)) 0) (λ (p : ClientPart). Sends (anew (sendings + 1) p ∷ [])) (next_is ∙ sym e ∙ none)
      either false = refl

      nothing : to_send old ≡ None
      nothing = subst (λ z. to_send z ≡ None) is (either (has_room_in_flight (state_of no pid issued sendings calls f last)))

  -- the calls are as they were
  pub same_sound : (calls' : Holding) → calls' ≡ calls → IsSound (state_of no pid issued sendings calls' f last) calls'.held f
  same_sound calls' same = subst (λ (c : Holding). IsSound (state_of no pid issued sendings c f last) c.held f) (sym same) sound

  pub idles_noted : (calls' : Holding) → calls' ≡ calls → (o : Option Part) → o ≡ part_to_send calls.held → o ≡ None → (out : List ℕ) → Does (unwrap_or (to_send old) Idles) old (state_of no pid issued sendings calls' f last) poll.Idle out out
  idles_noted calls' same o e none out =
      subst (λ s. Does (unwrap_or (to_send old) Idles) old s poll.Idle out out) (sym (ap (λ (c : Holding). state_of no pid issued sendings c f last) same ∙ is)) (idles_none o e none out)

  pub sends_next : (part : Part) → option_map (λ (p : ClientPart). p.part) (slice_get (sendable old) 0) ≡ Some part → has_room_in_flight old ≡ true → (new : ClientState) (answer : Poll) (out out' : List ℕ) →
      ((p : Polled) → to_send old ≡ Some p → Does p old new answer out out') → Does (unwrap_or (to_send old) Idles) old new answer out out'
  sends_next part next room new answer out out' does =
      let u = sent_first no pid issued sendings calls f last sound part (subst (λ s. option_map (λ (p : ClientPart). p.part) (slice_get (sendable s) 0) ≡ Some part) (sym is) next) in
      let rule : to_send old ≡ Some (Sends (anew (sendings + 1) u.q ∷ [])) = subst (λ s. to_send s ≡ Some (Sends (anew (sendings + 1) u.q ∷ []))) is (u.rule (subst (λ s. has_room_in_flight s ≡ true) (sym is) room)) in
      subst (λ p. Does p old new answer out out') (ap (λ o. unwrap_or o Idles) (sym rule)) (does (Sends (anew (sendings + 1) u.q ∷ [])) rule)
