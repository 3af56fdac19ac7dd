-- What a client answers, and what it did.
use Rattle.std.proofs.Common.{◌≡◌, ℕ, ◌+◌, ◌<◌, ◌≤◌, List, [], ◌∷◌, ◌++◌, Bool, true, false, Option, Some, None, refl, sym, ap, ◌∙◌, subst, length, take, drop, arith, length-append, append-nil}
use Rattle.std.specs.Prelude.{if◌then◌else◌}
use Rattle.std.proofs.lemmas.List.{take-append-le, take_all}
use Rattle.cl_types.specs.Bytes.{with_bytes}
use Rattle.cl_types.specs.declared.numbers.CallNo.{CallNo}
use Rattle.cl_types.specs.declared.reply.Part.{Part}
use Rattle.cl_types.specs.declared.schedule.CallText.{CallText}
use Rattle.cl_outside.specs.declared.wire.Peer.{Peer}
use Rattle.client_core.specs.Answers.{frame_bytes, heard_answer, heard_as, poll_answer, poll_bytes, ends_a_call}
use Rattle.client_core.specs.declared.answers.Heard.{Heard}
use Rattle.client_core.specs.declared.answers.Heard.TheVariants as heard
use Rattle.client_core.specs.declared.answers.Poll.TheVariants as poll
use Rattle.client_model.specs.Client.{ClientState, ClientCall, Outgoing, Polled, GivesUp, EndsFence, Sends, Idles, Sending, ClientPart, after_poll, after_reply, again, at_moment, flight_under, anew, fence_first, first_some, has_room_in_flight, head_of, next_id, sendable, to_give_up, to_send, to_send_again}
use Rattle.client_model.specs.Client as client
use Rattle.wire_loop.specs.Serves.{Incoming}
use Rattle.wire_loop.specs.Driving.{Driving, Printed, is_fruitful, polls, frame_of}
use Rattle.client_model.specs.Hearing.{Hearing, HearsBad, HearsOther, HearsLate, HearsUnfit, HearsReply, after_hearing, hearing, heard_in_flight, heard_judged, is_fit, is_reply}
use Rattle.wire_loop.specs.Outside.{ClockAnswers, Received}
use Rattle.wire_loop.specs.Drives.{HasReceiving}
use Rattle.cl_outside.specs.Told.{Added}
use Rattle.cl_outside.specs.Wire.{Message}
use Rattle.wire_loop.specs.Driving.{takes_reply, receives_one}
use Rattle.std.specs.Prelude.{nat_lt, ◌||◌}
use Rattle.wire_loop.specs.Drives.{message_to}
use Rattle.wire_loop.specs.Driven.{HearsSteps, IsFruit, PollsOnce, ReceivesOnce, TakesSteps, driving, fails}
use Rattle.wire_loop.specs.declared.driving.Fruit.{Fruit}
use Rattle.wire_loop.specs.declared.driving.Fruit.TheVariants as fruit
use Rattle.std.proofs.lemmas.Bool.Decides.{nat_tests}
use Rattle.cl_types.specs.declared.frame.BadFrame.{BadFrame}
use Rattle.cl_types.specs.declared.reply.Reply.{Reply}
use Rattle.cl_types.specs.Parts.{same_client}
use Rattle.client_core.specs.Valid.{IsValid}
use Rattle.frame_model.specs.Frames.{head_in, reply_fault, reply_in}
use Rattle.wire_loop.specs.Steps.{steps_left}
use Rattle.wire_loop.proofs.StepLemmas.{IsBusy, IsOf, busy_steps, replied_steps, ticked, ticked_on}
use Rattle.wire_loop.proofs.RanLemmas.{added_same}

pub as_heard : (s : ClientState) (bytes : List ℕ) → heard_as s bytes ≡ hearing s bytes
unfolding heard_as
as_heard s bytes = refl

-- ---- what was heard
-- a reply was taken
abbrev pub takes : Heard → Bool
takes (heard.Took part) = true
takes (heard.Ended part) = true
takes other = false

by_end : (b : Bool) (p : Part) → true ≡ takes (if b then heard.Ended p else heard.Took p)
by_end true p = refl
by_end false p = refl

pub reply_if_taken : (s : ClientState) (h : Hearing) → is_reply h ≡ takes (heard_answer s h)
reply_if_taken s (HearsBad fault) = refl
reply_if_taken s (HearsOther other) = refl
reply_if_taken s (HearsLate orig) = refl
reply_if_taken s (HearsUnfit orig) = refl
reply_if_taken s (HearsReply f reply) = by_end (ends_a_call s (after_reply f.part reply s)) f.part

pub tells_taken : (s : ClientState) (h : Hearing) (answer : Heard) → answer ≡ heard_answer s h → takes answer ≡ is_reply h
tells_taken s h answer is = ap takes is ∙ sym (reply_if_taken s h)

-- ---- a frame was sent
pub record SentSo (s : ClientState) (p : Polled) (len : ℕ) (out : List ℕ) : Type 0 where
  pub item : Outgoing
  pub is : p ≡ Sends (item ∷ [])
  pub bytes : take len out ≡ frame_of s item
  pub short : len ≤ 1200

module _ (s : ClientState) where
  abbrev encoded : Outgoing → List ℕ
  encoded o = frame_bytes (head_of s.client s.pid o) o.request

  within : (bytes old new : List ℕ) → new ≡ with_bytes 0 bytes old → length old ≡ 1200 → length new ≡ 1200 → length bytes ≤ 1200
  within bytes old new is before after =
      let whole : length new ≡ length bytes + length (drop (0 + length bytes) old) = ap length is ∙ length-append bytes (drop (0 + length bytes) old) in
      omega (arith, whole, after)

  front : (bytes old new : List ℕ) (len : ℕ) → new ≡ with_bytes 0 bytes old → len ≡ length bytes → take len new ≡ bytes
  front bytes old new len is count =
      let enough : length bytes ≤ length bytes = omega arith in
      (λ i. take (count i) (is i)) ∙ take-append-le (length bytes) bytes (drop (0 + length bytes) old) enough ∙ take_all (length bytes) bytes enough

  same_bytes : (o : Outgoing) → encoded o ≡ frame_of s o
  unfolding frame_bytes
  same_bytes o = refl

  pub sent_so : (p : Polled) (len : ℕ) (part : Part) (id orig : ℕ) (again : Bool) (old new : List ℕ)
      → poll.Sent len part id orig again ≡ poll_answer s p → new ≡ with_bytes 0 (poll_bytes s p) old
      → length old ≡ 1200 → length new ≡ 1200 → SentSo s p len new
  sent_so (GivesUp f) len part id orig again old new answer bytes before after = absurd cc
  sent_so (EndsFence n) len part id orig again old new answer bytes before after = absurd cc
  sent_so (Sends []) len part id orig again old new answer bytes before after = absurd cc
  sent_so (Sends (o ∷ [])) len part id orig again old new answer bytes before after =
      let count : len ≡ length (encoded o) = cc in
      record {
        item = o;
        is = refl;
        bytes = front (encoded o) old new len bytes count ∙ same_bytes o;
        short = subst (λ n. n ≤ 1200) (sym count) (within (encoded o) old new bytes before after);
      }
  sent_so (Sends (o ∷ u ∷ items)) len part id orig again old new answer bytes before after = absurd cc
  sent_so Idles len part id orig again old new answer bytes before after = absurd cc

-- ---- what the client answered
pub idle_is : (s : ClientState) (p : Polled) → IsOf s p → poll.Idle ≡ poll_answer s p → p ≡ Idles
idle_is s (GivesUp f) single answer = absurd cc
idle_is s (EndsFence n) single answer = absurd cc
idle_is s (Sends []) single answer = absurd single
idle_is s (Sends (o ∷ [])) single answer = absurd cc
idle_is s (Sends (o ∷ u ∷ items)) single answer = absurd single
idle_is s Idles single answer = refl

-- nothing was sent, and nothing is received
abbrev pub IsQuiet : Polled → Type 0
IsQuiet (GivesUp f) = Unit {0}
IsQuiet (EndsFence n) = Unit {0}
IsQuiet other = ⊥

pub gave_up_is : (s : ClientState) (p : Polled) (part : Part) → poll.GaveUp part ≡ poll_answer s p → IsQuiet p
gave_up_is s (GivesUp f) part answer = tt
gave_up_is s (EndsFence n) part answer = tt
gave_up_is s (Sends []) part answer = absurd cc
gave_up_is s (Sends (o ∷ [])) part answer = absurd cc
gave_up_is s (Sends (o ∷ u ∷ items)) part answer = absurd cc
gave_up_is s Idles part answer = absurd cc

pub ended_is : (s : ClientState) (p : Polled) (number : CallNo) → poll.Ended number ≡ poll_answer s p → IsQuiet p
ended_is s (GivesUp f) number answer = tt
ended_is s (EndsFence n) number answer = tt
ended_is s (Sends []) number answer = absurd cc
ended_is s (Sends (o ∷ [])) number answer = absurd cc
ended_is s (Sends (o ∷ u ∷ items)) number answer = absurd cc
ended_is s Idles number answer = absurd cc

module _ (s : ClientState) (t : ℕ) (script : List (ℕ × CallText)) (lines : List ℕ) (clock : ClockAnswers) (rest : List (Received Peer)) (more : List Bool) (others : List (List ℕ)) (printed : List Printed) (fruitless : ℕ) where
  pub polls_sent : (p : Polled) (o : Outgoing) (b : List ℕ) → p ≡ Sends (o ∷ []) → b ≡ frame_of s o
      → polls t p (driving s script lines clock rest (true ∷ more) others printed fruitless false)
      ≡ driving (after_poll t p s) script lines clock rest more (others ++ b ∷ []) printed fruitless false
  polls_sent p o b is bytes =
      ap (λ (q : Polled). polls t q (driving s script lines clock rest (true ∷ more) others printed fruitless false)) is
      ∙ (λ j. driving (after_poll t (sym is j) s) script lines clock rest more (others ++ sym bytes j ∷ []) printed fruitless false)

  pub polls_failed : (p : Polled) (o : Outgoing) → p ≡ Sends (o ∷ [])
      → polls t p (driving s script lines clock rest (false ∷ more) others printed fruitless false)
      ≡ driving (after_poll t p s) script lines clock rest more (others ++ []) printed fruitless true
  polls_failed p o is =
      ap (λ (q : Polled). polls t q (driving s script lines clock rest (false ∷ more) others printed fruitless false)) is
      ∙ (λ j. driving (after_poll t (sym is j) s) script lines clock rest more (sym (append-nil others) j) printed fruitless true)

  pub polls_quiet : (p : Polled) → IsQuiet p
      → polls t p (driving s script lines clock rest more others printed fruitless false)
      ≡ driving (after_poll t p s) script lines clock rest more (others ++ []) printed fruitless false
  polls_quiet (GivesUp f) quiet = λ j. driving (after_poll t (GivesUp f) s) script lines clock rest more (sym (append-nil others) j) printed fruitless false
  polls_quiet (EndsFence n) quiet = λ j. driving (after_poll t (EndsFence n) s) script lines clock rest more (sym (append-nil others) j) printed fruitless false
  polls_quiet (Sends items) quiet = absurd quiet
  polls_quiet Idles quiet = absurd quiet

-- a poll that isn't idle is fruitful, and nothing is received
pub quiet_busy : (p : Polled) → IsQuiet p → IsBusy p
quiet_busy (GivesUp f) quiet = tt
quiet_busy (EndsFence n) quiet = tt
quiet_busy (Sends items) quiet = absurd quiet
quiet_busy Idles quiet = absurd quiet

pub busy_fruitful : (p : Polled) (t : ℕ) (d : Driving Peer) → IsBusy p → is_fruitful t p d ≡ true
busy_fruitful (GivesUp f) t d busy = refl
busy_fruitful (EndsFence n) t d busy = refl
busy_fruitful (Sends items) t d busy = refl
busy_fruitful Idles t d busy = absurd busy

pub busy_receives : (p : Polled) (rs : List (Received Peer)) → IsBusy p → HasReceiving p rs
busy_receives (GivesUp f) rs busy = tt
busy_receives (EndsFence n) rs busy = tt
busy_receives (Sends items) rs busy = tt
busy_receives Idles rs busy = absurd busy

-- ---- the whole poll, by what the client answered
module _ (node : Peer) (s new : ClientState) (t : ℕ) (coming coming' : Incoming) (sent sent' : Option (List Message)) where
  pub polled_sent : (len : ℕ) (out : List ℕ) → SentSo s (client.poll s t) len out → new ≡ after_poll t (client.poll s t) s → coming' ≡ coming
      → Added (message_to node (take len out) ∷ []) sent sent' → PollsOnce node s new t coming coming' sent sent' fruit.Fruitful
  polled_sent len out so state same added = record {
    receives = [];
    sendings = true ∷ [];
    frames = take len out ∷ [];
    is_fruit = true;
    gave = same;
    messages = added;
    fruit = refl;
    holds = λ script lines clock rest more others printed fruitless.
        polls_sent s t script lines clock rest more others printed fruitless (client.poll s t) so.item (take len out) so.is so.bytes
        ∙ (λ j. driving (sym state j) script lines clock rest more (others ++ take len out ∷ []) printed fruitless false);
    fruitful = λ script lines clock rest more others printed fruitless.
        busy_fruitful (client.poll s t) t (driving s script lines clock rest (true ∷ more) others printed fruitless false) (subst IsBusy (sym so.is) tt);
    received = λ rest. busy_receives (client.poll s t) rest (subst IsBusy (sym so.is) tt);
  }

  pub polled_failed : (len : ℕ) (out : List ℕ) → SentSo s (client.poll s t) len out → new ≡ after_poll t (client.poll s t) s → coming' ≡ coming
      → sent' ≡ sent → PollsOnce node s new t coming coming' sent sent' fruit.Failed
  polled_failed len out so state same unsent = record {
    receives = [];
    sendings = false ∷ [];
    frames = [];
    is_fruit = true;
    gave = same;
    messages = added_same sent sent' unsent;
    fruit = tt;
    holds = λ script lines clock rest more others printed fruitless.
        polls_failed s t script lines clock rest more others printed fruitless (client.poll s t) so.item so.is
        ∙ (λ j. driving (sym state j) script lines clock rest more (others ++ []) printed fruitless true);
    fruitful = λ script lines clock rest more others printed fruitless.
        busy_fruitful (client.poll s t) t (driving s script lines clock rest (false ∷ more) others printed fruitless false) (subst IsBusy (sym so.is) tt);
    received = λ rest. busy_receives (client.poll s t) rest (subst IsBusy (sym so.is) tt);
  }

  pub polled_quiet : IsQuiet (client.poll s t) → new ≡ after_poll t (client.poll s t) s → coming' ≡ coming
      → sent' ≡ sent → PollsOnce node s new t coming coming' sent sent' fruit.Fruitful
  polled_quiet quiet state same unsent = record {
    receives = [];
    sendings = [];
    frames = [];
    is_fruit = true;
    gave = same;
    messages = added_same sent sent' unsent;
    fruit = refl;
    holds = λ script lines clock rest more others printed fruitless.
        polls_quiet s t script lines clock rest more others printed fruitless (client.poll s t) quiet
        ∙ (λ j. driving (sym state j) script lines clock rest more (others ++ []) printed fruitless false);
    fruitful = λ script lines clock rest more others printed fruitless.
        busy_fruitful (client.poll s t) t (driving s script lines clock rest more others printed fruitless false) (quiet_busy (client.poll s t) quiet);
    received = λ rest. busy_receives (client.poll s t) rest (quiet_busy (client.poll s t) quiet);
  }

  pub polled_idle : (mid : ClientState) (grew : Bool) (how : Fruit) → client.poll s t ≡ Idles → grew ≡ nat_lt s.last t → mid ≡ after_poll t (client.poll s t) s
      → sent' ≡ sent → ReceivesOnce mid new grew coming coming' how → PollsOnce node s new t coming coming' sent sent' how
  polled_idle mid grew how is grows state unsent r =
      let at : after_poll t Idles s ≡ mid = sym (state ∙ ap (λ (q : Polled). after_poll t q s) is) in record {
        receives = r.receive ∷ [];
        sendings = [];
        frames = [];
        is_fruit = r.is_fruit;
        gave = (coming', r.gave, refl);
        messages = added_same sent sent' unsent;
        fruit = r.fruit;
        holds = λ script lines clock rest more others printed fruitless.
            ap (λ (q : Polled). polls t q (driving s script lines clock (r.receive ∷ rest) more others printed fruitless false)) is
            ∙ (λ j. receives_one (r.receive ∷ rest) (driving (at j) script lines clock (r.receive ∷ rest) more others printed fruitless false))
            ∙ r.holds script lines clock rest more others printed fruitless
            ∙ (λ j. driving new script lines clock rest more (sym (append-nil others) j) printed fruitless (fails how));
        fruitful = λ script lines clock rest more others printed fruitless.
            ap (λ (q : Polled). is_fruitful t q (driving s script lines clock (r.receive ∷ rest) more others printed fruitless false)) is
            ∙ (λ j. sym grows j || takes_reply (at j) (r.receive ∷ rest))
            ∙ r.fruitful rest;
        received = λ rest. subst (λ (q : Polled). HasReceiving q (r.receive ∷ rest)) (sym is) tt;
      }

-- ---- no call is issued by it
pub polled_issued : (t : ℕ) (p : Polled) (s new : ClientState) → new ≡ after_poll t p s → new.issued ≡ s.issued
polled_issued t (GivesUp f) s new is = ap (λ (x : ClientState). x.issued) is
polled_issued t (EndsFence n) s new is = ap (λ (x : ClientState). x.issued) is
polled_issued t (Sends items) s new is = ap (λ (x : ClientState). x.issued) is
polled_issued t Idles s new is = ap (λ (x : ClientState). x.issued) is

pub heard_issued : (h : Hearing) (s new : ClientState) → new ≡ after_hearing h s → new.issued ≡ s.issued
heard_issued (HearsBad fault) s new is = ap (λ (x : ClientState). x.issued) is
heard_issued (HearsOther other) s new is = ap (λ (x : ClientState). x.issued) is
heard_issued (HearsLate orig) s new is = ap (λ (x : ClientState). x.issued) is
heard_issued (HearsUnfit orig) s new is = ap (λ (x : ClientState). x.issued) is
heard_issued (HearsReply f reply) s new is = ap (λ (x : ClientState). x.issued) is

-- ---- the steps that are left
takes_fewer : (how : Fruit) (before after : ℕ) → after < before → TakesSteps how before after
takes_fewer fruit.Fruitful before after fewer = fewer
takes_fewer fruit.Fruitless before after fewer = omega (arith, fewer)
takes_fewer fruit.Failed before after fewer = omega (arith, fewer)

pub takes_from : (how : Fruit) (before between after : ℕ) → between ≤ before → TakesSteps how between after → TakesSteps how before after
takes_from fruit.Fruitful before between after first second = omega (arith, first, second)
takes_from fruit.Fruitless before between after first second = omega (arith, first, second)
takes_from fruit.Failed before between after first second = omega (arith, first, second)

-- nothing was taken
pub same_steps : (grew : Bool) (how : Fruit) (n : ℕ) → IsFruit how (grew || false) → HearsSteps grew how n n
same_steps true how n is = omega arith
same_steps false fruit.Fruitful n is = absurd cc
same_steps false fruit.Fruitless n is = omega arith
same_steps false fruit.Failed n is = omega arith

pub failed_steps : (grew : Bool) (n : ℕ) → HearsSteps grew fruit.Failed n n
failed_steps true n = omega arith
failed_steps false n = omega arith

hears_fewer : (grew : Bool) (how : Fruit) (before after : ℕ) → after < before → HearsSteps grew how before after
hears_fewer true how before after fewer = omega (arith, fewer)
hears_fewer false how before after fewer = takes_fewer how before after fewer

-- a reply that is taken is to a part in flight
replied_flight : (s : ClientState) (bytes : List ℕ) (g : Sending) (reply : Reply) → hearing s bytes ≡ HearsReply g reply → flight_under (head_in bytes).orig s ≡ Some g
replied_flight s bytes g reply is = judged (reply_fault bytes) is where
  fits : (b : Bool) (x : Sending) → flight_under (head_in bytes).orig s ≡ Some x
      → (if b then HearsReply x (reply_in bytes) else HearsUnfit (head_in bytes).orig) ≡ HearsReply g reply → flight_under (head_in bytes).orig s ≡ Some g
  fits true x at is = let same : x ≡ g = cc in at ∙ ap Some same
  fits false x at is = absurd cc

  flies : (o : Option Sending) → flight_under (head_in bytes).orig s ≡ o → heard_in_flight s.pid bytes o ≡ HearsReply g reply → flight_under (head_in bytes).orig s ≡ Some g
  flies None at is = absurd cc
  flies (Some x) at is = fits (is_fit s.pid bytes x) x at is

  ours : (b : Bool) → (if b then heard_in_flight s.pid bytes (flight_under (head_in bytes).orig s) else HearsOther (head_in bytes).client) ≡ HearsReply g reply
      → flight_under (head_in bytes).orig s ≡ Some g
  ours true is = flies (flight_under (head_in bytes).orig s) refl is
  ours false is = absurd cc

  judged : (o : Option BadFrame) → heard_judged s bytes o ≡ HearsReply g reply → flight_under (head_in bytes).orig s ≡ Some g
  judged (Some fault) is = absurd cc
  judged None is = ours (same_client (head_in bytes).client s.client) is

module _ (s new : ClientState) (calls : ℕ) (grew taken : Bool) (how : Fruit) where
  unheard_steps : new ≡ s → taken ≡ false → IsFruit how (grew || taken) → HearsSteps grew how (steps_left s calls) (steps_left new calls)
  unheard_steps same none is =
      subst (λ (x : ClientState). HearsSteps grew how (steps_left s calls) (steps_left x calls)) (sym same)
      (same_steps grew how (steps_left s calls) (subst (λ b. IsFruit how (grew || b)) none is))

  pub heard_steps : (bytes : List ℕ) → new ≡ after_hearing (heard_as s bytes) s → taken ≡ is_reply (heard_as s bytes) → IsFruit how (grew || taken)
      → HearsSteps grew how (steps_left s calls) (steps_left new calls)
  heard_steps bytes state takes is =
      go (hearing s bytes) refl (state ∙ ap (λ h. after_hearing h s) (as_heard s bytes)) (takes ∙ ap is_reply (as_heard s bytes))
    where
      go : (h : Hearing) → hearing s bytes ≡ h → new ≡ after_hearing h s → taken ≡ is_reply h → HearsSteps grew how (steps_left s calls) (steps_left new calls)
      go (HearsBad fault) at state takes = unheard_steps state takes is
      go (HearsOther other) at state takes = unheard_steps state takes is
      go (HearsLate orig) at state takes = unheard_steps state takes is
      go (HearsUnfit orig) at state takes = unheard_steps state takes is
      go (HearsReply g reply) at state takes =
          subst (λ (x : ClientState). HearsSteps grew how (steps_left s calls) (steps_left x calls)) (sym state)
          (hears_fewer grew how _ _ (replied_steps s calls (head_in bytes).orig g reply (replied_flight s bytes g reply at)))

pub busy_takes : (how : Fruit) (s new : ClientState) (t calls : ℕ) → IsBusy (client.poll s t) → new ≡ after_poll t (client.poll s t) s → s.last ≤ t → IsValid new
    → TakesSteps how (steps_left s calls) (steps_left new calls)
busy_takes how s new t calls busy is later valid = takes_fewer how _ _ (busy_steps s new t calls busy is later valid)

pub idle_takes : (how : Fruit) (s mid new : ClientState) (t calls : ℕ) (grew : Bool) → client.poll s t ≡ Idles → mid ≡ after_poll t (client.poll s t) s
    → grew ≡ nat_lt s.last t → s.last ≤ t → t ≤ 18446744073709551615 → HearsSteps grew how (steps_left mid calls) (steps_left new calls)
    → TakesSteps how (steps_left s calls) (steps_left new calls)
idle_takes how s mid new t calls grew is state grows later few heard =
    go grew grows (subst (λ (x : ClientState). HearsSteps grew how (steps_left x calls) (steps_left new calls)) at heard)
  where
    below : (a b c : ℕ) → b < a → c ≤ b → c < a
    below a b c first second = omega (arith, first, second)

    at : mid ≡ at_moment t s
    at = state ∙ ap (λ (q : Polled). after_poll t q s) is

    go : (b : Bool) → b ≡ nat_lt s.last t → HearsSteps b how (steps_left (at_moment t s) calls) (steps_left new calls) → TakesSteps how (steps_left s calls) (steps_left new calls)
    go true grows heard =
        let more : s.last < t = grind (arith, nat_tests) in
        let fewer = ticked_on s t calls more few in
        takes_fewer how _ _ (below (steps_left s calls) (steps_left (at_moment t s) calls) (steps_left new calls) fewer heard)
    go false grows heard = takes_from how (steps_left s calls) (steps_left (at_moment t s) calls) (steps_left new calls) (ticked s t calls later) heard

-- handing out leaves the steps
pub handed_steps : (how : Fruit) (before after handed : ℕ) → TakesSteps how before after → handed ≡ after → TakesSteps how before handed
handed_steps how before after handed takes same = subst (λ n. TakesSteps how before n) (sym same) takes
