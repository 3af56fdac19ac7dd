-- The steps that a client has still before it: what each call of a client leaves of them.
use Rattle.std.proofs.Common.{◌≡◌, ℕ, ◌+◌, ◌-◌, ◌*◌, ◌^◌, ◌<◌, ◌≤◌, List, [], ◌∷◌, ◌++◌, Bool, true, false, Option, Some, None, refl, sym, ap, ◌∙◌, subst, length, map, arith, cond, ◌⊎◌, ⊎_elim, inl, inr}
use Rattle.std.specs.Prelude.{◌==◌, ◌&&◌, not, find, filter, filter_map, is_none, option_map, slice_get, sum_by, unwrap_or, IfSome, if◌then◌else◌}
use Rattle.std.specs.List.{cons_option, enumerate_from}
use Rattle.std.proofs.lemmas.Bool.Decides.{nat_tests}
use Rattle.std.proofs.lemmas.List.{length-map}
use Rattle.std.proofs.lemmas.List.FromFn.{length-enumerate_from}
use Rattle.std.proofs.lemmas.List.Sums.{sum_by-append, sum_by-cons}
use Rattle.cl_types.specs.declared.call.Call.{Call}
use Rattle.cl_types.specs.declared.frame.IssueFault.{IssueFault}
use Rattle.cl_types.specs.declared.request.Request.{Request}
use Rattle.cl_types.specs.declared.reply.Part.{Part}
use Rattle.cl_types.specs.declared.reply.Reply.{Reply}
use Rattle.cl_types.specs.Parts.{same_part}
use Rattle.client_model.specs.Client.{ClientState, ClientCall, ClientPart, Finished, Outgoing, Polled, GivesUp, EndsFence, Sends, Idles, Sending, Standing, Unsent, InFlight, Over, after_issue, after_part, after_poll, after_reply, again, anew, answered, at_moment, call_changed, call_standing, fence_first, finished, first_some, flight, flight_under, flights, given_up, gone_out, has_room_in_flight, is_fence_of, named, next_id, part_changed, parts_named, parts_of, sendable, sent_calls, standing_so, to_give_up, to_send, to_send_again, with_ends}
use Rattle.client_model.specs.Client as client
use Rattle.client_model.specs.Cut.{cut}
use Rattle.client_model.specs.Order.{is_fence}
use Rattle.client_model.specs.Issue.{call_faults, issue_fault}
use Rattle.frame_model.specs.Faults.{first_fault}
use Rattle.client_core.specs.declared.ids.TheConstants.{LAST_FIRST_ID}
use Rattle.client_core.specs.Answers.{issue_state}
use Rattle.client_core.specs.Valid.{IsValid}
use Rattle.client_core.proofs.Issuing.{good_parts}
use Rattle.wire_loop.specs.Steps.{call_steps, part_steps, steps_left}

abbrev steps_in : List ClientPart → ℕ
steps_in ps = sum_by (λ (p : ClientPart). part_steps p.standing) ps

abbrev steps_among : List ClientCall → ℕ
steps_among ks = sum_by call_steps ks

-- ---- a change that adds no step
abbrev pub AddsNone : (Standing → Standing) → Type 0
AddsNone f = (st : Standing) → part_steps (f st) ≤ part_steps st

changed_one : (f : Standing → Standing) → AddsNone f → (b : Bool) (st : Standing) → part_steps (if b then f st else st) ≤ part_steps st
changed_one f less true st = less st
changed_one f less false st = omega arith

changed_parts : (p : Part) (f : Standing → Standing) → AddsNone f → (ps : List ClientPart) → steps_in (map (part_changed p f) ps) ≤ steps_in ps
changed_parts p f less [] = omega arith
changed_parts p f less (q ∷ ps) =
    let one = changed_one f less (same_part q.part p) q.standing in
    let others = changed_parts p f less ps in
    let before = sum_by-cons (λ (p : ClientPart). part_steps p.standing) q ps in
    let after = sum_by-cons (λ (p : ClientPart). part_steps p.standing) (part_changed p f q) (map (part_changed p f) ps) in
    omega (arith, one, others, before, after)

pub changed_calls : (p : Part) (f : Standing → Standing) → AddsNone f → (ks : List ClientCall) → steps_among (map (call_changed p f) ks) ≤ steps_among ks
changed_calls p f less [] = omega arith
changed_calls p f less (k ∷ ks) =
    let one = changed_parts p f less k.parts in
    let others = changed_calls p f less ks in
    let before = sum_by-cons call_steps k ks in
    let after = sum_by-cons call_steps (call_changed p f k) (map (call_changed p f) ks) in
    omega (arith, one, others, before, after)

-- ---- calls that end
kept_one : (b : Bool) (k : ClientCall) (ks rest : List ClientCall) → steps_among rest ≤ steps_among ks → steps_among (cond b (k ∷ rest) rest) ≤ steps_among (k ∷ ks)
kept_one true k ks rest others =
    let before = sum_by-cons call_steps k ks in
    let after = sum_by-cons call_steps k rest in
    omega (arith, others, before, after)
kept_one false k ks rest others =
    let before = sum_by-cons call_steps k ks in
    omega (arith, others, before)

pub kept_calls : (test : ClientCall → Bool) (ks : List ClientCall) → steps_among (filter test ks) ≤ steps_among ks
kept_calls test [] = omega arith
kept_calls test (k ∷ ks) = kept_one (test k) k ks (filter test ks) (kept_calls test ks)

-- ---- a part in flight that is over
-- the part is in flight among these
abbrev pub HasFlight : Sending → List ClientPart → Type 0
HasFlight g [] = ⊥
HasFlight g (p ∷ ps) = (flight p.part p.request p.standing ≡ Some g) ⊎ HasFlight g ps

found_flight : (test : Sending → Bool) (ps : List ClientPart) (g : Sending) → find test (filter_map (λ p. flight p.part p.request p.standing) ps) ≡ Some g → HasFlight g ps
found_flight test [] g is = absurd cc
found_flight test (p ∷ ps) g is = go (flight p.part p.request p.standing) refl is (found_flight test ps g) where
  others : List Sending
  others = filter_map (λ p. flight p.part p.request p.standing) ps

  here : (b : Bool) (h : Sending) → flight p.part p.request p.standing ≡ Some h → cond b (Some h) (find test others) ≡ Some g → (find test others ≡ Some g → HasFlight g ps) → HasFlight g (p ∷ ps)
  here true h at is later = inl (at ∙ is)
  here false h at is later = inr (later is)

  go : (o : Option Sending) → flight p.part p.request p.standing ≡ o → find test (cons_option o others) ≡ Some g → (find test others ≡ Some g → HasFlight g ps) → HasFlight g (p ∷ ps)
  go None at is later = inr (later is)
  go (Some h) at is later = here (test h) h at is later

either_list : (g : Sending) (xs ys : List ClientPart) → HasFlight g (xs ++ ys) → HasFlight g xs ⊎ HasFlight g ys
either_list g [] ys has = inr has
either_list g (x ∷ xs) ys has = ⊎_elim (λ here. inl (inl here)) (λ later. ⊎_elim (λ a. inl (inr a)) (λ b. inr b) (either_list g xs ys later)) has

-- a change that ends a part in flight
abbrev pub EndsFlight : (Standing → Standing) → Type 0
EndsFlight f = (orig first last : ℕ) → part_steps (f (InFlight orig first last)) ≡ 0

same_name : (p : Part) → same_part p p ≡ true
same_name p = grind (arith, nat_tests)

ended_one : (f : Standing → Standing) → EndsFlight f → (p : Part) (r : Request) (st : Standing) (g : Sending) → flight p r st ≡ Some g
    → (part_steps (if same_part p g.part then f st else st) < part_steps st)
ended_one f ends p r Unsent g at = absurd cc
ended_one f ends p r (Over e) g at = absurd cc
ended_one f ends p r (InFlight orig first last) g at =
    let name : p ≡ g.part = ap (λ (o : Option Sending). (unwrap_or o g).part) at in
    let same : same_part p g.part ≡ true = subst (λ q. same_part p q ≡ true) name (same_name p) in
    let over : part_steps (if same_part p g.part then f (InFlight orig first last) else InFlight orig first last) ≡ 0 =
    ap (λ b. part_steps (if b then f (InFlight orig first last) else InFlight orig first last)) same ∙ ends orig first last in
    omega (arith, over)

ended_parts : (f : Standing → Standing) → AddsNone f → EndsFlight f → (g : Sending) (ps : List ClientPart) → HasFlight g ps → steps_in (map (part_changed g.part f) ps) < steps_in ps
ended_parts f less ends g [] has = absurd has
ended_parts f less ends g (q ∷ ps) has = ⊎_elim here (λ later. there (ended_parts f less ends g ps later)) has where
  before : steps_in (q ∷ ps) ≡ part_steps q.standing + steps_in ps
  before = sum_by-cons (λ (p : ClientPart). part_steps p.standing) q ps

  after : steps_in (map (part_changed g.part f) (q ∷ ps)) ≡ part_steps (part_changed g.part f q).standing + steps_in (map (part_changed g.part f) ps)
  after = sum_by-cons (λ (p : ClientPart). part_steps p.standing) (part_changed g.part f q) (map (part_changed g.part f) ps)

  here : flight q.part q.request q.standing ≡ Some g → steps_in (map (part_changed g.part f) (q ∷ ps)) < steps_in (q ∷ ps)
  here at =
      let one = ended_one f ends q.part q.request q.standing g at in
      let others = changed_parts g.part f less ps in
      omega (arith, one, others, before, after)

  there : steps_in (map (part_changed g.part f) ps) < steps_in ps → steps_in (map (part_changed g.part f) (q ∷ ps)) < steps_in (q ∷ ps)
  there others =
      let one = changed_one f less (same_part q.part g.part) q.standing in
      omega (arith, one, others, before, after)

pub ended_calls : (f : Standing → Standing) → AddsNone f → EndsFlight f → (g : Sending) (ks : List ClientCall) → HasFlight g (parts_of ks)
    → steps_among (map (call_changed g.part f) ks) < steps_among ks
ended_calls f less ends g [] has = absurd has
ended_calls f less ends g (k ∷ ks) has = ⊎_elim here (λ later. there (ended_calls f less ends g ks later)) (either_list g k.parts (parts_of ks) has) where
  before : steps_among (k ∷ ks) ≡ call_steps k + steps_among ks
  before = sum_by-cons call_steps k ks

  after : steps_among (map (call_changed g.part f) (k ∷ ks)) ≡ call_steps (call_changed g.part f k) + steps_among (map (call_changed g.part f) ks)
  after = sum_by-cons call_steps (call_changed g.part f k) (map (call_changed g.part f) ks)

  here : HasFlight g k.parts → steps_among (map (call_changed g.part f) (k ∷ ks)) < steps_among (k ∷ ks)
  here at =
      let one = ended_parts f less ends g k.parts at in
      let others = changed_calls g.part f less ks in
      omega (arith, one, others, before, after)

  there : steps_among (map (call_changed g.part f) ks) < steps_among ks → steps_among (map (call_changed g.part f) (k ∷ ks)) < steps_among (k ∷ ks)
  there others =
      let one = changed_parts g.part f less k.parts in
      omega (arith, one, others, before, after)

given_up_adds : (t : ℕ) → AddsNone (given_up t)
given_up_adds t Unsent = omega arith
given_up_adds t (InFlight orig first last) = omega arith
given_up_adds t (Over e) = omega arith

answered_adds : (reply : Reply) → AddsNone (answered reply)
answered_adds reply Unsent = omega arith
answered_adds reply (InFlight orig first last) = omega arith
answered_adds reply (Over e) = omega arith

out_again : (b : Bool) (id t : ℕ) → part_steps (if b then Unsent else InFlight id t t) ≤ 2
out_again true id t = omega arith
out_again false id t = omega arith

gone_out_adds : (t : ℕ) (o : Outgoing) → AddsNone (gone_out t o)
gone_out_adds t o Unsent = out_again o.again o.id t
gone_out_adds t o (InFlight orig first last) = omega arith
gone_out_adds t o (Over e) = omega arith

-- after a part in flight is over, and its call ended where all are
over_ends : (f : Standing → Standing) → AddsNone f → EndsFlight f → (g : Sending) (s : ClientState) → HasFlight g (parts_of s.calls)
    → steps_among (after_part g.part f s).calls < steps_among s.calls
over_ends f less ends g s has =
    let changed = ended_calls f less ends g s.calls has in
    let kept = kept_calls (λ k. is_none (finished k)) (map (call_changed g.part f) s.calls) in
    omega (arith, changed, kept)

-- ---- what a poll does
-- a poll gives up what is in flight, ends the first call, and sends one part
abbrev pub IsOf : ClientState → Polled → Type 0
IsOf s (GivesUp g) = HasFlight g (parts_of s.calls)
IsOf s (EndsFence n) = fence_first s.calls ≡ Some (EndsFence n)
IsOf s (Sends (o ∷ [])) = Unit {0}
IsOf s (Sends other) = ⊥
IsOf s Idles = Unit {0}

module _ (s : ClientState) where
  of_first : (a b c d : Option Polled) → IfSome a (IsOf s) → IfSome b (IsOf s) → IfSome c (IsOf s) → IfSome d (IsOf s)
      → IsOf s (unwrap_or (first_some (a ∷ b ∷ c ∷ d ∷ [])) Idles)
  of_first (Some p) b c d ha hb hc hd = ha
  of_first None (Some p) c d ha hb hc hd = hb
  of_first None None (Some p) d ha hb hc hd = hc
  of_first None None None (Some p) ha hb hc hd = hd
  of_first None None None None ha hb hc hd = tt

  of_old : (o : Option Sending) → ((g : Sending) → o ≡ Some g → HasFlight g (parts_of s.calls)) → IfSome (option_map GivesUp o) (IsOf s)
  of_old None has = tt
  of_old (Some g) has = has g refl

  of_fence : (b : Bool) (k : ClientCall) (ks : List ClientCall) → s.calls ≡ k ∷ ks → is_fence k.call ≡ b → IfSome (if b then Some (EndsFence k.number) else None) (IsOf s)
  of_fence true k ks is fence = ap fence_first is ∙ ap (λ (b : Bool). if b then Some (EndsFence k.number) else None) fence
  of_fence false k ks is fence = tt

  of_calls : (ks : List ClientCall) → s.calls ≡ ks → IfSome (fence_first ks) (IsOf s)
  of_calls [] is = tt
  of_calls (k ∷ ks) is = of_fence (is_fence k.call) k ks is refl

  of_again : (id : ℕ) (o : Option Sending) → IfSome (option_map (λ f. Sends (again id f ∷ [])) o) (IsOf s)
  of_again id None = tt
  of_again id (Some f) = tt

  of_anew : (id : ℕ) (o : Option ClientPart) → IfSome (option_map (λ p. Sends (anew id p ∷ [])) o) (IsOf s)
  of_anew id None = tt
  of_anew id (Some p) = tt

  of_room : (b : Bool) (id : ℕ) (o : Option ClientPart) → IfSome (if b then option_map (λ p. Sends (anew id p ∷ [])) o else None) (IsOf s)
  of_room true id o = of_anew id o
  of_room false id o = tt

  pub polls_of : (t : ℕ) → IsOf s (client.poll s t)
  polls_of t =
      of_first (to_give_up s t) (fence_first s.calls) (to_send_again s t) (to_send s)
      (of_old _ (λ g is. found_flight _ (parts_of s.calls) g is)) (of_calls s.calls refl) (of_again (next_id s) _) (of_room (has_room_in_flight s) (next_id s) (slice_get (sendable s) 0))

-- the Fence that is the first call ends
fence_ended : (n : ℕ) (ks : List ClientCall) → fence_first ks ≡ Some (EndsFence n) → steps_among (filter (λ k. not (is_fence_of n k)) ks) < steps_among ks
fence_ended n [] is = absurd cc
fence_ended n (k ∷ ks) is = go (is_fence k.call) refl is where
  others : List ClientCall
  others = filter (λ k. not (is_fence_of n k)) ks

  dropped : (b : Bool) → b ≡ false → steps_among (cond b (k ∷ others) others) < steps_among (k ∷ ks)
  dropped true is = absurd cc
  dropped false is =
      let kept = kept_calls (λ k. not (is_fence_of n k)) ks in
      let before = sum_by-cons call_steps k ks in
      omega (arith, kept, before)

  go : (b : Bool) → is_fence k.call ≡ b → (if b then Some (EndsFence k.number) else None) ≡ Some (EndsFence n) → steps_among (filter (λ k. not (is_fence_of n k)) (k ∷ ks)) < steps_among (k ∷ ks)
  go false fence is = absurd cc
  go true fence is =
      let number : k.number ≡ n = cc in
      let same : (n == k.number) ≡ true = grind (arith, nat_tests) in
      dropped (not (is_fence_of n k)) ((λ i. not (fence i && same i)))

-- ---- what a client's calls leave
pub ticked : (s : ClientState) (t calls : ℕ) → s.last ≤ t → steps_left (at_moment t s) calls ≤ steps_left s calls
ticked s t calls later = omega (arith, later)

pub ticked_on : (s : ClientState) (t calls : ℕ) → s.last < t → t ≤ 18446744073709551615 → steps_left (at_moment t s) calls < steps_left s calls
ticked_on s t calls later few = omega (arith, later, few)

-- a poll that isn't idle takes a step
abbrev pub IsBusy : Polled → Type 0
IsBusy Idles = ⊥
IsBusy other = Unit {0}

pub polled_steps : (p : Polled) (s : ClientState) (t calls : ℕ) → IsOf s p → IsBusy p → s.last ≤ t → (after_poll t p s).sendings ≤ LAST_FIRST_ID + 260 * (after_poll t p s).issued
    → steps_left (after_poll t p s) calls < steps_left s calls
polled_steps (GivesUp g) s t calls of busy later within =
    let fewer = over_ends (given_up t) (given_up_adds t) (λ orig first last. refl) g (at_moment t s) of in
    omega (arith, fewer, later)
polled_steps (EndsFence n) s t calls of busy later within =
    let fewer = fence_ended n s.calls of in
    omega (arith, fewer, later)
polled_steps (Sends []) s t calls of busy later within = absurd of
polled_steps (Sends (o ∷ [])) s t calls of busy later within =
    let kept = changed_calls o.part (gone_out t o) (gone_out_adds t o) s.calls in
    sent_more (2 ^ 64 - 1) s.last t s.issued calls s.sendings _ _ kept later within
  where
    sent_more : (m last t issued calls sendings new old : ℕ) → new ≤ old → last ≤ t → sendings + 1 ≤ LAST_FIRST_ID + 260 * issued
        → (m - t) + (LAST_FIRST_ID + 260 * (issued + calls) - (sendings + 1)) + new + 131 * calls < (m - last) + (LAST_FIRST_ID + 260 * (issued + calls) - sendings) + old + 131 * calls
    sent_more m last t issued calls sendings new old kept later within = omega (arith, kept, later, within)
polled_steps (Sends (o ∷ u ∷ os)) s t calls of busy later within = absurd of
polled_steps Idles s t calls of busy later within = absurd busy

pub replied_steps : (s : ClientState) (calls orig : ℕ) (g : Sending) (reply : Reply) → flight_under orig s ≡ Some g → steps_left (after_reply g.part reply s) calls < steps_left s calls
replied_steps s calls orig g reply is =
    let fewer = over_ends (answered reply) (answered_adds reply) (λ orig first last. refl) g s (found_flight _ (parts_of s.calls) g is) in
    omega (arith, fewer)

-- ---- a call is issued
unsent_steps : (ps : List (Part × Request)) → steps_in (map (standing_so (λ p. Unsent)) ps) ≡ 2 * length ps
unsent_steps [] = refl
unsent_steps (p ∷ ps) =
    let one = sum_by-cons (λ (p : ClientPart). part_steps p.standing) (standing_so (λ p. Unsent) p) (map (standing_so (λ p. Unsent)) ps) in
    let others = unsent_steps ps in
    omega (arith, one, others)

pub issued_steps : (k : Call) (s : ClientState) (calls : ℕ) → length (cut k) ≤ 65 → steps_left (after_issue k s) calls ≤ steps_left s (calls + 1)
issued_steps k s calls few =
    let new : ClientCall = call_standing (λ p. Unsent) (s.issued + 1, k) in
    let all = sum_by-append call_steps s.calls (new ∷ []) in
    let one = sum_by-cons call_steps new [] in
    let parts = unsent_steps (parts_named (s.issued + 1) k) in
    let as_many : length (parts_named (s.issued + 1) k) ≡ length (cut k) = length-map (enumerate_from 0 (cut k)) (named (s.issued + 1)) ∙ length-enumerate_from 0 (cut k) in
    sum_more (2 ^ 64 - 1 - s.last) s.issued calls s.sendings _ _ _ _ (length (parts_named (s.issued + 1) k)) (length (cut k)) all one parts as_many few
  where
    sum_more : (m issued calls sendings new old one parts n count : ℕ) → new ≡ old + one → one ≡ 1 + parts + 0 → parts ≡ 2 * n → n ≡ count → count ≤ 65
        → m + (LAST_FIRST_ID + 260 * (issued + 1 + calls) - sendings) + new + 131 * calls ≤ m + (LAST_FIRST_ID + 260 * (issued + (calls + 1)) - sendings) + old + 131 * (calls + 1)
    sum_more m issued calls sendings new old one parts n count all first second same few = omega (arith, all, first, second, few)

no_fault_behind : (b : Bool) (fault : IssueFault) (rest : Option IssueFault) → cond b (Some fault) rest ≡ None → rest ≡ None
no_fault_behind true fault rest is = absurd cc
no_fault_behind false fault rest is = is

fewer_to_come : (m issued sendings calls steps : ℕ)
    → m + (LAST_FIRST_ID + 260 * (issued + calls) - sendings) + steps + 131 * calls ≤ m + (LAST_FIRST_ID + 260 * (issued + (calls + 1)) - sendings) + steps + 131 * (calls + 1)
fewer_to_come m issued sendings calls steps = omega arith

-- a call of the script was tried
pub tried_steps : (k : Call) (s new : ClientState) (calls before : ℕ) → new ≡ issue_state s k (issue_fault s k) → before ≡ calls + 1
    → steps_left new calls ≤ steps_left s before
tried_steps k s new calls before is as_many = subst (λ n. steps_left new calls ≤ steps_left s n) (sym as_many) (go (issue_fault s k) refl is) where
  go : (o : Option IssueFault) → issue_fault s k ≡ o → new ≡ issue_state s k o → steps_left new calls ≤ steps_left s (calls + 1)
  go (Some fault) at is =
      subst (λ x. steps_left x calls ≤ steps_left s (calls + 1)) (sym is) (fewer_to_come (2 ^ 64 - 1 - s.last) s.issued s.sendings calls (steps_among s.calls))
  go None at is =
      subst (λ x. steps_left x calls ≤ steps_left s (calls + 1)) (sym is) (issued_steps k s calls (good_parts k (no_fault_behind _ _ (first_fault (call_faults k)) at)).few)

-- ---- a poll that isn't idle
pub busy_steps : (s new : ClientState) (t calls : ℕ) → IsBusy (client.poll s t) → new ≡ after_poll t (client.poll s t) s → s.last ≤ t → IsValid new
    → steps_left new calls < steps_left s calls
busy_steps s new t calls busy is later valid =
    let within : new.sendings ≤ LAST_FIRST_ID + 260 * new.issued = (let all = valid.sendings in omega (arith, all)) in
    subst (λ x. steps_left x calls < steps_left s calls) (sym is)
    (polled_steps (client.poll s t) s t calls (polls_of s t) busy later (subst (λ x. x.sendings ≤ LAST_FIRST_ID + 260 * x.issued) is within))
