-- In every account each end tells its ending, and nothing is said of calls that were not issued.
use Rattle.std.proofs.Common.{◌≡◌, ℕ, zero, suc, ◌+◌, ◌<◌, ◌≤◌, List, [], ◌∷◌, ◌++◌, refl, ap, sym, ◌∙◌, subst, Some, None, Option, Bool, true, false, cond, arith, length, length-append}
use Rattle.std.specs.Prelude.{filter_map, ◌&&◌, ◌||◌, ◌==◌, option_map, option_and_then}
use Rattle.std.specs.List.{AllByRecursion as Each, list_any, cons_option}
use Rattle.std.proofs.lemmas.Bool.Decides.{nat_tests}
use Rattle.std.proofs.lemmas.List.Elements.{filter_map-append}
use Rattle.std.proofs.lemmas.List.Folds.{list_any-append}
use Rattle.cl_types.specs.declared.numbers.ClientNo.{ClientNo}
use Rattle.cl_types.specs.declared.config.Config.{Config}
use Rattle.cl_types.specs.declared.call.Call.{Call}
use Rattle.cl_types.specs.declared.frame.Head.{Head}
use Rattle.cl_types.specs.declared.request.Request.{Request}
use Rattle.cl_types.specs.declared.reply.Part.{Part}
use Rattle.cl_types.specs.declared.reply.Reply.{Reply}
use Rattle.cl_types.specs.declared.schedule.Event.{Event}
use Rattle.cl_types.specs.declared.schedule.Event.TheVariants as event
use Rattle.cl_types.specs.declared.line.Did.{Did}
use Rattle.cl_types.specs.declared.line.Did.TheVariants as did
use Rattle.cl_types.specs.declared.line.Entry.{Entry}
use Rattle.cl_types.specs.Parts.{same_part}
use Rattle.client_model.specs.Cut.{Ending, Replied, GivenUp}
use Rattle.trace.specs.Account.{Account, Line, Frame, Carried, Answers, Effect, says, now, extended, next_frame_number, memory_at, nothing_yet}
use Rattle.client_model.specs.Client.{ClientCall, Sending, Outgoing, GivesUp, EndsFence, Sends, again, anew, next_id}
use Rattle.cl_types.specs.Parts.{same_client}
use Rattle.trace.specs.Clients.{issued, issued_on, call_at, part_request, request_of_part, first_of, first_sending, sending_on, PartEnd, TookFrame, GaveUpAt, part_end, end_of_part, replied, ending_by, texts_with, says_fence_ended, ends_fence, client_at}
use Rattle.trace.specs.Events.{on_judged, on_polled, on_flight, on_items, sent_text, next_account}
use Rattle.client_laws.specs.Flights.{FlightOf}
use Rattle.client_laws.specs.ClientLines.{Told, Fresh}
use Rattle.lemmas.proofs.Lists.{each_weaker, none_read, and_then_some, none_some, slice_get_within}
use Rattle.client_laws.proofs.Entries.{first_of-append, first_of-append_none}
use Rattle.client_laws.proofs.Standings.{line_of, texts_extended, end_said, ending_by_kept, frame_kept, sent_kept, standing_quiet}
use Rattle.client_laws.proofs.Items.{items_texts}
use Rattle.lemmas.proofs.SameParts.{same_is}
use Rattle.client_laws.proofs.StateRead.{CallOf, calls_are}
use Rattle.client_laws.proofs.Cases.{IsQuiet, IsGiven, Cases, peek_is_quiet, effect_by}

-- ---- texts that say nothing of a part
pub record Silent (c : ClientNo) (p : Part) (t : ℕ) (d : Did) : Type 0 where
  pub no_end : part_end c p t d ≡ None
  pub no_first : first_sending c p t d ≡ None
  pub no_moment : sending_on c p t d ≡ None

pub quiet_is_silent : (c : ClientNo) (p : Part) (t : ℕ) (d : Did) → IsQuiet d → Silent c p t d
quiet_is_silent c p t (did.Sent frame client part id) q = absurd q
quiet_is_silent c p t (did.Again frame client part id orig) q = absurd q
quiet_is_silent c p t (did.GaveUp client part) q = absurd q
quiet_is_silent c p t (did.Took frame client part) q = absurd q
quiet_is_silent c p t other q = record { no_end = refl; no_first = refl; no_moment = refl }

pub quiet_ends_none : (d : Did) → IsQuiet d → says_fence_ended d ≡ false
quiet_ends_none did.FenceEnded q = absurd q
quiet_ends_none other q = refl

pub items_silent : (keep : List Entry → List Entry) (config : Config) (a : Account) (l k : ℕ) (items : List Carried) (c : ClientNo) (p : Part) (t : ℕ) → Each (Silent c p t) (on_items keep config a l k 0 items).texts
items_silent keep config a l k items c p t =
    items_texts (Silent c p t) (
      (λ frame client part how status reply. record { no_end = refl; no_first = refl; no_moment = refl }),
      (λ frame client part oldest at. record { no_end = refl; no_first = refl; no_moment = refl }),
    ) keep config l k items a 0

pub items_end_none : (keep : List Entry → List Entry) (config : Config) (a : Account) (l k : ℕ) (items : List Carried) → Each (λ (d : Did). says_fence_ended d ≡ false) (on_items keep config a l k 0 items).texts
items_end_none keep config a l k items =
    items_texts (λ (d : Did). says_fence_ended d ≡ false) ((λ frame client part how status reply. refl), (λ frame client part oldest at. refl)) keep config l k items a 0

-- of another part
pub cond_none : {X : Type 0} (b : Bool) (x : X) → b ≡ false → ◌≡◌ {A = Option X} (cond b (Some x) None) None
cond_none true x e = grind arith
cond_none false x e = refl

pub sent_silent : (c d : ClientNo) (p : Part) (t n : ℕ) (o : Outgoing) → (same_client c d && same_part p o.part) ≡ false → Silent c p t (sent_text d n o)
sent_silent c d p t n o apart = go o.again where
  go : (b : Bool) → Silent c p t (cond b (did.Again n d o.part o.id o.orig) (did.Sent n d o.part o.id))
  go true = record { no_end = refl; no_first = refl; no_moment = cond_none _ t apart }
  go false = record { no_end = refl; no_first = cond_none _ (o.id, t) apart; no_moment = cond_none _ t apart }

-- ---- each end tells its ending
abbrev TellsNew : Account → ℕ → Event → Effect → ClientNo → Type 0
TellsNew a l event e c = (p : Part) (x : PartEnd) → end_said a l event e c p ≡ Some x → (y : Ending) × (ending_by (extended a l event e) c p x ≡ Some y)

told_kept : (a : Account) (l : ℕ) (event : Event) (e : Effect) (c : ClientNo) → Told a c → TellsNew a l event e c → Told (extended a l event e) c
told_kept a l event e c t new = record { told = λ p x h. go p x (end_of_part a c p) refl (sym (ap first_of (texts_extended (part_end c p) a l event e)) ∙ h) } where
  go : (p : Part) (x : PartEnd) (o : Option PartEnd) → end_of_part a c p ≡ o → first_of (texts_with a (part_end c p) ++ filter_map (part_end c p (now a l)) e.texts) ≡ Some x
      → (y : Ending) × (ending_by (extended a l event e) c p x ≡ Some y)
  go p x (Some z) k h =
      let same : Some z ≡ Some x = sym (first_of-append (texts_with a (part_end c p)) (filter_map (part_end c p (now a l)) e.texts) z k) ∙ h in
      let is : z ≡ x = cc in
      let y = t.told p z k in
      (y.0, subst (λ w. ending_by (extended a l event e) c p w ≡ Some y.0) is (ending_by_kept a l event e c p z y.0 y.1))
  go p x None k h = new p x (sym (first_of-append_none (texts_with a (part_end c p)) (filter_map (part_end c p (now a l)) e.texts) k) ∙ h)

silent_tells : (a : Account) (l : ℕ) (event : Event) (e : Effect) (c : ClientNo) → ((p : Part) → Each (Silent c p (now a l)) e.texts) → TellsNew a l event e c
silent_tells a l event e c silent p x h =
    absurd (none_some x (sym (ap first_of (none_read (part_end c p (now a l)) e.texts (each_weaker _ _ (λ d s. s.no_end) e.texts (silent p)))) ∙ h))

-- one text says that this part is over, and so tells its ending
one_tells : (a : Account) (l : ℕ) (event : Event) (e : Effect) (c d : ClientNo) (q : Part) (x : PartEnd) → ((p : Part) → filter_map (part_end c p (now a l)) e.texts ≡ cons_option (cond (same_client c d && same_part p q) (Some x) None) [])
    → ((y : Ending) × (ending_by (extended a l event e) d q x ≡ Some y)) → TellsNew a l event e c
one_tells a l event e c d q x reads tells p z h = go (same_client c d && same_part p q) refl (sym (ap first_of (reads p)) ∙ h) where
  go : (b : Bool) → (same_client c d && same_part p q) ≡ b → first_of {A = PartEnd} (cons_option (cond b (Some x) None) []) ≡ Some z → (y : Ending) × (ending_by (extended a l event e) c p z ≡ Some y)
  go true same h =
      let is : x ≡ z = cc in
      let s = same_is c d p q same in (
        tells.0,
        subst (λ w. ending_by (extended a l event e) c p w ≡ Some tells.0) is
            (subst (λ w. ending_by (extended a l event e) w p x ≡ Some tells.0) (sym s.0) (subst (λ w. ending_by (extended a l event e) d w x ≡ Some tells.0) (sym s.1) tells.1)),
      )
  go false same h = absurd (none_some z h)

-- ---- nothing is said of calls that were not issued
pub call_at_within : (calls : List Call) (n : ℕ) (k : Call) → call_at calls n ≡ Some k → n ≤ length calls
call_at_within calls zero k e = omega arith
call_at_within calls (suc n) k e = slice_get_within calls n k e

-- a part of an issued call is none of a call that was not issued
apart_from : (a : Account) (c d : ClientNo) (p q : Part) (r : Request) → request_of_part a d q ≡ Some r → length (issued a c) < p.call.0 → (same_client c d && same_part p q) ≡ false
apart_from a c d p q r request above = go (same_client c d && same_part p q) refl where
  go : (b : Bool) → (same_client c d && same_part p q) ≡ b → b ≡ false
  go true same =
      let s = same_is c d p q same in
      let its : request_of_part a c p ≡ Some r = subst (λ w. request_of_part a w p ≡ Some r) (sym s.0) (subst (λ w. request_of_part a d w ≡ Some r) (sym s.1) request) in
      let k = and_then_some (part_request p) (call_at (issued a c) p.call.0) r its in
      let within : p.call.0 ≤ length (issued a c) = call_at_within (issued a c) p.call.0 k.0 k.1 in
      absurd (omega arith)
  go false same = refl

-- what is asked of a line, that it says nothing of calls that were not issued
record Modest (a : Account) (l : ℕ) (event : Event) (e : Effect) (c : ClientNo) : Type 0 where
  silent : (p : Part) → length (issued a c) < p.call.0 → Each (Silent c p (now a l)) e.texts
  fences : (n : ℕ) → length (issued a c) < n → ends_fence c n (line_of a l event e) ≡ false

issued_grows : (a : Account) (l : ℕ) (event : Event) (e : Effect) (c : ClientNo) → length (issued a c) ≤ length (issued (extended a l event e) c)
issued_grows a l event e c =
    let more : length (issued (extended a l event e) c) ≡ length (issued a c) + length (filter_map (λ (line : Line). issued_on c line.event line.texts) (line_of a l event e ∷ [])) =
    ap length (filter_map-append (λ (line : Line). issued_on c line.event line.texts) a.lines (line_of a l event e ∷ [])) ∙ length-append (issued a c) _ in
    omega arith

or_false : (x y : Bool) → x ≡ false → y ≡ false → (x || (y || false)) ≡ false
or_false true y e f = grind arith
or_false false true e f = grind arith
or_false false false e f = refl

fresh_kept : (a : Account) (l : ℕ) (event : Event) (e : Effect) (c : ClientNo) → Told a c → Fresh a c → Modest a l event e c → Fresh (extended a l event e) c
fresh_kept a l event e c told fresh modest = record {
  unsent = λ p above.
      let low : length (issued a c) < p.call.0 = let grows : length (issued a c) ≤ length (issued (extended a l event e) c) = issued_grows a l event e c in omega arith in
      let silent : Each (Silent c p (now a l)) e.texts = modest.silent p low in
      standing_quiet a l event e c p told
      (none_read (part_end c p (now a l)) e.texts (each_weaker _ _ (λ d s. s.no_end) e.texts silent))
      (none_read (first_sending c p (now a l)) e.texts (each_weaker _ _ (λ d s. s.no_first) e.texts silent))
      (none_read (sending_on c p (now a l)) e.texts (each_weaker _ _ (λ d s. s.no_moment) e.texts silent))
      ∙ fresh.unsent p low;
  unended = λ n above.
      let low : length (issued a c) < n = let grows : length (issued a c) ≤ length (issued (extended a l event e) c) = issued_grows a l event e c in omega arith in
      list_any-append (ends_fence c n) a.lines (line_of a l event e ∷ [])
      ∙ or_false (list_any (ends_fence c n) a.lines) (ends_fence c n (line_of a l event e)) (fresh.unended n low) (modest.fences n low);
}

pub none_any : {X : Type 0} (test : X → Bool) (xs : List X) → Each (λ (x : X). test x ≡ false) xs → list_any test xs ≡ false
none_any test [] h = refl
none_any test (x ∷ xs) h = go (test x) h.0 (none_any test xs h.1) where
  go : (b : Bool) → b ≡ false → list_any test xs ≡ false → (b || list_any test xs) ≡ false
  go true e f = grind arith
  go false e f = f

-- where no text tells the end of a Fence, no Fence ends
pub no_fence_ends : (a : Account) (l : ℕ) (event : Event) (e : Effect) (c : ClientNo) (n : ℕ) → Each (λ (d : Did). says_fence_ended d ≡ false) e.texts → ends_fence c n (line_of a l event e) ≡ false
no_fence_ends a l event e c n none =
    ap (λ b. b && elim e.ended [ None ↦ false | Some x ↦ same_client c x.client && x.call.0 == n ]) (none_any says_fence_ended e.texts none)

-- ---- both, line by line
pub record Premises (a : Account) (c : ClientNo) : Type 0 where
  pub told : Told a c
  pub fresh : Fresh a c

-- a line that says nothing of parts
silent_line : (a : Account) (l : ℕ) (event : Event) (e : Effect) (c : ClientNo) → Premises a c → ((p : Part) → Each (Silent c p (now a l)) e.texts) → Each (λ (d : Did). says_fence_ended d ≡ false) e.texts
    → Premises (extended a l event e) c
silent_line a l event e c h silent none = record {
  told = told_kept a l event e c h.told (silent_tells a l event e c silent);
  fresh = fresh_kept a l event e c h.told h.fresh (record { silent = λ p above. silent p; fences = λ n above. no_fence_ends a l event e c n none });
}

quiet_line : (a : Account) (l : ℕ) (event : Event) (c : ClientNo) → Premises a c → (d : Did) → IsQuiet d → Premises (extended a l event (says d)) c
quiet_line a l event c h d quiet = silent_line a l event (says d) c h (λ p. (quiet_is_silent c p (now a l) d quiet, tt)) (quiet_ends_none d quiet, tt)

-- a line that says of one part of an issued call that it was sent
pub sent_ends_none : (d : ClientNo) (n : ℕ) (o : Outgoing) → says_fence_ended (sent_text d n o) ≡ false
sent_ends_none d n o = go o.again where
  go : (b : Bool) → says_fence_ended (cond b (did.Again n d o.part o.id o.orig) (did.Sent n d o.part o.id)) ≡ false
  go true = refl
  go false = refl

sent_line : (config : Config) (a : Account) (l : ℕ) (event : Event) (c d : ClientNo) (o : Outgoing) → Premises a c → request_of_part a d o.part ≡ Some o.request
    → Premises (extended a l event (on_polled a l (client_at config a d) (Sends (o ∷ [])))) c
sent_line config a l event c d o h request =
    let e : Effect = on_polled a l (client_at config a d) (Sends (o ∷ [])) in
    record {
      told = told_kept a l event (on_polled a l (client_at config a d) (Sends (o ∷ []))) c h.told
          (λ p x said. absurd (none_some x (sym (ap first_of (no_end_sent_by c d p (now a l) (next_frame_number a) o)) ∙ said)));
      fresh = fresh_kept a l event (on_polled a l (client_at config a d) (Sends (o ∷ []))) c h.told h.fresh (record {
        silent = λ p above. (sent_silent c d p (now a l) (next_frame_number a) o (apart_from a c d p o.part o.request request above), tt);
        fences = λ n above. no_fence_ends a l event (on_polled a l (client_at config a d) (Sends (o ∷ []))) c n (sent_ends_none d (next_frame_number a) o, tt);
      });
    }
  where
    no_end_sent_by : (c d : ClientNo) (p : Part) (t n : ℕ) (o : Outgoing) → filter_map (part_end c p t) (sent_text d n o ∷ []) ≡ []
    no_end_sent_by c d p t n o = go o.again where
      go : (b : Bool) → filter_map (part_end c p t) (cond b (did.Again n d o.part o.id o.orig) (did.Sent n d o.part o.id) ∷ []) ≡ []
      go true = refl
      go false = refl

-- a line that says of one part of an issued call that it is over
over_line : (a : Account) (l : ℕ) (event : Event) (e : Effect) (c : ClientNo) → Premises a c → TellsNew a l event e c → ((p : Part) → length (issued a c) < p.call.0 → Each (Silent c p (now a l)) e.texts)
    → Each (λ (d : Did). says_fence_ended d ≡ false) e.texts → Premises (extended a l event e) c
over_line a l event e c h tells silent none = record {
  told = told_kept a l event e c h.told tells;
  fresh = fresh_kept a l event e c h.told h.fresh (record { silent = silent; fences = λ n above. no_fence_ends a l event e c n none });
}

gave_up_line : (config : Config) (a : Account) (l : ℕ) (event : Event) (c d : ClientNo) (f : Sending) → Premises a c → FlightOf a d f
    → Premises (extended a l event (on_polled a l (client_at config a d) (GivesUp f))) c
gave_up_line config a l event c d f h of =
    let e : Effect = on_polled a l (client_at config a d) (GivesUp f) in
    over_line a l event (on_polled a l (client_at config a d) (GivesUp f)) c h
    (one_tells a l event (on_polled a l (client_at config a d) (GivesUp f)) c d f.part (GaveUpAt (now a l)) (λ p. refl)
    (GivenUp f.first (now a l), ap (option_map (λ (first : ℕ × ℕ). GivenUp first.1 (now a l))) (sent_kept a l event (on_polled a l (client_at config a d) (GivesUp f)) d f.part (f.orig, f.first) of.sent)))
    (λ p above. (record { no_end = cond_none _ (GaveUpAt (now a l)) (apart_from a c d p f.part f.request of.request above); no_first = refl; no_moment = refl }, tt))
    (refl, tt)

took_line : (config : Config) (a : Account) (l : ℕ) (event : Event) (c : ClientNo) (k : ℕ) (frame : Frame) (head : Head) (reply : Reply) (if_taken : List Entry) (f : Sending) → Premises a c
    → IsGiven a l k frame (Answers head reply if_taken) → FlightOf a head.client f
    → Premises (extended a l event (on_flight (client_at config a head.client) k head reply if_taken (Some f))) c
took_line config a l event c k frame head reply if_taken f h given of =
    over_line a l event (on_flight (client_at config a head.client) k head reply if_taken (Some f)) c h
    (one_tells a l event (on_flight (client_at config a head.client) k head reply if_taken (Some f)) c head.client f.part (TookFrame k) (λ p. refl)
    (Replied reply, ap (option_and_then (λ (g : Frame). replied g.load)) (frame_kept a l event (on_flight (client_at config a head.client) k head reply if_taken (Some f)) k frame given.is_frame) ∙ ap replied given.carries))
    (λ p above. (record { no_end = cond_none _ (TookFrame k) (apart_from a c head.client p f.part f.request of.request above); no_first = refl; no_moment = refl }, tt))
    (refl, tt)

-- a line that ends a Fence of an issued call
fence_line : (config : Config) (a : Account) (l : ℕ) (event : Event) (c d : ClientNo) (k : ClientCall) → Premises a c → CallOf a d k
    → Premises (extended a l event (on_polled a l (client_at config a d) (EndsFence k.number))) c
fence_line config a l event c d k h of = record {
  told = told_kept a l event (on_polled a l (client_at config a d) (EndsFence k.number)) c h.told (silent_tells a l event (on_polled a l (client_at config a d) (EndsFence k.number)) c (λ p. silent));
  fresh = fresh_kept a l event (on_polled a l (client_at config a d) (EndsFence k.number)) c h.told h.fresh (record { silent = λ p above. silent; fences = λ n above. other n above (same_client c d) refl (k.number == n) refl });
}
  where
    silent : {p : Part} → Each (Silent c p (now a l)) (did.FenceEnded ∷ [])
    silent = (record { no_end = refl; no_first = refl; no_moment = refl }, tt)

    other : (n : ℕ) → length (issued a c) < n → (x : Bool) → same_client c d ≡ x → (y : Bool) → (k.number == n) ≡ y → (x && y) ≡ false
    other n above true same true number =
        let c_is : c.0 ≡ d.0 = grind (arith, nat_tests) in
        let client : c ≡ d = λ i. record { 0 = c_is i } in
        let is : k.number ≡ n = grind (arith, nat_tests) in
        let within : k.number ≤ length (issued a c) = subst (λ z. k.number ≤ length (issued a z)) (sym client) (call_at_within (issued a d) k.number of.call of.is_call) in
        absurd (omega arith)
    other n above true same false number = refl
    other n above false same y number = refl

-- ---- the induction
premises_cases : (keep : List Entry → List Entry) (config : Config) (a : Account) (l : ℕ) (c : ClientNo) → Premises a c → Cases keep config a l (λ event e. Premises (extended a l event e) c)
premises_cases keep config a l c h = record {
  quiet = λ event d no_peek quiet. quiet_line a l event c h d quiet;
  peeks = λ pid addr n. peek_is_quiet (λ e. Premises (extended a l (event.Peek pid addr n) e) c) (λ d quiet. quiet_line a l (event.Peek pid addr n) c h d quiet) (memory_at config a.history l 0) pid addr n;
  issues = λ d text none. silent_line a l (event.Call d text) (on_judged (client_at config a d) None) c h (λ p. (record { no_end = refl; no_first = refl; no_moment = refl }, tt)) (refl, tt);
  gives_up = λ d f of old. gave_up_line config a l (event.Poll d) c d f h of;
  ends_fence = λ d k rest is fence.
      let all : Each (CallOf a d) (k ∷ rest) = subst (λ z. Each (CallOf a d) z) is (calls_are config a d) in
      fence_line config a l (event.Poll d) c d k h all.0;
  sends_again = λ d f of due. sent_line config a l (event.Poll d) c d (again (next_id (client_at config a d)) f) h of.request;
  sends = λ d p of. sent_line config a l (event.Poll d) c d (anew (next_id (client_at config a d)) p) h of.request;
  items = λ event k frame items delivers given. silent_line a l event (on_items keep config a l k 0 items) c h
      (λ p. items_silent keep config a l k items c p (now a l)) (items_end_none keep config a l k items);
  takes = λ event k frame head reply if_taken f delivers given of orig. took_line config a l event c k frame head reply if_taken f h given of;
}

pub premises_next : (keep : List Entry → List Entry) (config : Config) (a : Account) (e : ℕ × Event) (c : ClientNo) → Premises a c → Premises (next_account keep config a e) c
premises_next keep config a e c h = effect_by keep config a e.0 (λ event x. Premises (extended a e.0 event x) c) (premises_cases keep config a e.0 c h) e.1

pub premises_nothing : (c : ClientNo) → Premises nothing_yet c
premises_nothing c = record {
  told = record { told = λ p x h. absurd (none_some x h) };
  fresh = record { unsent = λ p above. refl; unended = λ n above. refl };
}
