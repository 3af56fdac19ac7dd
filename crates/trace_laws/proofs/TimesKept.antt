-- The law of times, as an account grows.
use Rattle.std.proofs.Common.{◌≡◌, ℕ, zero, suc, ◌+◌, ◌-◌, ◌<◌, ◌≤◌, List, [], ◌∷◌, refl, subst, Some, true, false, arith}
use Rattle.std.specs.Prelude.{filter_map, leb}
use Rattle.std.specs.List.{AllByRecursion as Each}
use Rattle.std.proofs.lemmas.Bool.Decides.{nat_tests}
use Rattle.cl_types.specs.declared.config.Config.{Config}
use Rattle.cl_types.specs.declared.limits.TheConstants.{TIMEOUT, LAST_RESEND, SPAN}
use Rattle.cl_types.specs.declared.numbers.ClientNo.{ClientNo}
use Rattle.cl_types.specs.declared.reply.Part.{Part}
use Rattle.cl_types.specs.declared.reply.Reply.{Reply}
use Rattle.cl_types.specs.declared.line.Did.{Did}
use Rattle.cl_types.specs.declared.line.Did.TheVariants as did
use Rattle.cl_types.specs.declared.line.Entry.{Entry}
use Rattle.cl_types.specs.declared.schedule.Event.{Event}
use Rattle.cl_types.specs.declared.schedule.Event.TheVariants as event
use Rattle.cl_types.specs.Times.{is_live, is_old, is_due}
use Rattle.flat_model.specs.State.{FlatState}
use Rattle.trace.specs.Account.{Account, Line, Frame, Carried, Load, Asks, items_of, if_taken_of, Effect, says, joined_by, now, extended, next_frame_number, frame_at, memory_at, nothing_yet}
use Rattle.client_model.specs.Client.{ClientPart, Sending, GivesUp, Sends, again, anew, next_id}
use Rattle.trace.specs.Clients.{first_of, first_sending, first_sent, client_at}
use Rattle.node_model.specs.Handling.{Handling, Repeats, RefusesForNow, Executes, Looks}
use Rattle.trace.specs.Events.{entry_of, handled, then_also, on_polled, on_flight, on_item, on_items, effect, next_account, account_from, keep_all}
use Rattle.trace.specs.Properties.{CarriesPart}
use Rattle.client_laws.specs.Flights.{FlightOf}
use Rattle.trace.specs.Schedules.{IsRisingFrom}
use Rattle.trace_laws.specs.Times.{clock, FirstAt, OfAge, GoneFrom, AreOfAge, LawOfTimes}
use Rattle.lemmas.proofs.Lists.{each_append, each_weaker, each_slice_get}
use Rattle.client_laws.proofs.Entries.{each_with_entries}
use Rattle.lemmas.proofs.SameParts.{and_right, eqb_same}
use Rattle.trace_laws.proofs.Moments.{now_kept, now_clock, clock_extended, first_kept, first_new, first_not_after}
use Rattle.client_laws.proofs.StateRead.{SendableOf}
use Rattle.trace_laws.proofs.Induction.{past}
use Rattle.client_laws.proofs.Cases.{IsQuiet, IsGiven, Cases, peek_is_quiet, effect_by}

-- ---- what each account keeps
-- an item of a frame for the node is sent while its part may be sent again
pub record SentYoung (a : Account) (f : Frame) (i : Carried) : Type 0 where
  pub first : ℕ
  pub sent : FirstAt a i.item.head.client i.part first
  pub early : first ≤ f.moment
  pub age : f.moment ≤ first + LAST_RESEND

-- a part is given up at the age of the span or above
pub record OldAt (a : Account) (t : ℕ) (c : ClientNo) (p : Part) : Type 0 where
  pub first : ℕ
  pub sent : FirstAt a c p first
  pub age : first + SPAN ≤ t

abbrev pub GivesUpOld : Account → ℕ → Did → Type 0
GivesUpOld a t (did.GaveUp c p) = OldAt a t c p
GivesUpOld a t other = Unit {0}

-- an entry is made at or after the first sending of its part, and on an earlier line
pub record Entered (a : Account) (l : ℕ) (e : Entry) : Type 0 where
  pub first : ℕ
  pub sent : FirstAt a e.client e.part first
  pub not_before : first ≤ now a e.line
  pub above : e.line < l

-- before line l
pub record Times (a : Account) (l : ℕ) : Type 0 where
  pub rising : Each (λ (line : Line). line.number < l) a.lines
  pub moments : Each (λ (line : Line). line.moment ≤ clock a) a.lines
  pub young : Each (λ (f : Frame). Each (SentYoung a f) (items_of f.load)) a.frames
  pub old : Each (λ (line : Line). Each (GivesUpOld a line.moment) line.texts) a.lines
  pub looked : Each (λ (f : Frame). Each (Entered a l) (if_taken_of f.load)) a.frames
  pub entered : Each (Entered a l) a.history

-- what is asked of an effect, over the account after it
pub record Fits (a : Account) (l : ℕ) (new : Account) (e : Effect) : Type 0 where
  pub young : Each (λ (f : Frame). Each (SentYoung new f) (items_of f.load)) e.frames
  pub old : Each (GivesUpOld new (now a l)) e.texts
  pub looked : Each (λ (f : Frame). Each (Entered new (suc l)) (if_taken_of f.load)) e.frames
  pub entered : Each (Entered new (suc l)) e.entries

abbrev pub Fit : Account → ℕ → Event → Effect → Type 0
Fit a l event e = Fits a l (extended a l event e) e

-- ---- what was said stays
young_kept : (a : Account) (l : ℕ) (event : Event) (e : Effect) (f : Frame) (i : Carried) → SentYoung a f i → SentYoung (extended a l event e) f i
young_kept a l event e f i h = record { first = h.first; sent = first_kept a l event e _ _ _ h.sent; early = h.early; age = h.age }

old_kept : (a : Account) (l : ℕ) (event : Event) (e : Effect) (t : ℕ) (d : Did) → GivesUpOld a t d → GivesUpOld (extended a l event e) t d
old_kept a l event e t (did.GaveUp c p) h = record { first = h.first; sent = first_kept a l event e _ _ _ h.sent; age = h.age }
old_kept a l event e t other h = tt

entered_kept : (a : Account) (l : ℕ) (event : Event) (e : Effect) (x : Entry) → Entered a l x → Entered (extended a l event e) (suc l) x
entered_kept a l event e x h = record {
  first = h.first;
  sent = first_kept a l event e _ _ _ h.sent;
  not_before = rw (now_kept a l x.line event e (let k : x.line < l = h.above in omega arith)) h.not_before;
  above = let k : x.line < l = h.above in omega arith;
}

-- ---- one event
times_kept : (a : Account) (l : ℕ) (event : Event) (e : Effect) → Times a l → Fit a l event e → Times (extended a l event e) (suc l)
times_kept a l event e h f = record {
  rising = each_append _ a.lines _ (each_weaker _ (λ (line : Line). line.number < suc l) (λ line k. omega arith) a.lines h.rising) (omega arith, tt);
  moments = each_append _ a.lines _
      (each_weaker _ (λ (line : Line). line.moment ≤ clock (extended a l event e)) (λ line k. omega (arith, clock_extended a l event e)) a.lines h.moments)
      (omega (arith, clock_extended a l event e, now_clock a l h.rising), tt);
  young = each_append _ a.frames e.frames
      (each_weaker _ _ (λ x. each_weaker _ _ (young_kept a l event e x) (items_of x.load)) a.frames h.young)
      f.young;
  old = each_append _ a.lines _
      (each_weaker _ _ (λ line. each_weaker _ _ (old_kept a l event e line.moment) line.texts) a.lines h.old)
      (f.old, tt);
  looked = each_append _ a.frames e.frames
      (each_weaker _ _ (λ x. each_weaker _ _ (entered_kept a l event e) (if_taken_of x.load)) a.frames h.looked)
      f.looked;
  entered = each_with_entries (Entered (extended a l event e) (suc l)) e.entries a.history f.entered (each_weaker _ _ (entered_kept a l event e) a.history h.entered);
}

-- ---- texts alone
quiet_fits : (a : Account) (l : ℕ) (event : Event) (d : Did) → IsQuiet d → Fit a l event (says d)
quiet_fits a l event d quiet = record { young = tt; old = (not_given_up (extended a l event (says d)) (now a l) d quiet, tt); looked = tt; entered = tt } where
  not_given_up : (b : Account) (t : ℕ) (d : Did) → IsQuiet d → GivesUpOld b t d
  not_given_up b t (did.GaveUp c p) q = absurd q
  not_given_up b t other q = tt

-- ---- a poll
gives_up_fits : (config : Config) (a : Account) (l : ℕ) (event : Event) (c : ClientNo) (f : Sending) → FlightOf a c f → is_old (now a l) f.first ≡ true → Fit a l event (on_polled a l (client_at config a c) (GivesUp f))
gives_up_fits config a l event c f of old = record {
  young = tt;
  old = (
    record {
      first = f.first;
      sent = first_kept a l event (on_polled a l (client_at config a c) (GivesUp f)) c f.part f.first (record { id = f.orig; sent = of.sent });
      age = let g : SPAN ≤ now a l - f.first = grind (arith, nat_tests) in omega arith;
    },
    tt,
  );
  looked = tt;
  entered = tt;
}

again_fits : (config : Config) (a : Account) (l : ℕ) (event : Event) (c : ClientNo) (f : Sending) → Times a l → FlightOf a c f → is_due (now a l) f.first f.last ≡ true
    → Fit a l event (on_polled a l (client_at config a c) (Sends (again (next_id (client_at config a c)) f ∷ [])))
again_fits config a l event c f times of due = record {
  young = (
    (
      record {
        first = f.first;
        sent = first_kept a l event (on_polled a l (client_at config a c) (Sends (again (next_id (client_at config a c)) f ∷ []))) c f.part f.first first;
        early = let g : f.first ≤ clock a = first_not_after a (clock a) c f.part f.first times.moments first in omega (arith, now_clock a l times.rising);
        age = let h : leb (now a l - f.first) LAST_RESEND ≡ true = and_right (leb TIMEOUT (now a l - f.last)) (leb (now a l - f.first) LAST_RESEND) due in let g : now a l - f.first ≤ LAST_RESEND = grind (arith, nat_tests) in omega arith;
      },
      tt,
    ),
    tt,
  );
  old = (tt, tt);
  looked = (tt, tt);
  entered = tt;
}
  where
    first : FirstAt a c f.part f.first
    first = record { id = f.orig; sent = of.sent }

pub sent_is_read : (c : ClientNo) (p : Part) (k id t : ℕ) → first_of (filter_map (first_sending c p t) (did.Sent k c p id ∷ [])) ≡ Some (id, t)
sent_is_read c p k id t = rw (eqb_same c.0, eqb_same p.call.0, eqb_same p.part) refl

anew_fits : (config : Config) (a : Account) (l : ℕ) (event : Event) (c : ClientNo) (p : ClientPart) → SendableOf config a c p
    → Fit a l event (on_polled a l (client_at config a c) (Sends (anew (next_id (client_at config a c)) p ∷ [])))
anew_fits config a l event c p of = record {
  young = (
    (
      record {
        first = now a l;
        sent = first_new a l event (on_polled a l (client_at config a c) (Sends (anew (next_id (client_at config a c)) p ∷ []))) c p.part (next_id (client_at config a c)) of.unsent
            (sent_is_read c p.part (next_frame_number a) (next_id (client_at config a c)) (now a l));
        early = omega arith;
        age = omega arith;
      },
      tt,
    ),
    tt,
  );
  old = (tt, tt);
  looked = (tt, tt);
  entered = tt;
}

-- ---- the items of a frame
-- they bring replies alone, and entries of which P holds
pub record Answered (P : Entry → Type 0) (e : Effect) : Type 0 where
  pub asks : Each (λ (f : Frame). items_of f.load ≡ []) e.frames
  pub texts : Each (λ (d : Did). (a : Account) (t : ℕ) → GivesUpOld a t d) e.texts
  pub looked : Each (λ (f : Frame). Each P (if_taken_of f.load)) e.frames
  pub entered : Each P e.entries

handled_answered : (P : Entry → Type 0) (s : FlatState) (b : Account) (l k q : ℕ) (i : Carried) → ((q : ℕ) (reply : Reply) → P (entry_of l q i reply)) → (h : Handling) → Answered P (handled s b l k q i h)
handled_answered P s b l k q i p (Repeats reply) = record { asks = (refl, tt); texts = ((λ a t. tt), tt); looked = (tt, tt); entered = tt }
handled_answered P s b l k q i p (RefusesForNow oldest) = record { asks = tt; texts = ((λ a t. tt), tt); looked = tt; entered = tt }
handled_answered P s b l k q i p Executes = record { asks = (refl, tt); texts = ((λ a t. tt), tt); looked = (tt, tt); entered = (p q _, tt) }
handled_answered P s b l k q i p Looks = record { asks = (refl, tt); texts = ((λ a t. tt), tt); looked = ((p q _, tt), tt); entered = tt }

both_answered : (P : Entry → Type 0) (e f : Effect) → Answered P e → Answered P f → Answered P (then_also e f)
both_answered P e f g h = record {
  asks = each_append _ e.frames f.frames g.asks h.asks;
  texts = each_append _ e.texts f.texts g.texts h.texts;
  looked = each_append _ e.frames f.frames g.looked h.looked;
  entered = each_append _ e.entries f.entries g.entered h.entered;
}

items_answered : (keep : List Entry → List Entry) (P : Entry → Type 0) (config : Config) (l k : ℕ) (items : List Carried) (b : Account) (q : ℕ)
    → Each (λ (i : Carried). (q : ℕ) (reply : Reply) → P (entry_of l q i reply)) items → Answered P (on_items keep config b l k q items)
items_answered keep P config l k [] b q h = record { asks = tt; texts = tt; looked = tt; entered = tt }
items_answered keep P config l k (i ∷ is) b q h =
    both_answered P _ _ (handled_answered P (memory_at config b.history l q) b l k q i h.0 _) (items_answered keep P config l k is (joined_by b (on_item keep config b l k q i)) (q + 1) h.1)

answered_fits : (a : Account) (l : ℕ) (event : Event) (e : Effect) → Answered (Entered (extended a l event e) (suc l)) e → Fit a l event e
answered_fits a l event e h = record {
  young = each_weaker _ _ (λ f none. rw none tt) e.frames h.asks;
  old = each_weaker _ _ (λ d k. k (extended a l event e) (now a l)) e.texts h.texts;
  looked = h.looked;
  entered = h.entered;
}

item_entered : (a : Account) (l : ℕ) (event : Event) (e : Effect) (f : Frame) (i : Carried) → Times a l → SentYoung a f i →
    (q : ℕ) (reply : Reply) → Entered (extended a l event e) (suc l) (entry_of l q i reply)
item_entered a l event e f i t y q reply = record {
  first = y.first;
  sent = first_kept a l event e _ _ _ y.sent;
  not_before = rw (now_kept a l l event e (omega arith))
      (let g : y.first ≤ clock a = first_not_after a (clock a) _ _ _ t.moments y.sent in omega (arith, now_clock a l t.rising));
  above = omega arith;
}

-- ---- a delivery
pub frame_at_each : (P : Frame → Type 0) (a : Account) (k : ℕ) (f : Frame) → Each P a.frames → frame_at a k ≡ Some f → P f
frame_at_each P a zero f h e = grind arith
frame_at_each P a (suc k) f h e = each_slice_get P a.frames k f h e

items_fit : (keep : List Entry → List Entry) (config : Config) (a : Account) (l : ℕ) (event : Event) (k : ℕ) (f : Frame) (items : List Carried) → Times a l → IsGiven a l k f (Asks items)
    → Fit a l event (on_items keep config a l k 0 items)
items_fit keep config a l event k f items t given =
    let young : Each (SentYoung a f) items = subst (λ (x : Load). Each (SentYoung a f) (items_of x)) given.carries (frame_at_each (λ (f : Frame). Each (SentYoung a f) (items_of f.load)) a k f t.young given.is_frame) in
    answered_fits a l event (on_items keep config a l k 0 items)
    (items_answered keep _ config l k items a 0 (each_weaker _ _ (λ i. item_entered a l event (on_items keep config a l k 0 items) f i t) items young))

times_cases : (keep : List Entry → List Entry) (config : Config) (a : Account) (l : ℕ) → Times a l → Cases keep config a l (Fit a l)
times_cases keep config a l t = record {
  quiet = λ event d no_peek quiet. quiet_fits a l event d quiet;
  peeks = λ pid addr n. peek_is_quiet (Fit a l (event.Peek pid addr n)) (λ d quiet. quiet_fits a l (event.Peek pid addr n) d quiet) (memory_at config a.history l 0) pid addr n;
  issues = λ c text none. record { young = tt; old = (tt, tt); looked = tt; entered = tt };
  gives_up = λ c f of old. gives_up_fits config a l (event.Poll c) c f of old;
  ends_fence = λ c k rest is fence. record { young = tt; old = (tt, tt); looked = tt; entered = tt };
  sends_again = λ c f of due. again_fits config a l (event.Poll c) c f t of due;
  sends = λ c p of. anew_fits config a l (event.Poll c) c p of;
  items = λ event k frame items delivers given. items_fit keep config a l event k frame items t given;
  takes = λ event k frame head reply if_taken f delivers given of orig. record {
    young = tt;
    old = (tt, tt);
    looked = tt;
    entered = each_weaker _ _ (entered_kept a l event (on_flight (client_at config a head.client) k head reply if_taken (Some f))) if_taken
        (subst (λ (x : Load). Each (Entered a l) (if_taken_of x)) given.carries (frame_at_each (λ (f : Frame). Each (Entered a l) (if_taken_of f.load)) a k frame t.looked given.is_frame));
  };
}

-- ---- the induction
pub times_later : (a : Account) (l m : ℕ) → l ≤ m → Times a l → Times a m
times_later a l m h t = record {
  rising = each_weaker _ (λ (line : Line). line.number < m) (λ line k. omega arith) a.lines t.rising;
  moments = t.moments;
  young = t.young;
  old = t.old;
  looked = each_weaker _ _ (λ x. each_weaker _ _ later _) a.frames t.looked;
  entered = each_weaker _ _ later a.history t.entered;
}
  where
    later : (e : Entry) → Entered a l e → Entered a m e
    later e k = record { first = k.first; sent = k.sent; not_before = k.not_before; above = let g : e.line < l = k.above in omega arith }

pub times_next : (keep : List Entry → List Entry) (config : Config) (a : Account) (l : ℕ) (e : Event) → Times a l → Times (extended a l e (effect keep config a l e)) (suc l)
times_next keep config a l e t = times_kept a l e (effect keep config a l e) t (effect_by keep config a l (Fit a l) (times_cases keep config a l t) e)

times_from : (keep : List Entry → List Entry) (config : Config) (events : List (ℕ × Event)) (a : Account) (l : ℕ) → IsRisingFrom l events → Times a l → Times (account_from keep config a events) (past l events)
times_from keep config [] a l r t = t
times_from keep config (e ∷ es) a l r t =
    times_from keep config es (next_account keep config a e) (e.0 + 1) r.1 (times_later _ (suc e.0) (e.0 + 1) (omega arith) (times_next keep config a e.0 e.1 (times_later a l e.0 r.0 t)))

pub times_nothing : Times nothing_yet 0
times_nothing = record { rising = tt; moments = tt; young = tt; old = tt; looked = tt; entered = tt }

pub times_of_account : (keep : List Entry → List Entry) (config : Config) (events : List (ℕ × Event)) → IsRisingFrom 0 events → Times (account_from keep config nothing_yet events) (past 0 events)
times_of_account keep config events r = times_from keep config events nothing_yet 0 r times_nothing

-- ---- the law
pub first_same : (a : Account) (c d : ClientNo) (p q : Part) (m n : ℕ) → c ≡ d → p ≡ q → FirstAt a c p m → FirstAt a d q n → m ≡ n
first_same a c d p q m n e f g h = let i : first_sent a c p ≡ Some (g.id, m) = g.sent in let j : first_sent a d q ≡ Some (h.id, n) = h.sent in grind arith

of_age : (a : Account) (f : Frame) (i : Carried) → SentYoung a f i → OfAge a f i
of_age a f i h = record {
  first = h.first;
  sent = h.sent;
  not_before = h.early;
  young = let g : f.moment ≤ h.first + LAST_RESEND = h.age in omega arith;
  live = λ t k e. let g : f.moment ≤ h.first + LAST_RESEND = h.age in let n : t - f.moment < 100 = grind (arith, nat_tests) in omega arith;
}

gone_item : (a : Account) (c : ClientNo) (p : Part) (t : ℕ) (f : Frame) (i : Carried) → OldAt a t c p → SentYoung a f i →
    CarriesPart c p i → (s : ℕ) → t ≤ s → is_live s f.moment ≡ false
gone_item a c p t f i h y k s m =
    let same : h.first ≡ y.first = first_same a c i.item.head.client p i.part h.first y.first k.client k.part h.sent y.sent in
    let old : h.first + SPAN ≤ t = h.age in
    let young : f.moment ≤ y.first + LAST_RESEND = y.age in
    let n : 100 ≤ s - f.moment = omega arith in
    grind (arith, nat_tests)

gone_from : (a : Account) (l t : ℕ) (d : Did) → Times a l → GivesUpOld a t d → GoneFrom a t d
gone_from a l t (did.GaveUp c p) u h = each_weaker _ _ (λ f. each_weaker _ _ (λ i y. gone_item a c p t f i h y) (items_of f.load)) a.frames u.young
gone_from a l t other u h = tt

pub spent_item : (a : Account) (l : ℕ) (e : Entry) (f : Frame) (i : Carried) → Entered a l e → SentYoung a f i →
    CarriesPart e.client e.part i → (t : ℕ) → is_live t f.moment ≡ true → t < now a e.line + SPAN
spent_item a l e f i h y k t live =
    let same : h.first ≡ y.first = first_same a e.client i.item.head.client e.part i.part h.first y.first k.client k.part h.sent y.sent in
    let from : h.first ≤ now a e.line = h.not_before in
    let young : f.moment ≤ y.first + LAST_RESEND = y.age in
    let n : t - f.moment < 100 = grind (arith, nat_tests) in
    omega arith

pub times_tell : (a : Account) (l : ℕ) → Times a l → AreOfAge a
times_tell a l t = record {
  ages = each_weaker _ _ (λ f. each_weaker _ _ (of_age a f) (items_of f.load)) a.frames t.young;
  gone = each_weaker _ _ (λ line. each_weaker _ _ (λ d. gone_from a l line.moment d t) line.texts) a.lines t.old;
  spent = each_weaker _ _ (λ e h. each_weaker _ _ (λ f. each_weaker _ _ (λ i y. spent_item a l e f i h y) (items_of f.load)) a.frames t.young) a.history t.entered;
}

pub law_of_times : LawOfTimes
law_of_times config events rising = times_tell _ _ (times_of_account keep_all config events rising)
