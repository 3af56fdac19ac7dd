-- Each event keeps that answers are made of the replies of the history.
use Rattle.std.proofs.Common.{◌≡◌, ℕ, ◌+◌, List, [], ◌∷◌, refl, sym, ap, ◌∙◌, subst, Bool, true, false, cond, arith, Some, None, Option, map, inl, inr, ⊎_elim}
use Rattle.std.specs.Prelude.{filter_map, option_map, option_and_then, ◌&&◌}
use Rattle.std.specs.List.{AllByRecursion as Each}
use Rattle.cl_types.specs.declared.config.Config.{Config}
use Rattle.cl_types.specs.declared.numbers.ClientNo.{ClientNo}
use Rattle.cl_types.specs.declared.call.Call.{Call}
use Rattle.cl_types.specs.declared.call.Call.TheVariants as call
use Rattle.cl_types.specs.declared.frame.Head.{Head}
use Rattle.cl_types.specs.declared.request.Request.{Request}
use Rattle.cl_types.specs.declared.reply.Part.{Part}
use Rattle.cl_types.specs.declared.reply.Reply.{Reply}
use Rattle.cl_types.specs.declared.reply.Answer.TheVariants as answer
use Rattle.cl_types.specs.declared.line.Did.{Did}
use Rattle.cl_types.specs.declared.line.Did.TheVariants as did
use Rattle.cl_types.specs.declared.line.EndedCall.{EndedCall}
use Rattle.cl_types.specs.declared.line.Entry.{Entry}
use Rattle.cl_types.specs.declared.schedule.Event.{Event}
use Rattle.cl_types.specs.declared.schedule.Event.TheVariants as event
use Rattle.cl_types.specs.Parts.{same_part}
use Rattle.client_model.specs.Cut.{Ending, Replied, GivenUp, first_given_up, combine, answer_bytes}
use Rattle.client_model.specs.Order.{is_fence}
use Rattle.trace.specs.Account.{Account, Line, Frame, Carried, Answers, Effect, says, joined_by, extended, now, frame_at, with_entry, memory_at, nothing_yet}
use Rattle.client_model.specs.Client.{Standing, ClientCall, ClientPart, Finished, Sending, GivesUp, EndsFence, emptied, call_standing, standing_so, parts_named, call_changed, given_up, answered, every, ending_of, all_over, finished, finished_with, told, end_told}
use Rattle.cl_types.specs.Parts.{same_client}
use Rattle.trace.specs.Clients.{issued, call_at, first_sent, moments_sent, texts_on, texts_with, part_end, PartEnd, TookFrame, GaveUpAt, end_of_part, ending, ending_by, replied, standing, standing_at, client_at}
use Rattle.trace.specs.Properties.{Differ, AreDistinct, IsTimedOut, EndStands, reply_in_history}
use Rattle.trace.specs.Events.{record_of, on_polled, on_flight, on_item, on_items, effect, account, account_from, keep_all}
use Rattle.history_laws.specs.Histories.{LawOfParts}
use Rattle.trace.specs.Schedules.{IsRisingFrom, AreTyped}
use Rattle.lemmas.proofs.Lists.{each_append, each_weaker, each_map, each_flat_map, each_filter_map_from, option_map_some, and_then_some}
use Rattle.client_laws.proofs.Entries.{each_first}
use Rattle.lemmas.proofs.SameParts.{same_refl, same_is}
use Rattle.client_laws.proofs.Items.{items_texts}
use Rattle.client_laws.proofs.Standings.{frame_kept, ending_by_kept, end_kept, standing_given_up, standing_answered}
use Rattle.client_laws.proofs.CallsOfClient.{call_so, map_map, map_same}
use Rattle.client_laws.proofs.StateRead.{CallOf, calls_are}
use Rattle.client_laws.proofs.Cases.{IsQuiet, Cases, peek_is_quiet, effect_by}
use Rattle.trace_laws.proofs.TimesKept.{frame_at_each}
use Rattle.client_laws.proofs.Fences.{Followed}
use Rattle.trace_laws.proofs.PartsOnce.{HasEntry, IsEntry, ReplyStands, PartsOnce}
use Rattle.trace_laws.proofs.Parts.{call_kept}
use Rattle.trace_laws.proofs.OnceKept.{has_kept_all, has_new, part_by_orig, Base, base_later, base_next, base_nothing}
use Rattle.history_laws.proofs.Answered.{TookFrom, TookIs, CallEnded, EndIs, Answered}
use Rattle.history_laws.proofs.Counted.{given_cases, counted_is, combine_emptied}
use Rattle.trace_laws.proofs.Induction.{past, of_account}

-- ---- what stays
pub ending_kept : (a : Account) (l : ℕ) (event : Event) (e : Effect) (c : ClientNo) (p : Part) (y : Ending) → ending a c p ≡ Some y → ending (extended a l event e) c p ≡ Some y
ending_kept a l event e c p y h =
    let x = and_then_some (ending_by a c p) (end_of_part a c p) y h in
    ap (option_and_then (ending_by (extended a l event e) c p)) (end_kept a l event e c p x.0 x.1) ∙ ending_by_kept a l event e c p x.0 y x.2

every_kept : {X Y : Type 0} (f g : X → Option Y) → ((x : X) (y : Y) → f x ≡ Some y → g x ≡ Some y) → (xs : List X) (ys : List Y) → every (map f xs) ≡ Some ys → every (map g xs) ≡ Some ys
every_kept f g k [] ys h = h
every_kept {X} {Y} f g k (x ∷ xs) ys h = go (f x) refl (every_kept f g k xs) h
  where
    go : (o : Option Y) → f x ≡ o → ((zs : List Y) → every (map f xs) ≡ Some zs → every (map g xs) ≡ Some zs) → every (o ∷ map f xs) ≡ Some ys → every (g x ∷ map g xs) ≡ Some ys
    go None e rec h = grind arith
    go (Some y) e rec h =
        let z = option_map_some (λ (zs : List Y). y ∷ zs) (every (map f xs)) ys h in
        ap (λ o. every (o ∷ map g xs)) (k x y e) ∙ ap (option_map (λ (zs : List Y). y ∷ zs)) (rec z.0 z.1) ∙ ap Some z.2

end_is_kept : (a : Account) (l : ℕ) (event : Event) (e : Effect) (o : Option EndedCall) → EndIs a o → EndIs (extended a l event e) o
end_is_kept a l event e None h = tt
end_is_kept a l event e (Some x) h = record {
  call = h.call;
  is_call = call_kept a l event e x.client x.call.0 h.call h.is_call;
  endings = h.endings;
  all = every_kept (λ (p : Part × Request). ending a x.client p.0) (λ (p : Part × Request). ending (extended a l event e) x.client p.0) (λ p y k. ending_kept a l event e x.client p.0 y k) (parts_named x.call.0 h.call) h.endings h.all;
  made = h.made;
  bytes = h.bytes;
}

took_kept : (a : Account) (l : ℕ) (event : Event) (e : Effect) (d : Did) → TookIs a d → TookIs (extended a l event e) d
took_kept a l event e (did.Took k c p) h = record {
  frame = h.frame;
  is_frame = frame_kept a l event e k h.frame h.is_frame;
  reply = h.reply;
  replies = h.replies;
  has = has_kept_all e.entries a.history c p h.reply h.has;
}
took_kept a l event e other h = tt

-- ---- a call that ends by the change of a part
ending_of_standing : (o : Option Ending) (s : Option (ℕ × ℕ)) (ms : List ℕ) → ending_of (standing o s ms) ≡ o
ending_of_standing (Some e) s ms = refl
ending_of_standing None None ms = refl
ending_of_standing None (Some (orig, first)) ms = refl

pub all_over_is : (a : Account) (c : ClientNo) (n : ℕ) (k : Call) → all_over (call_standing (standing_at a c) (n, k)) ≡ every (map (λ (p : Part × Request). ending a c p.0) (parts_named n k))
all_over_is a c n k = ap every
    (map_map (λ (p : ClientPart). ending_of p.standing) (standing_so (standing_at a c)) (parts_named n k)
    ∙ map_same (λ (p : Part × Request). ending_of (standing_at a c p.0)) (λ (p : Part × Request). ending a c p.0) (λ p. ending_of_standing (ending a c p.0) (first_sent a c p.0) (moments_sent a c p.0)) (parts_named n k))

-- a finished call of an account is one that ended
ended_is : (a : Account) (c : ClientNo) (n : ℕ) (k : Call) → call_at (issued a c) n ≡ Some k → (endings : List Ending) → all_over (call_standing (standing_at a c) (n, k)) ≡ Some endings
    → CallEnded a (told c (finished_with (call_standing (standing_at a c) (n, k)) endings))
ended_is a c n k at_number endings over = record {
  call = k;
  is_call = at_number;
  endings = endings;
  all = sym (all_over_is a c n k) ∙ over;
  made = combine_emptied k endings;
  bytes = counted_is (emptied k) endings ∙ ap (λ x. answer_bytes x endings) (combine_emptied k endings);
}

-- a call of the state finishes as one that ended, where it stands as the account says
abbrev EndsWell : Account → ClientNo → ClientCall → Type 0
EndsWell a c j = (f : Finished) → finished j ≡ Some f → CallEnded a (told c f)

ends_well : (a : Account) (c : ClientNo) (n : ℕ) (k : Call) → call_at (issued a c) n ≡ Some k → EndsWell a c (call_standing (standing_at a c) (n, k))
ends_well a c n k at_number f is = go (is_fence (emptied k)) is where
  go : (b : Bool) → cond b None (option_map (finished_with (call_standing (standing_at a c) (n, k))) (all_over (call_standing (standing_at a c) (n, k)))) ≡ Some f → CallEnded a (told c f)
  go true h = absurd (none_some h) where
    none_some : ◌≡◌ {A = Option Finished} None (Some f) → ⊥
    none_some e = grind arith
  go false h =
      let o = option_map_some (finished_with (call_standing (standing_at a c) (n, k))) (all_over (call_standing (standing_at a c) (n, k))) f h in
      subst (λ g. CallEnded a (told c g)) o.2 (ended_is a c n k at_number o.0 o.1)

-- the call that ends where one part changes as the line says
ended_by_change : (config : Config) (a : Account) (l : ℕ) (event : Event) (e : Effect) (c : ClientNo) (q : Part) (f : Standing → Standing)
    → ((p : Part) → standing_at (extended a l event e) c p ≡ cond (same_part p q) (f (standing_at a c p)) (standing_at a c p))
    → EndIs (extended a l event e) (end_told c (filter_map finished (map (call_changed q f) (client_at config a c).calls)))
ended_by_change config a l event e c q f changes = first (filter_map finished (map (call_changed q f) (client_at config a c).calls)) all_well where
  first : (fs : List Finished) → Each (λ (f : Finished). CallEnded (extended a l event e) (told c f)) fs → EndIs (extended a l event e) (end_told c fs)
  first [] h = tt
  first (f ∷ fs) h = h.0

  one_well : (k : ClientCall) → CallOf a c k → EndsWell (extended a l event e) c (call_changed q f k)
  one_well k of =
      subst (EndsWell (extended a l event e) c)
      (call_so (standing_at a c) (standing_at (extended a l event e) c) q f changes (k.number, of.call) ∙ ap (call_changed q f) (sym of.stands))
      (ends_well (extended a l event e) c k.number of.call (call_kept a l event e c k.number of.call of.is_call))

  all_well : Each (λ (f : Finished). CallEnded (extended a l event e) (told c f)) (filter_map finished (map (call_changed q f) (client_at config a c).calls))
  all_well =
      each_filter_map_from (λ (f : Finished). CallEnded (extended a l event e) (told c f)) (EndsWell (extended a l event e) c) finished (λ j f well is. well f is) (map (call_changed q f) (client_at config a c).calls)
      (each_map (EndsWell (extended a l event e) c) (call_changed q f) (client_at config a c).calls (each_weaker (CallOf a c) _ one_well (client_at config a c).calls (calls_are config a c)))

-- ---- one event
record AnswerFits (new : Account) (e : Effect) : Type 0 where
  took : Each (TookIs new) e.texts
  ended : EndIs new e.ended

abbrev AnswerFit : Account → ℕ → Event → Effect → Type 0
AnswerFit a l event e = AnswerFits (extended a l event e) e

answered_kept : (a : Account) (l : ℕ) (event : Event) (e : Effect) → Answered a → AnswerFit a l event e → Answered (extended a l event e)
answered_kept a l event e k f = record {
  took = each_append _ a.lines _ (each_weaker _ _ (λ line. each_weaker _ _ (took_kept a l event e) line.texts) a.lines k.took) (f.took, tt);
  ends = each_append _ a.lines _ (each_weaker _ _ (λ line. end_is_kept a l event e line.ended) a.lines k.ends) (f.ended, tt);
}

quiet_answers : (a : Account) (l : ℕ) (event : Event) (d : Did) → IsQuiet d → AnswerFit a l event (says d)
quiet_answers a l event d quiet = record { took = (none (extended a l event (says d)) d quiet, tt); ended = tt } where
  none : (b : Account) (d : Did) → IsQuiet d → TookIs b d
  none b (did.Took k c p) q = absurd q
  none b other q = tt

-- ---- a Fence
fence_is : (k : Call) → is_fence (emptied k) ≡ true → k ≡ call.Fence
fence_is (call.Alloc pages perm) f = grind arith
fence_is (call.Free addr pages) f = grind arith
fence_is (call.Read addr buf) f = grind arith
fence_is (call.Write addr bytes) f = grind arith
fence_is (call.Atomic addr op) f = grind arith
fence_is (call.Offload number op bytes buf) f = grind arith
fence_is call.Fence f = refl

fence_answers : (config : Config) (a : Account) (l : ℕ) (event : Event) (c : ClientNo) (k : ClientCall) → CallOf a c k → is_fence k.call ≡ true → AnswerFit a l event (on_polled a l (client_at config a c) (EndsFence k.number))
fence_answers config a l event c k of fence =
    let is : of.call ≡ call.Fence = fence_is of.call (subst (λ (j : ClientCall). is_fence j.call ≡ true) of.stands fence) in
    record {
      took = (tt, tt);
      ended = record {
        call = call.Fence;
        is_call = call_kept a l event (on_polled a l (client_at config a c) (EndsFence k.number)) c k.number call.Fence (of.is_call ∙ ap Some is);
        endings = [];
        all = refl;
        made = refl;
        bytes = refl;
      };
    }

-- ---- a delivery
pub no_end : (keep : List Entry → List Entry) (config : Config) (l k : ℕ) (items : List Carried) (b : Account) (q : ℕ) → (on_items keep config b l k q items).ended ≡ None
no_end keep config l k [] b q = refl
no_end keep config l k (i ∷ is) b q = no_end keep config l k is (joined_by b (on_item keep config b l k q i)) (q + 1)

-- the part that was taken has its entry, with this reply
taken_has : (config : Config) (a : Account) (head : Head) (reply : Reply) (if_taken : List Entry) (f : Sending) → (w : ReplyStands config a a.history (Answers head reply if_taken)) → w.0 ≡ f.part
    → (l : ℕ) (event : Event) (k : ℕ) → HasEntry (extended a l event (on_flight (client_at config a head.client) k head reply if_taken (Some f))).history head.client f.part reply
taken_has config a head reply [] f w part l event k = subst (λ p. HasEntry a.history head.client p reply) part w.3.1
taken_has config a head reply (e ∷ es) f w part l event k =
    let is : IsEntry head.client w.0 reply e = w.3.1 in
    subst (λ z. HasEntry (extended a l event (on_flight (client_at config a head.client) k head reply (e ∷ z) (Some f))).history head.client f.part reply) (sym w.3.2)
    (subst (λ c. HasEntry (with_entry e a.history) c f.part reply) is.client
    (subst (λ p. HasEntry (with_entry e a.history) e.client p reply) (is.part ∙ part)
    (subst (λ r. HasEntry (with_entry e a.history) e.client e.part r) is.reply_is (has_new e a.history))))

-- ---- the cases
answer_cases : (config : Config) (a : Account) (l : ℕ) → PartsOnce config a → ((c : ClientNo) → Followed a c) → Cases keep_all config a l (AnswerFit a l)
answer_cases config a l o h = record {
  quiet = λ event d no_peek quiet. quiet_answers a l event d quiet;
  peeks = λ pid addr n. peek_is_quiet (AnswerFit a l (event.Peek pid addr n)) (λ d quiet. quiet_answers a l (event.Peek pid addr n) d quiet) (memory_at config a.history l 0) pid addr n;
  issues = λ c text none. record { took = (tt, tt); ended = tt };
  gives_up = λ c f of old. record {
    took = (tt, tt);
    ended = ended_by_change config a l (event.Poll c) (on_polled a l (client_at config a c) (GivesUp f)) c f.part (given_up (now a l))
        (λ p. standing_given_up a l (event.Poll c) (on_polled a l (client_at config a c) (GivesUp f)) c p f.part (h c).premises.told refl);
  };
  ends_fence = λ c k rest is fence.
      let all : Each (CallOf a c) (k ∷ rest) = subst (λ z. Each (CallOf a c) z) is (calls_are config a c) in fence_answers config a l (event.Poll c) c k all.0 fence;
  sends_again = λ c f of due. record { took = (tt, tt); ended = tt };
  sends = λ c p of. record { took = (tt, tt); ended = tt };
  items = λ event k frame items delivers given. record {
    took = items_texts (TookIs (extended a l event (on_items keep_all config a l k 0 items))) ((λ f c p how status reply. tt), (λ f c p oldest at. tt)) keep_all config l k items a 0;
    ended = subst (EndIs (extended a l event (on_items keep_all config a l k 0 items))) (sym (no_end keep_all config l k items a 0)) tt;
  };
  takes = λ event k frame head reply if_taken f delivers given of orig.
      let w : ReplyStands config a a.history (Answers head reply if_taken) = subst (ReplyStands config a a.history) given.carries (frame_at_each (λ (f : Frame). ReplyStands config a a.history f.load) a k frame o.answers given.is_frame) in
      record {
        took = (
          record {
            frame = frame;
            is_frame = frame_kept a l event (on_flight (client_at config a head.client) k head reply if_taken (Some f)) k frame given.is_frame;
            reply = reply;
            replies = ap replied given.carries;
            has = taken_has config a head reply if_taken f w (part_by_orig config a head reply if_taken f o.ids w of orig) l event k;
          },
          tt,
        );
        ended = ended_by_change config a l event (on_flight (client_at config a head.client) k head reply if_taken (Some f)) head.client f.part (answered reply)
            (λ p. standing_answered a l event (on_flight (client_at config a head.client) k head reply if_taken (Some f)) head.client p f.part k frame reply (h head.client).premises.told refl given.is_frame (ap replied given.carries));
      };
}

-- ---- the induction
pub record WithAnswers (config : Config) (a : Account) (l : ℕ) : Type 0 where
  pub base : Base config a l
  pub answered_so : Answered a

pub answered_of_account : (config : Config) (events : List (ℕ × Event)) → IsRisingFrom 0 events → AreTyped events → WithAnswers config (account_from keep_all config nothing_yet events) (past 0 events)
answered_of_account config events rising typed =
    of_account keep_all config (WithAnswers config)
    (λ a l m le w. record { base = base_later config a l m le w.base; answered_so = w.answered_so })
    (λ a l e is w. record {
      base = base_next config a l e is w.base;
      answered_so = answered_kept a l e (effect keep_all config a l e) w.answered_so (effect_by keep_all config a l (AnswerFit a l) (answer_cases config a l w.base.once w.base.followed) e);
    })
    events rising typed (record { base = base_nothing config; answered_so = record { took = tt; ends = tt } })

-- ---- the law
record_unique : (h : List Entry) (c : ClientNo) (p : Part) (reply : Reply) → AreDistinct h → HasEntry h c p reply → reply_in_history h c p ≡ Some (Replied reply)
record_unique [] c p reply d k = absurd k
record_unique (x ∷ h) c p reply d (inl k) = go (same_client c x.client && same_part p x.part) (subst (λ z. (same_client c z && same_part p x.part) ≡ true) (sym k.client) (subst (λ z. (same_client c c && same_part p z) ≡ true) (sym k.part) (same_refl c p)))
  where
    go : (b : Bool) → b ≡ true → option_map (λ (e : Entry). Replied e.reply) (cond b (Some x) (record_of h c p)) ≡ Some (Replied reply)
    go true e = ap (λ z. Some (Replied z)) k.reply_is
    go false e = grind arith
record_unique (x ∷ h) c p reply d (inr k) = go (same_client c x.client && same_part p x.part) refl (record_unique h c p reply d.1 k)
  where
    never : (es : List Entry) → Each (Differ x) es → HasEntry es c p reply → c ≡ x.client → p ≡ x.part → ⊥
    never [] d k i j = k
    never (e ∷ es) d (inl k) i j = d.0 (sym i ∙ sym k.client) (sym j ∙ sym k.part)
    never (e ∷ es) d (inr k) i j = never es d.1 k i j

    go : (b : Bool) → (same_client c x.client && same_part p x.part) ≡ b → reply_in_history h c p ≡ Some (Replied reply) → option_map (λ (e : Entry). Replied e.reply) (cond b (Some x) (record_of h c p)) ≡ Some (Replied reply)
    go true e rec = let s = same_is c x.client p x.part e in absurd (never h d.0 k s.0 s.1)
    go false e rec = rec

-- what a taken part's reply is
abbrev FromFrame : Account → ClientNo → Part → PartEnd → Type 0
FromFrame a c p (TookFrame k) = TookFrom a k c p
FromFrame a c p (GaveUpAt t) = Unit {0}

text_from : (a : Account) (c : ClientNo) (p : Part) (t : ℕ) (d : Did) (x : PartEnd) → TookIs a d → part_end c p t d ≡ Some x → FromFrame a c p x
text_from a c p t (did.Took frame client part) x h e = go (same_client c client && same_part p part) refl e
  where
    go : (b : Bool) → (same_client c client && same_part p part) ≡ b → ◌≡◌ {A = Option PartEnd} (cond b (Some (TookFrame frame)) None) (Some x) → FromFrame a c p x
    go true s e = let same : TookFrame frame ≡ x = cc in let w = same_is c client p part s in
        subst (FromFrame a c p) same (subst (λ z. TookFrom a frame z p) (sym w.0) (subst (λ z. TookFrom a frame client z) (sym w.1) h))
    go false s e = grind arith
text_from a c p t (did.GaveUp client part) x h e = go (same_client c client && same_part p part) refl e
  where
    go : (b : Bool) → (same_client c client && same_part p part) ≡ b → ◌≡◌ {A = Option PartEnd} (cond b (Some (GaveUpAt t)) None) (Some x) → FromFrame a c p x
    go true s e = let same : GaveUpAt t ≡ x = cc in subst (FromFrame a c p) same tt
    go false s e = grind arith
text_from a c p t other x h e = grind arith

end_from : (a : Account) (c : ClientNo) (p : Part) (x : PartEnd) → Answered a → end_of_part a c p ≡ Some x → FromFrame a c p x
end_from a c p x k e =
    each_first (FromFrame a c p) (texts_with a (part_end c p)) x
    (each_flat_map (FromFrame a c p) (λ (line : Line). Each (TookIs a) line.texts) (texts_on (part_end c p))
    (λ line h. each_filter_map_from (FromFrame a c p) (TookIs a) (part_end c p line.moment) (λ d x g e. text_from a c p line.moment d x g e) line.texts h) a.lines k.took) e

reply_made : (a : Account) (c : ClientNo) (p : Part) (reply : Reply) → Answered a → AreDistinct a.history → ending a c p ≡ Some (Replied reply) → reply_in_history a.history c p ≡ Some (Replied reply)
reply_made a c p reply k d h =
    let x = and_then_some (ending_by a c p) (end_of_part a c p) (Replied reply) h in by x.0 (end_from a c p x.0 k x.1) x.2
  where
    by : (x : PartEnd) → FromFrame a c p x → ending_by a c p x ≡ Some (Replied reply) → reply_in_history a.history c p ≡ Some (Replied reply)
    by (TookFrame n) t e =
        let f = and_then_some (λ (f : Frame). replied f.load) (frame_at a n) (Replied reply) e in
        let here : frame_at a n ≡ Some f.0 = f.1 in
        let there : frame_at a n ≡ Some t.frame = t.is_frame in
        let same : f.0 ≡ t.frame = cc in
        let mine : replied t.frame.load ≡ Some (Replied reply) = subst (λ (z : Frame). replied z.load ≡ Some (Replied reply)) same f.2 in
        let its : replied t.frame.load ≡ Some (Replied t.reply) = t.replies in
        let is : t.reply ≡ reply = cc in
        record_unique a.history c p reply d (subst (HasEntry a.history c p) is t.has)
    by (GaveUpAt m) t e = let s = option_map_some (λ (first : ℕ × ℕ). GivenUp first.1 m) (first_sent a c p) (Replied reply) e in absurd (differ s.0.1 m reply s.2)
      where
        differ : (i m : ℕ) (reply : Reply) → GivenUp i m ≡ Replied reply → ⊥
        differ i m reply e = cc

-- where no part was given up, all are replied
abbrev IsReplied : Ending → Type 0
IsReplied (Replied reply) = Unit {0}
IsReplied (GivenUp first at) = ⊥

all_replied : (endings : List Ending) → first_given_up endings ≡ None → Each IsReplied endings
all_replied [] h = tt
all_replied (Replied reply ∷ endings) h = (tt, all_replied endings h)
all_replied (GivenUp f t ∷ endings) h = grind arith

timed_out : (k : Call) (endings : List Ending) (f t : ℕ) → first_given_up endings ≡ Some (answer.TimedOut f t) → combine k endings ≡ answer.TimedOut f t
timed_out k endings f t e = rw (e, combine) refl

every_replied : {X : Type 0} (f g : X → Option Ending) → ((x : X) (reply : Reply) → f x ≡ Some (Replied reply) → g x ≡ Some (Replied reply)) → (xs : List X) (ys : List Ending) → every (map f xs) ≡ Some ys → Each IsReplied ys → every (map g xs) ≡ Some ys
every_replied f g k [] ys h r = h
every_replied f g k (x ∷ xs) ys h r = go (f x) refl (every_replied f g k xs) h
  where
    one : (y : Ending) → IsReplied y → f x ≡ Some y → g x ≡ Some y
    one (Replied reply) t e = k x reply e
    one (GivenUp i j) t e = absurd t

    go : (o : Option Ending) → f x ≡ o → ((zs : List Ending) → every (map f xs) ≡ Some zs → Each IsReplied zs → every (map g xs) ≡ Some zs) → every (o ∷ map f xs) ≡ Some ys → every (g x ∷ map g xs) ≡ Some ys
    go None e rec h = grind arith
    go (Some y) e rec h =
        let z = option_map_some (λ (zs : List Ending). y ∷ zs) (every (map f xs)) ys h in
        let s : Each IsReplied (y ∷ z.0) = subst (Each IsReplied) (sym z.2) r in
        ap (λ o. every (o ∷ map g xs)) (one y s.0 e) ∙ ap (option_map (λ (zs : List Ending). y ∷ zs)) (rec z.0 z.1 s.1) ∙ ap Some z.2

end_stands : (a : Account) (o : Option EndedCall) → Answered a → AreDistinct a.history → EndIs a o → EndStands a o
end_stands a None k d h = tt
end_stands a (Some x) k d h = ⊎_elim
    (λ (none : first_given_up h.endings ≡ None). inr (record {
      call = h.call;
      is_call = h.is_call;
      endings = h.endings;
      all = every_replied (λ (p : Part × Request). ending a x.client p.0) (λ (p : Part × Request). reply_in_history a.history x.client p.0) (λ p reply e. reply_made a x.client p.0 reply k d e) (parts_named x.call.0 h.call) h.endings h.all (all_replied h.endings none);
      made = h.made;
      bytes = h.bytes;
    }))
    (λ (r : (f : ℕ) × (t : ℕ) × (first_given_up h.endings ≡ Some (answer.TimedOut f t))). inl (subst IsTimedOut (sym (h.made ∙ timed_out h.call h.endings r.0 r.1 r.2)) tt))
    (given_cases h.endings)

pub law_of_parts : LawOfParts
law_of_parts config events rising typed =
    let w : WithAnswers config (account config events) (past 0 events) = answered_of_account config events rising typed in
    record {
      own = each_weaker _ _ (λ e k. record { request = k.owned.request; process = k.owned.process }) (account config events).history w.base.once.entries;
      distinct = w.base.once.distinct;
      answers = each_weaker _ _ (λ (line : Line). end_stands (account config events) line.ended w.answered_so w.base.once.distinct) (account config events).lines w.answered_so.ends;
    }
