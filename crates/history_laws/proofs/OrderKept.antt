-- Each event keeps dependent calls in order of issue.
use Rattle.std.proofs.Common.{◌≡◌, ℕ, ◌+◌, ◌-◌, ◌<◌, ◌≤◌, List, [], ◌∷◌, ◌++◌, refl, sym, ap, ◌∙◌, subst, Bool, true, false, cond, arith, Some, None, Option, inl, inr}
use Rattle.std.specs.Prelude.{is_some, ◌&&◌}
use Rattle.std.specs.List.{AllByRecursion as Each}
use Rattle.std.proofs.lemmas.Bool.Decides.{nat_tests}
use Rattle.cl_types.specs.Requests.{is_changing}
use Rattle.cl_types.specs.declared.config.Config.{Config}
use Rattle.cl_types.specs.declared.limits.TheConstants.{LAST_RESEND, SPAN}
use Rattle.cl_types.specs.declared.frame.Head.{Head}
use Rattle.cl_types.specs.declared.numbers.ClientNo.{ClientNo}
use Rattle.cl_types.specs.declared.request.Request.{Request}
use Rattle.cl_types.specs.declared.reply.Part.{Part}
use Rattle.cl_types.specs.declared.reply.Reply.{Reply}
use Rattle.cl_types.specs.declared.line.Did.{Did}
use Rattle.cl_types.specs.declared.line.Did.TheVariants as did
use Rattle.cl_types.specs.declared.line.Entry.{Entry}
use Rattle.cl_types.specs.declared.schedule.Event.{Event}
use Rattle.cl_types.specs.declared.schedule.Event.TheVariants as event
use Rattle.cl_types.specs.Parts.{same_part}
use Rattle.cl_types.specs.Times.{is_live}
use Rattle.flat_model.specs.State.{FlatState}
use Rattle.trace.specs.Account.{Account, Line, Frame, Carried, Load, Asks, Answers, Effect, says, joined_by, extended, now, frame_at, is_before, with_entry, with_entries, items_of, if_taken_of, memory_at, recorded, next_frame_number, nothing_yet}
use Rattle.client_model.specs.Client.{Sending, GivesUp, EndsFence, Sends, again, anew, next_id}
use Rattle.cl_types.specs.Parts.{same_client}
use Rattle.trace.specs.Clients.{first_sent, request_of_part, part_end, PartEnd, TookFrame, GaveUpAt, end_of_part, texts_with, texts_on, client_at}
use Rattle.node_model.specs.Handling.{Handling, Repeats, RefusesForNow, Executes, Looks, item_outcome}
use Rattle.trace.specs.Properties.{Differ, AreDistinct, Precedes}
use Rattle.trace.specs.Events.{entry_of, handled, item_handling, on_judged, on_polled, on_flight, on_item, on_items, effect, account, account_from, keep_all}
use Rattle.client_laws.specs.Flights.{FlightOf}
use Rattle.history_laws.specs.Histories.{LawOfOrder}
use Rattle.trace_laws.specs.Times.{clock}
use Rattle.trace.specs.Schedules.{IsRisingFrom, AreTyped}
use Rattle.lemmas.proofs.Lists.{each_append, each_weaker, each_weaker_with, each_always, each_flat_map, each_filter_map_from, none_some}
use Rattle.client_laws.proofs.Entries.{each_first, each_with_entries}
use Rattle.lemmas.proofs.SameParts.{contrary, same_is}
use Rattle.trace_laws.proofs.Moments.{now_clock}
use Rattle.client_laws.proofs.Items.{Tells, handling_tells, items_texts}
use Rattle.client_laws.proofs.Cases.{IsQuiet, IsGiven, Cases, peek_is_quiet, effect_by}
use Rattle.trace_laws.proofs.TimesKept.{SentYoung, OldAt, GivesUpOld, Times, first_same, frame_at_each}
use Rattle.trace_laws.proofs.Ran.{InRange, Ran}
use Rattle.trace_laws.proofs.RunKept.{item_runs, joined_twice}
use Rattle.trace_laws.proofs.PartsOnce.{is_over, ItemOwned, EntryOwned, IsEntry, HasEntry, ReplyStands, PartsOnce}
use Rattle.trace_laws.proofs.Parts.{request_kept, not_over, NotSent, quiet_not_sent}
use Rattle.trace_laws.proofs.OnceKept.{ItemsOnce, item_once, items_once, has_kept_all, unrecorded, part_by_orig, Base, base_later, base_next, base_nothing}
use Rattle.history_laws.proofs.Settled.{Settled, depends_before, settled_quiet, settled_sent}
use Rattle.trace_laws.proofs.Induction.{past, of_account}
use Rattle.trace.proofs.HistoryLemmas.{each_with_entry}

-- ---- what each account keeps
-- a reply was taken: a changing part has its entry
pub record TookOf (a : Account) (c : ClientNo) (p : Part) : Type 0 where
  pub request : Request
  pub its : request_of_part a c p ≡ Some request
  pub entered : is_changing request ≡ true → (reply : Reply) × HasEntry a.history c p reply

abbrev pub TakesOf : Account → Did → Type 0
TakesOf a (did.Took frame c p) = TookOf a c p
TakesOf a other = Unit {0}

-- an entry that a look left is in order with all entries of the history already, so taking it is nothing new
pub record InOrder (a : Account) : Type 0 where
  pub settled : Settled a
  pub takes : Each (λ (line : Line). Each (TakesOf a) line.texts) a.lines
  pub pairs : Each (λ (e : Entry). Each (Precedes a e) a.history) a.history
  pub waiting : Each (λ (e : Entry). Each (λ (f : Frame). Each (Precedes a e) (if_taken_of f.load)) a.frames) a.history

-- ---- how a part ended
abbrev EndOk : Account → ClientNo → Part → PartEnd → Type 0
EndOk a c p (TookFrame k) = TookOf a c p
EndOk a c p (GaveUpAt t) = OldAt a t c p × (t ≤ clock a)

text_ok : (a : Account) (c : ClientNo) (p : Part) (t : ℕ) (d : Did) (x : PartEnd) → t ≤ clock a → GivesUpOld a t d × TakesOf a d → part_end c p t d ≡ Some x → EndOk a c p x
text_ok a c p t (did.Took frame client part) x low h e = go (same_client c client && same_part p part) refl e
  where
    go : (b : Bool) → (same_client c client && same_part p part) ≡ b → ◌≡◌ {A = Option PartEnd} (cond b (Some (TookFrame frame)) None) (Some x) → EndOk a c p x
    go true s e = let same : TookFrame frame ≡ x = cc in let w = same_is c client p part s in
        subst (EndOk a c p) same (subst (λ z. TookOf a z p) (sym w.0) (subst (λ z. TookOf a client z) (sym w.1) h.1))
    go false s e = grind arith
text_ok a c p t (did.GaveUp client part) x low h e = go (same_client c client && same_part p part) refl e
  where
    go : (b : Bool) → (same_client c client && same_part p part) ≡ b → ◌≡◌ {A = Option PartEnd} (cond b (Some (GaveUpAt t)) None) (Some x) → EndOk a c p x
    go true s e = let same : GaveUpAt t ≡ x = cc in let w = same_is c client p part s in
        subst (EndOk a c p) same (subst (λ z. OldAt a t z p) (sym w.0) (subst (λ z. OldAt a t client z) (sym w.1) h.0), low)
    go false s e = grind arith
text_ok a c p t other x low h e = grind arith

record LineOk (a : Account) (line : Line) : Type 0 where
  low : line.moment ≤ clock a
  old : Each (GivesUpOld a line.moment) line.texts
  takes : Each (TakesOf a) line.texts

end_ok : (a : Account) (l : ℕ) (c : ClientNo) (p : Part) (x : PartEnd) → Times a l → Each (λ (line : Line). Each (TakesOf a) line.texts) a.lines → end_of_part a c p ≡ Some x → EndOk a c p x
end_ok a l c p x t k e =
    each_first (EndOk a c p) (texts_with a (part_end c p)) x
    (each_flat_map (EndOk a c p) (LineOk a) (texts_on (part_end c p))
    (λ line h. each_filter_map_from (EndOk a c p) (λ (d : Did). GivesUpOld a line.moment d × TakesOf a d) (part_end c p line.moment) (λ d x g e. text_ok a c p line.moment d x h.low g e) line.texts
    (each_weaker_with _ _ _ (λ d g h. (g, h)) line.texts h.old h.takes))
    a.lines
    (each_weaker_with (λ (line : Line). (line.moment ≤ clock a) × Each (GivesUpOld a line.moment) line.texts) (λ (line : Line). Each (TakesOf a) line.texts) (LineOk a) (λ line g h. record { low = g.0; old = g.1; takes = h }) a.lines
    (each_weaker_with (λ (line : Line). line.moment ≤ clock a) (λ (line : Line). Each (GivesUpOld a line.moment) line.texts) _ (λ line g h. (g, h)) a.lines t.moments t.old) k))
    e

-- ---- a changing part with no entry, whose frame is live, isn't over
pub has_none : (e : Entry) (h : List Entry) (c : ClientNo) (p : Part) (reply : Reply) → e.client ≡ c → e.part ≡ p → Each (Differ e) h → HasEntry h c p reply → ⊥
has_none e [] c p reply j k d m = m
has_none e (x ∷ h) c p reply j k d (inl m) = d.0 (j ∙ sym m.client) (k ∙ sym m.part)
has_none e (x ∷ h) c p reply j k d (inr m) = has_none e h c p reply j k d.1 m

live_open : (config : Config) (a : Account) (l q : ℕ) (f : Frame) (i : Carried) (reply : Reply) (h : List Entry) → Times a l → Each (λ (line : Line). Each (TakesOf a) line.texts) a.lines →
    SentYoung a f i → is_live (now a l) f.moment ≡ true → ItemOwned config a i → is_changing i.item.request ≡ true →
    ((reply : Reply) → HasEntry a.history i.item.head.client i.part reply → HasEntry h i.item.head.client i.part reply) → Each (Differ (entry_of l q i reply)) h → is_over a i.item.head.client i.part ≡ false
live_open config a l q f i reply h t k y live own changing more differ = go (end_of_part a i.item.head.client i.part) refl
  where
    never : (x : PartEnd) → EndOk a i.item.head.client i.part x → ⊥
    never (TookFrame k) e =
        let mine : request_of_part a i.item.head.client i.part ≡ Some i.item.request = own.request in
        let its : request_of_part a i.item.head.client i.part ≡ Some e.request = e.its in
        let same : i.item.request ≡ e.request = cc in
        let has = e.entered (subst (λ z. is_changing z ≡ true) same changing) in
        has_none (entry_of l q i reply) h i.item.head.client i.part has.0 refl refl differ (more has.0 has.1)
    never (GaveUpAt m) e =
        let same : e.0.first ≡ y.first = first_same a i.item.head.client i.item.head.client i.part i.part e.0.first y.first refl refl e.0.sent y.sent in
        let old : e.0.first + SPAN ≤ m = e.0.age in
        let low : m ≤ clock a = e.1 in
        let young : f.moment ≤ y.first + LAST_RESEND = y.age in
        let n : now a l - f.moment < 100 = grind (arith, nat_tests) in
        let c : now a l ≡ clock a = now_clock a l t.rising in
        omega arith

    go : (o : Option PartEnd) → end_of_part a i.item.head.client i.part ≡ o → is_some o ≡ false
    go None e = refl
    go (Some x) e = absurd (never x (end_ok a l i.item.head.client i.part x t k e))

-- ---- pairs of entries, and of an entry with one that waits
pub record Pairs (a : Account) (h : List Entry) (frames : List Frame) : Type 0 where
  pub pairs : Each (λ (e : Entry). Each (Precedes a e) h) h
  pub waiting : Each (λ (e : Entry). Each (λ (f : Frame). Each (Precedes a e) (if_taken_of f.load)) frames) h

-- of a part that isn't over no later dependent part was sent
pub nothing_after : (config : Config) (a : Account) (n : Entry) (r : Request) → Settled a → is_over a n.client n.part ≡ false → request_of_part a n.client n.part ≡ Some r → (x : Entry) → EntryOwned config a x → Precedes a n x
nothing_after config a n r t still own x k c d =
    let sent : first_sent a n.client x.part ≡ Some (k.orig, k.owned.moment) = subst (λ z. first_sent a z x.part ≡ Some (k.orig, k.owned.moment)) (sym c) k.owned.sent in
    let over : is_over a n.client n.part ≡ true = t.over n.client n.part x.part r (k.orig, k.owned.moment) d own sent in
    absurd (contrary (is_over a n.client n.part) over still)

pub pairs_more : (a : Account) (h : List Entry) (frames fs : List Frame) → Pairs a h frames → Each (λ (e : Entry). Each (λ (f : Frame). Each (Precedes a e) (if_taken_of f.load)) fs) h → Pairs a h (frames ++ fs)
pairs_more a h frames fs p m = record {
  pairs = p.pairs;
  waiting = each_weaker_with (λ (e : Entry). Each (λ (f : Frame). Each (Precedes a e) (if_taken_of f.load)) frames) (λ (e : Entry). Each (λ (f : Frame). Each (Precedes a e) (if_taken_of f.load)) fs) _
      (λ e w v. each_append _ frames fs w v) h p.waiting m;
}

pub pairs_new : (a : Account) (n : Entry) (h : List Entry) (frames : List Frame) → Pairs a h frames → Each (λ (e : Entry). Precedes a e n) h → Each (Precedes a n) h →
    Each (λ (f : Frame). Each (Precedes a n) (if_taken_of f.load)) frames → Pairs a (with_entry n h) frames
pairs_new a n h frames p before after waits = record {
  pairs = each_with_entry (λ (e : Entry). Each (Precedes a e) (with_entry n h)) n h
      (each_with_entry (Precedes a n) n h (λ c d. let less : n.part.call.0 < n.part.call.0 = d.earlier in absurd (omega arith)) after)
      (each_weaker_with (λ (e : Entry). Precedes a e n) (λ (e : Entry). Each (Precedes a e) h) _ (λ e one all. each_with_entry (Precedes a e) n h one all) h before p.pairs);
  waiting = each_with_entry (λ (e : Entry). Each (λ (f : Frame). Each (Precedes a e) (if_taken_of f.load)) frames) n h waits p.waiting;
}

-- ---- items
abbrev LooksOwned : Config → Account → List Frame → Type 0
LooksOwned config a frames = Each (λ (f : Frame). Each (EntryOwned config a) (if_taken_of f.load)) frames

-- what the items of a live frame need of the account before them
record Ready (a : Account) (l : ℕ) (f : Frame) : Type 0 where
  times : Times a l
  settled : Settled a
  takes : Each (λ (line : Line). Each (TakesOf a) line.texts) a.lines
  live : is_live (now a l) f.moment ≡ true

module _ (config : Config) (a : Account) (l : ℕ) (f : Frame) (ready : Ready a l f) where
  handled_ordered : (b : Account) (k q : ℕ) (i : Carried) (retry : ℕ) → SentYoung a f i → ItemOwned config a i
      → Each (EntryOwned config a) b.history → LooksOwned config a b.frames → Each (λ (x : Entry). is_before l q x ≡ true) b.history
      → ((c : ClientNo) (p : Part) (reply : Reply) → HasEntry a.history c p reply → HasEntry b.history c p reply) → Pairs a b.history b.frames
      → (s : FlatState) (h : Handling) → Tells (recorded b.history l q) retry b l i h
      → Pairs a (joined_by b (handled s b l k q i h)).history (joined_by b (handled s b l k q i h)).frames
  handled_ordered b k q i retry y w owned looks before more p s (Repeats reply) tells = pairs_more a b.history b.frames _ p (each_weaker _ _ (λ x h. (tt, tt)) b.history before)
  handled_ordered b k q i retry y w owned looks before more p s (RefusesForNow oldest) tells = pairs_more a b.history b.frames [] p (each_weaker _ _ (λ x h. tt) b.history before)
  handled_ordered b k q i retry y w owned looks before more p s Executes tells =
      pairs_more a (with_entry (entry_of l q i (item_outcome s i.item).reply) b.history) b.frames (handled s b l k q i Executes).frames (executed (item_outcome s i.item).reply)
      (each_with_entry _ (entry_of l q i (item_outcome s i.item).reply) b.history (tt, tt) (each_weaker _ _ (λ x h. (tt, tt)) b.history before))
    where
      executed : (reply : Reply) → Pairs a (with_entry (entry_of l q i reply) b.history) b.frames
      executed reply =
          let still : is_over a i.item.head.client i.part ≡ false =
          live_open config a l q f i reply b.history ready.times ready.takes y ready.live w tells.0 (λ reply h. more i.item.head.client i.part reply h) (unrecorded config a b.history l q i reply w owned before tells.0 tells.1) in
          pairs_new a (entry_of l q i reply) b.history b.frames p
          (each_weaker (λ (x : Entry). is_before l q x ≡ true) (λ (e : Entry). Precedes a e (entry_of l q i reply)) (λ e h c d. h) b.history before)
          (each_weaker (EntryOwned config a) (Precedes a (entry_of l q i reply)) (nothing_after config a (entry_of l q i reply) i.item.request ready.settled still w.request) b.history owned)
          (each_weaker _ _ (λ f. each_weaker (EntryOwned config a) (Precedes a (entry_of l q i reply)) (nothing_after config a (entry_of l q i reply) i.item.request ready.settled still w.request) (if_taken_of f.load)) b.frames looks)
  handled_ordered b k q i retry y w owned looks before more p s Looks tells =
      pairs_more a b.history b.frames (handled s b l k q i Looks).frames p (each_weaker (λ (x : Entry). is_before l q x ≡ true) _ (λ e h. (((λ c d. h), tt), tt)) b.history before)

  item_ordered : (b : Account) (k q : ℕ) (i : Carried) → SentYoung a f i → ItemOwned config a i
      → Each (EntryOwned config a) b.history → LooksOwned config a b.frames → Each (λ (x : Entry). is_before l q x ≡ true) b.history
      → ((c : ClientNo) (p : Part) (reply : Reply) → HasEntry a.history c p reply → HasEntry b.history c p reply) → Pairs a b.history b.frames
      → Pairs a (joined_by b (on_item keep_all config b l k q i)).history (joined_by b (on_item keep_all config b l k q i)).frames
  item_ordered b k q i y w owned looks before more p =
      handled_ordered b k q i config.node.retry y w owned looks before more p (memory_at config b.history l q) (item_handling (recorded b.history l q) config.node.retry b l i)
      (handling_tells (recorded b.history l q) config.node.retry b l i)

  items_ordered : (k : ℕ) (items : List Carried) (b : Account) (q : ℕ) → Each (SentYoung a f) items
      → Each (ItemOwned config a) items → Each (λ (i : Carried). InRange i.item.request) items
      → Each (EntryOwned config a) b.history → AreDistinct b.history → LooksOwned config a b.frames → Ran config b l q
      → ((c : ClientNo) (p : Part) (reply : Reply) → HasEntry a.history c p reply → HasEntry b.history c p reply) → Pairs a b.history b.frames
      → Pairs a (joined_by b (on_items keep_all config b l k q items)).history (joined_by b (on_items keep_all config b l k q items)).frames
  items_ordered k [] b q y w g owned distinct looks ran more p = pairs_more a b.history b.frames [] p (each_weaker _ _ (λ x h. tt) b.history ran.before)
  items_ordered k (i ∷ is) b q y w g owned distinct looks ran more p =
      let e : Effect = on_item keep_all config b l k q i in
      let c : Account = joined_by b (on_item keep_all config b l k q i) in
      let one : ItemsOnce config a b.history (on_item keep_all config b l k q i) = item_once config a b l k q i w.0 owned distinct ran.before in
      let rest =
      items_ordered k is (joined_by b (on_item keep_all config b l k q i)) (q + 1) y.1 w.1 g.1
      (each_with_entries (EntryOwned config a) (on_item keep_all config b l k q i).entries b.history one.entries owned) one.distinct
      (each_append _ b.frames (on_item keep_all config b l k q i).frames looks one.looks)
      (item_runs keep_all config b l k q i ran g.0)
      (λ c p reply h. has_kept_all (on_item keep_all config b l k q i).entries b.history c p reply (more c p reply h))
      (item_ordered b k q i y.0 w.0 owned looks ran.before more p) in
      subst (λ z. Pairs a z.history z.frames) (joined_twice b (on_item keep_all config b l k q i) (on_items keep_all config (joined_by b (on_item keep_all config b l k q i)) l k (q + 1) is)) rest

-- ---- one event
-- what is asked of an effect, over the account after it
record OrderFits (config : Config) (a new : Account) (e : Effect) : Type 0 where
  settled : Settled new
  took : Each (TakesOf new) e.texts
  pairs : Pairs a (with_entries e.entries a.history) (a.frames ++ e.frames)
  entries : Each (EntryOwned config a) e.entries
  looks : LooksOwned config a e.frames

abbrev OrderFit : Config → Account → ℕ → Event → Effect → Type 0
OrderFit config a l event e = OrderFits config a (extended a l event e) e

precedes_on : (config : Config) (a : Account) (l : ℕ) (event : Event) (e : Effect) (x y : Entry) → EntryOwned config a y → Precedes a x y → Precedes (extended a l event e) x y
precedes_on config a l event e x y k p c d =
    p c (depends_before a l event e x.client x.part y.part y.request (subst (λ z. request_of_part a z y.part ≡ Some y.request) (sym c) k.owned.request) d)

takes_on : (a : Account) (l : ℕ) (event : Event) (e : Effect) (d : Did) → TakesOf a d → TakesOf (extended a l event e) d
takes_on a l event e (did.Took frame c p) h = record {
  request = h.request;
  its = request_kept a l event e c p h.request h.its;
  entered = λ changing. let k = h.entered changing in (k.0, has_kept_all e.entries a.history c p k.0 k.1);
}
takes_on a l event e other h = tt

order_kept : (config : Config) (a : Account) (l : ℕ) (event : Event) (e : Effect) → PartsOnce config a → InOrder a → OrderFit config a l event e → InOrder (extended a l event e)
order_kept config a l event e o k f =
    let owned : Each (EntryOwned config a) (with_entries e.entries a.history) = each_with_entries (EntryOwned config a) e.entries a.history f.entries o.entries in
    let looks : LooksOwned config a (a.frames ++ e.frames) = each_append _ a.frames e.frames o.looks f.looks in
    record {
      settled = f.settled;
      takes = each_append _ a.lines _ (each_weaker _ _ (λ line. each_weaker _ _ (takes_on a l event e) line.texts) a.lines k.takes) (f.took, tt);
      pairs = each_weaker (λ (x : Entry). Each (Precedes a x) (with_entries e.entries a.history)) _
          (λ x h. each_weaker_with (EntryOwned config a) (Precedes a x) (Precedes (extended a l event e) x) (λ y m n. precedes_on config a l event e x y m n) (with_entries e.entries a.history) owned h)
          (with_entries e.entries a.history) f.pairs.pairs;
      waiting = each_weaker (λ (x : Entry). Each (λ (g : Frame). Each (Precedes a x) (if_taken_of g.load)) (a.frames ++ e.frames)) _
          (λ x h. each_weaker_with (λ (g : Frame). Each (EntryOwned config a) (if_taken_of g.load)) (λ (g : Frame). Each (Precedes a x) (if_taken_of g.load)) _
          (λ g m n. each_weaker_with (EntryOwned config a) (Precedes a x) (Precedes (extended a l event e) x) (λ y i j. precedes_on config a l event e x y i j) (if_taken_of g.load) m n) (a.frames ++ e.frames) looks h)
          (with_entries e.entries a.history) f.pairs.waiting;
    }

-- ---- effects with no entries and no looks
same_pairs : (a : Account) (frames : List Frame) → InOrder a → Each (λ (f : Frame). if_taken_of f.load ≡ []) frames → Pairs a a.history (a.frames ++ frames)
same_pairs a frames k none =
    pairs_more a a.history a.frames frames (record { pairs = k.pairs; waiting = k.waiting }) (each_always _ (λ e. each_weaker (λ (f : Frame). if_taken_of f.load ≡ []) _ (λ f is. rw is tt) frames none) a.history)

quiet_order : (config : Config) (a : Account) (l : ℕ) (event : Event) (d : Did) → InOrder a → IsQuiet d → OrderFit config a l event (says d)
quiet_order config a l event d k quiet = record { settled = settled_quiet a l event (says d) k.settled (quiet_not_sent d quiet, tt); took = (none (extended a l event (says d)) d quiet, tt); pairs = same_pairs a [] k tt; entries = tt; looks = tt } where
  none : (b : Account) (d : Did) → IsQuiet d → TakesOf b d
  none b (did.Took frame c p) q = absurd q
  none b other q = tt

-- ---- a delivery at the node
asks_order : (config : Config) (a : Account) (l : ℕ) (event : Event) (k : ℕ) (frame : Frame) (items : List Carried) → Base config a l → InOrder a → IsGiven a l k frame (Asks items) → OrderFit config a l event (on_items keep_all config a l k 0 items)
asks_order config a l event k frame items base n given =
    let young : Each (SentYoung a frame) items = subst (λ (x : Load). Each (SentYoung a frame) (items_of x)) given.carries (frame_at_each (λ (f : Frame). Each (SentYoung a f) (items_of f.load)) a k frame base.times.young given.is_frame) in
    let owned : Each (ItemOwned config a) items = subst (λ (x : Load). Each (ItemOwned config a) (items_of x)) given.carries (frame_at_each (λ (f : Frame). Each (ItemOwned config a) (items_of f.load)) a k frame base.once.items given.is_frame) in
    let in_range : Each (λ (i : Carried). InRange i.item.request) items = subst (λ (x : Load). Each (λ (i : Carried). InRange i.item.request) (items_of x)) given.carries
    (frame_at_each (λ (f : Frame). Each (λ (i : Carried). InRange i.item.request) (items_of f.load)) a k frame base.ran.items given.is_frame) in
    let x : ItemsOnce config a a.history (on_items keep_all config a l k 0 items) = items_once config a l k items a 0 owned base.once.entries base.once.distinct base.ran in_range in
    record {
      settled = settled_quiet a l event (on_items keep_all config a l k 0 items) n.settled (items_texts NotSent ((λ f c p how status reply. tt), (λ f c p oldest at. tt)) keep_all config l k items a 0);
      took = items_texts (TakesOf (extended a l event (on_items keep_all config a l k 0 items))) ((λ f c p how status reply. tt), (λ f c p oldest at. tt)) keep_all config l k items a 0;
      pairs = items_ordered config a l frame (record { times = base.times; settled = n.settled; takes = n.takes; live = given.live }) k items a 0 young owned in_range base.once.entries base.once.distinct base.once.looks base.ran
          (λ c p reply h. h) (record { pairs = n.pairs; waiting = n.waiting });
      entries = x.entries;
      looks = x.looks;
    }

-- ---- a reply at its client
-- a look's entry joins, of a part that is in flight
taken_pairs : (config : Config) (a : Account) (e : Entry) (c : ClientNo) (s : Sending) (k : ℕ) (f : Frame) → PartsOnce config a → InOrder a → is_over a c s.part ≡ false → e.client ≡ c → e.part ≡ s.part → EntryOwned config a e →
    frame_at a k ≡ Some f → (if_taken_of f.load ≡ e ∷ []) → Pairs a (with_entry e a.history) (a.frames ++ [])
taken_pairs config a e c s k f o n is_open ce pe own at_number is =
    pairs_more a (with_entry e a.history) a.frames []
    (pairs_new a e a.history a.frames (record { pairs = n.pairs; waiting = n.waiting })
    (each_weaker (λ (x : Entry). Each (λ (g : Frame). Each (Precedes a x) (if_taken_of g.load)) a.frames) (λ (x : Entry). Precedes a x e)
    (λ x h. let m : Each (Precedes a x) (if_taken_of f.load) = frame_at_each (λ (g : Frame). Each (Precedes a x) (if_taken_of g.load)) a k f h at_number in
    let m' : Each (Precedes a x) (e ∷ []) = subst (Each (Precedes a x)) is m in m'.0) a.history n.waiting)
    (each_weaker (EntryOwned config a) (Precedes a e) (nothing_after config a e e.request n.settled still own.owned.request) a.history o.entries)
    (each_weaker _ _ (λ g. each_weaker (EntryOwned config a) (Precedes a e) (nothing_after config a e e.request n.settled still own.owned.request) (if_taken_of g.load)) a.frames o.looks))
    (each_always _ (λ x. tt) (with_entry e a.history))
  where
    still : is_over a e.client e.part ≡ false
    still = subst (λ z. is_over a z e.part ≡ false) (sym ce) (subst (λ z. is_over a c z ≡ false) (sym pe) is_open)

taken_order : (config : Config) (a : Account) (l : ℕ) (event : Event) (k : ℕ) (f : Frame) (head : Head) (reply : Reply) (if_taken : List Entry) (s : Sending) → PartsOnce config a → InOrder a →
    ReplyStands config a a.history (Answers head reply if_taken) → Each (EntryOwned config a) if_taken → FlightOf a head.client s → is_over a head.client s.part ≡ false → s.orig ≡ head.orig →
    frame_at a k ≡ Some f → if_taken_of f.load ≡ if_taken → OrderFit config a l event (on_flight (client_at config a head.client) k head reply if_taken (Some s))
taken_order config a l event k f head reply [] s o n w g v is_open orig at_number is = record {
  settled = settled_quiet a l event (on_flight (client_at config a head.client) k head reply [] (Some s)) n.settled (tt, tt);
  took = (
    record {
      request = s.request;
      its = request_kept a l event (on_flight (client_at config a head.client) k head reply [] (Some s)) head.client s.part s.request v.request;
      entered = λ changing. (reply, subst (λ z. HasEntry a.history head.client z reply) (part_by_orig config a head reply [] s o.ids w v orig) w.3.1);
    },
    tt,
  );
  pairs = same_pairs a [] n tt;
  entries = tt;
  looks = tt;
}
taken_order config a l event k f head reply (e ∷ es) s o n w g v is_open orig at_number is =
    let part : w.0 ≡ s.part = part_by_orig config a head reply (e ∷ es) s o.ids w v orig in
    let is_e : IsEntry head.client w.0 reply e = w.3.1 in
    let mine : request_of_part a head.client s.part ≡ Some w.1 = subst (λ z. request_of_part a head.client z ≡ Some w.1) part w.2.request in
    let its : request_of_part a head.client s.part ≡ Some s.request = v.request in
    let request : w.1 ≡ s.request = cc in
    record {
      settled = settled_quiet a l event (on_flight (client_at config a head.client) k head reply (e ∷ es) (Some s)) n.settled (tt, tt);
      took = (
        record {
          request = s.request;
          its = request_kept a l event (on_flight (client_at config a head.client) k head reply (e ∷ es) (Some s)) head.client s.part s.request v.request;
          entered = λ changing. absurd (contrary (is_changing s.request) changing (subst (λ z. is_changing z ≡ false) request w.3.0));
        },
        tt,
      );
      pairs = subst (λ z. Pairs a (with_entries (e ∷ z) a.history) (a.frames ++ [])) (sym w.3.2)
          (taken_pairs config a e head.client s k f o n is_open is_e.client (is_e.part ∙ part) g.0 at_number (is ∙ ap (λ z. e ∷ z) w.3.2));
      entries = g;
      looks = tt;
    }

-- ---- the cases
order_cases : (config : Config) (a : Account) (l : ℕ) → Base config a l → InOrder a → Cases keep_all config a l (OrderFit config a l)
order_cases config a l base n = record {
  quiet = λ event d no_peek quiet. quiet_order config a l event d n quiet;
  peeks = λ pid addr len. peek_is_quiet (OrderFit config a l (event.Peek pid addr len)) (λ d quiet. quiet_order config a l (event.Peek pid addr len) d n quiet) (memory_at config a.history l 0) pid addr len;
  issues = λ c text none. record { settled = settled_quiet a l (event.Call c text) (on_judged (client_at config a c) None) n.settled (tt, tt); took = (tt, tt); pairs = same_pairs a [] n tt; entries = tt; looks = tt };
  gives_up = λ c f of old. record { settled = settled_quiet a l (event.Poll c) (on_polled a l (client_at config a c) (GivesUp f)) n.settled (tt, tt); took = (tt, tt); pairs = same_pairs a [] n tt; entries = tt; looks = tt };
  ends_fence = λ c k rest is fence. record { settled = settled_quiet a l (event.Poll c) (on_polled a l (client_at config a c) (EndsFence k.number)) n.settled (tt, tt); took = (tt, tt); pairs = same_pairs a [] n tt; entries = tt; looks = tt };
  sends_again = λ c f of due. record {
    settled = settled_quiet a l (event.Poll c) (on_polled a l (client_at config a c) (Sends (again (next_id (client_at config a c)) f ∷ []))) n.settled (tt, tt);
    took = (tt, tt);
    pairs = same_pairs a (on_polled a l (client_at config a c) (Sends (again (next_id (client_at config a c)) f ∷ []))).frames n (refl, tt);
    entries = tt;
    looks = (tt, tt);
  };
  sends = λ c p of. record {
    settled = settled_sent config a l (event.Poll c) (on_polled a l (client_at config a c) (Sends (anew (next_id (client_at config a c)) p ∷ []))) (next_frame_number a) c p (base.followed c) n.settled refl of;
    took = (tt, tt);
    pairs = same_pairs a (on_polled a l (client_at config a c) (Sends (anew (next_id (client_at config a c)) p ∷ []))).frames n (refl, tt);
    entries = tt;
    looks = (tt, tt);
  };
  items = λ event k frame items delivers given. asks_order config a l event k frame items base n given;
  takes = λ event k frame head reply if_taken f delivers given of orig. taken_order config a l event k frame head reply if_taken f base.once n
      (subst (ReplyStands config a a.history) given.carries (frame_at_each (λ (f : Frame). ReplyStands config a a.history f.load) a k frame base.once.answers given.is_frame))
      (subst (λ (x : Load). Each (EntryOwned config a) (if_taken_of x)) given.carries (frame_at_each (λ (f : Frame). Each (EntryOwned config a) (if_taken_of f.load)) a k frame base.once.looks given.is_frame))
      of (not_over a head.client f.part (base.followed head.client).premises.told of.is_open) orig given.is_frame (ap if_taken_of given.carries);
}

-- ---- the induction, and the law
record WithOrder (config : Config) (a : Account) (l : ℕ) : Type 0 where
  base : Base config a l
  order : InOrder a

ordered_of_account : (config : Config) (events : List (ℕ × Event)) → IsRisingFrom 0 events → AreTyped events → WithOrder config (account_from keep_all config nothing_yet events) (past 0 events)
ordered_of_account config events rising typed =
    of_account keep_all config (WithOrder config)
    (λ a l m le w. record { base = base_later config a l m le w.base; order = w.order })
    (λ a l e is w. record {
      base = base_next config a l e is w.base;
      order = order_kept config a l e (effect keep_all config a l e) w.base.once w.order (effect_by keep_all config a l (OrderFit config a l) (order_cases config a l w.base w.order) e);
    })
    events rising typed
    (record {
      base = base_nothing config;
      order = record { settled = record { issued_part = λ c q s h. absurd (none_some s h); over = λ c p q r s d own h. absurd (none_some s h) }; takes = tt; pairs = tt; waiting = tt };
    })

pub law_of_order : LawOfOrder
law_of_order config events rising typed =
    let w : WithOrder config (account config events) (past 0 events) = ordered_of_account config events rising typed in w.order.pairs
