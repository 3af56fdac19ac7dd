-- Each event keeps each entry at a delivery of its own frame.
use Rattle.std.proofs.Common.{◌≡◌, ℕ, zero, suc, ◌+◌, ◌<◌, List, [], ◌∷◌, ◌++◌, refl, sym, ap, ◌∙◌, subst, true, false, arith, Some, length, length-append}
use Rattle.std.specs.Prelude.{slice_get, Contains}
use Rattle.std.specs.List.{AllByRecursion as Each}
use Rattle.std.proofs.lemmas.List.Elements.{Contains-append_left, Contains-push}
use Rattle.cl_types.specs.Requests.{is_changing}
use Rattle.cl_types.specs.declared.config.Config.{Config}
use Rattle.cl_types.specs.declared.frame.Head.{Head}
use Rattle.cl_types.specs.declared.frame.How.{How}
use Rattle.cl_types.specs.declared.frame.How.TheVariants.{Executed, Looked}
use Rattle.cl_types.specs.declared.numbers.ClientNo.{ClientNo}
use Rattle.cl_types.specs.declared.request.Request.{Request}
use Rattle.cl_types.specs.declared.reply.Part.{Part}
use Rattle.cl_types.specs.declared.reply.Reply.{Reply}
use Rattle.cl_types.specs.declared.line.Did.{Did}
use Rattle.cl_types.specs.declared.line.Did.TheVariants as did
use Rattle.cl_types.specs.declared.line.Entry.{Entry}
use Rattle.cl_types.specs.declared.schedule.Event.{Event}
use Rattle.cl_types.specs.declared.schedule.Event.TheVariants as event
use Rattle.cl_types.specs.Times.{is_live}
use Rattle.flat_model.specs.State.{FlatState}
use Rattle.frame_model.specs.Frames.{status_in}
use Rattle.trace.specs.Account.{Account, Line, Frame, Carried, Load, Asks, Answers, Effect, says, joined_by, extended, frame_at, is_before, with_entries, items_of, if_taken_of, memory_at, recorded, entries_before, next_frame_number, nothing_yet}
use Rattle.client_model.specs.Client.{Sending}
use Rattle.trace.specs.Clients.{first_sent, request_of_part, client_at}
use Rattle.node_model.specs.Handling.{Handling, Repeats, RefusesForNow, Executes, Looks, item_outcome}
use Rattle.trace.specs.Properties.{is_delivery, CarriesPart, Handles, IsFirst, StandsAt, Differ, AreDistinct}
use Rattle.trace.specs.Events.{entry_of, handled, item_handling, on_flight, on_item, on_items, effect, account, account_from, keep_all}
use Rattle.history_laws.specs.Histories.{LawOfStands}
use Rattle.trace.specs.Schedules.{IsRisingFrom, AreTyped}
use Rattle.lemmas.proofs.Lists.{each_append, each_slice_get, each_weaker, each_weaker_with, none_some}
use Rattle.client_laws.proofs.Entries.{each_with_entries}
use Rattle.lemmas.proofs.SameParts.{contrary}
use Rattle.client_laws.proofs.Items.{Tells, handling_tells}
use Rattle.client_laws.proofs.Standings.{line_of, frame_kept, sent_kept}
use Rattle.client_laws.proofs.Cases.{IsQuiet, IsGiven, Cases, peek_is_quiet, effect_by}
use Rattle.trace_laws.proofs.TimesKept.{frame_at_each}
use Rattle.trace_laws.proofs.Places.{line_of_before}
use Rattle.trace_laws.proofs.Ran.{InRange, Ran}
use Rattle.trace_laws.proofs.RunKept.{item_runs, with_entries-append}
use Rattle.trace_laws.proofs.PartsOnce.{ItemOwned, EntryOwned, IsEntry, HasEntry, ReplyStands}
use Rattle.trace_laws.proofs.Parts.{request_kept}
use Rattle.trace_laws.proofs.OnceKept.{ItemsOnce, item_once, has_new, has_kept_all, has_filtered, found_has, unrecorded, part_by_orig, Base, base_later, base_next, base_nothing}
use Rattle.history_laws.proofs.OrderKept.{has_none}
use Rattle.trace_laws.proofs.Induction.{past, of_account}

-- ---- each of a list with its number
abbrev EachFrom : {X : Type 0} → (ℕ → X → Type 0) → ℕ → List X → Type 0
EachFrom P n [] = Unit {0}
EachFrom P n (x ∷ xs) = P n x × EachFrom P (n + 1) xs

each_from_append : {X : Type 0} (P : ℕ → X → Type 0) (n : ℕ) (xs ys : List X) → EachFrom P n xs → EachFrom P (length xs + n) ys → EachFrom P n (xs ++ ys)
each_from_append P n [] ys h k = subst (λ m. EachFrom P m ys) (let z : 0 + n ≡ n = omega arith in z) k
each_from_append P n (x ∷ xs) ys h k = (h.0, each_from_append P (n + 1) xs ys h.1 (subst (λ m. EachFrom P m ys) (let z : suc (length xs) + n ≡ length xs + (n + 1) = omega arith in z) k))

each_from_weaker : {X : Type 0} (P Q : ℕ → X → Type 0) → ((n : ℕ) (x : X) → P n x → Q n x) → (n : ℕ) (xs : List X) → EachFrom P n xs → EachFrom Q n xs
each_from_weaker P Q f n [] h = tt
each_from_weaker P Q f n (x ∷ xs) h = (f n x h.0, each_from_weaker P Q f (n + 1) xs h.1)

each_from_get : {X : Type 0} (P : ℕ → X → Type 0) (n : ℕ) (xs : List X) (i : ℕ) (x : X) → EachFrom P n xs → slice_get xs i ≡ Some x → P (i + n) x
each_from_get P n [] i x h e = absurd (none_some x e)
each_from_get {X} P n (y ∷ xs) zero x h e = let same : y ≡ x = cc in subst (λ m. P m x) (let z : n ≡ 0 + n = omega arith in z) (subst (P n) same h.0)
each_from_get P n (y ∷ xs) (suc i) x h e = subst (λ m. P m x) (let z : i + (n + 1) ≡ suc i + n = omega arith in z) (each_from_get P (n + 1) xs i x h.1 e)

-- ---- what each account keeps
-- the entry stands at a delivery of a live frame that carries its part at its position, handled so with this reply frame
record PlacedAt (a : Account) (e : Entry) (how : How) (reply_frame : ℕ) : Type 0 where
  line : Line
  there : Contains a.lines line
  number : line.number ≡ e.line
  delivers : is_delivery line.event ≡ true
  frame_number : ℕ
  frame : Frame
  is_frame : frame_at a frame_number ≡ Some frame
  live : is_live line.moment frame.moment ≡ true
  item : Carried
  at_position : slice_get (items_of frame.load) e.position ≡ Some item
  carries : CarriesPart e.client e.part item
  request : item.item.request ≡ e.request
  process : item.item.head.pid ≡ e.pid
  first_moment : ℕ
  first : first_sent a e.client e.part ≡ Some (item.item.head.orig, first_moment)
  text : slice_get line.texts e.position ≡ Some (did.Handled frame_number e.client e.part how (status_in e.reply) reply_frame)

-- an entry that a look left, in the frame of this number
record Waits (a : Account) (n : ℕ) (e : Entry) : Type 0 where
  placed : PlacedAt a e Looked n
  reading : is_changing e.request ≡ false

-- a part that was handled is of an issued call, and where it changes has an entry among these
record HandledOf (a : Account) (h : List Entry) (c : ClientNo) (p : Part) : Type 0 where
  request : Request
  its : request_of_part a c p ≡ Some request
  entered : is_changing request ≡ true → (reply : Reply) × HasEntry h c p reply

abbrev HandledIn : Account → List Entry → Did → Type 0
HandledIn a h (did.Handled frame c p how status reply) = HandledOf a h c p
HandledIn a h other = Unit {0}

record AllStand (a : Account) : Type 0 where
  stands : Each (StandsAt a) a.history
  waits : EachFrom (λ n (f : Frame). Each (Waits a n) (if_taken_of f.load)) 1 a.frames
  handled_so : Each (λ (line : Line). Each (HandledIn a a.history) line.texts) a.lines

-- ---- what stays
placed_kept : (a : Account) (l : ℕ) (event : Event) (e : Effect) (x : Entry) (how : How) (n : ℕ) → PlacedAt a x how n → PlacedAt (extended a l event e) x how n
placed_kept a l event e x how n h = record {
  line = h.line;
  there = Contains-append_left a.lines (line_of a l event e ∷ []) h.line h.there;
  number = h.number;
  delivers = h.delivers;
  frame_number = h.frame_number;
  frame = h.frame;
  is_frame = frame_kept a l event e h.frame_number h.frame h.is_frame;
  live = h.live;
  item = h.item;
  at_position = h.at_position;
  carries = h.carries;
  request = h.request;
  process = h.process;
  first_moment = h.first_moment;
  first = sent_kept a l event e x.client x.part (h.item.item.head.orig, h.first_moment) h.first;
  text = h.text;
}

-- a line that follows is no earlier one
first_kept : (a : Account) (l : ℕ) (event : Event) (e : Effect) (line : Line) (c : ClientNo) (p : Part) → line.number < l → IsFirst a line c p → IsFirst (extended a l event e) line c p
first_kept a l event e line c p low h = each_append _ a.lines (line_of a l event e ∷ []) h ((λ earlier. absurd (omega arith)), tt)

stands_kept : (a : Account) (l : ℕ) (event : Event) (e : Effect) (x : Entry) → x.line < l → StandsAt a x → StandsAt (extended a l event e) x
stands_kept a l event e x low h = record {
  line = h.line;
  there = Contains-append_left a.lines (line_of a l event e ∷ []) h.line h.there;
  number = h.number;
  delivers = h.delivers;
  frame_number = h.frame_number;
  frame = h.frame;
  is_frame = frame_kept a l event e h.frame_number h.frame h.is_frame;
  live = h.live;
  item = h.item;
  at_position = h.at_position;
  carries = h.carries;
  request = h.request;
  process = h.process;
  first_moment = h.first_moment;
  first = sent_kept a l event e x.client x.part (h.item.item.head.orig, h.first_moment) h.first;
  how = h.how;
  reply_frame = h.reply_frame;
  text = h.text;
  changing = λ c. let k = h.changing c in (k.0, first_kept a l event e h.line x.client x.part (let n : h.line.number ≡ x.line = h.number in omega arith) k.1);
  reading = λ r. let k = h.reading r in (k.0, (k.1.0, Contains-append_left a.lines (line_of a l event e ∷ []) k.1.0 k.1.1, k.1.2));
}

handled_kept : (a : Account) (l : ℕ) (event : Event) (e : Effect) (es h : List Entry) (d : Did) → HandledIn a h d → HandledIn (extended a l event e) (with_entries es h) d
handled_kept a l event e es h (did.Handled frame c p how status reply) k = record {
  request = k.request;
  its = request_kept a l event e c p k.request k.its;
  entered = λ changing. let m = k.entered changing in (m.0, has_kept_all es h c p m.0 m.1);
}
handled_kept a l event e es h other k = tt

-- ---- one event
-- what is asked of an effect, over the account after it
record StandsFits (a : Account) (new : Account) (e : Effect) : Type 0 where
  stands : Each (StandsAt new) e.entries
  waits : EachFrom (λ n (f : Frame). Each (Waits new n) (if_taken_of f.load)) (next_frame_number a) e.frames
  handled_so : Each (HandledIn new (with_entries e.entries a.history)) e.texts

abbrev StandsFit : Account → ℕ → Event → Effect → Type 0
StandsFit a l event e = StandsFits a (extended a l event e) e

all_kept : (config : Config) (a : Account) (l : ℕ) (event : Event) (e : Effect) → Ran config a l 0 → AllStand a → StandsFit a l event e → AllStand (extended a l event e)
all_kept config a l event e ran k f = record {
  stands = each_with_entries (StandsAt (extended a l event e)) e.entries a.history f.stands
      (each_weaker_with (λ (x : Entry). is_before l 0 x ≡ true) (StandsAt a) (StandsAt (extended a l event e)) (λ x before h. stands_kept a l event e x (line_of_before l x before) h) a.history ran.before k.stands);
  waits = each_from_append _ 1 a.frames e.frames
      (each_from_weaker _ _ (λ n g. each_weaker (Waits a n) (Waits (extended a l event e) n) (λ x h. record { placed = placed_kept a l event e x Looked n h.placed; reading = h.reading }) (if_taken_of g.load)) 1 a.frames k.waits)
      f.waits;
  handled_so = each_append _ a.lines _ (each_weaker _ _ (λ line. each_weaker _ _ (handled_kept a l event e e.entries a.history) line.texts) a.lines k.handled_so) (f.handled_so, tt);
}

quiet_stands : (a : Account) (l : ℕ) (event : Event) (d : Did) → IsQuiet d → StandsFit a l event (says d)
quiet_stands a l event d quiet = record { stands = tt; waits = tt; handled_so = (none (extended a l event (says d)) a.history d quiet, tt) } where
  none : (b : Account) (h : List Entry) (d : Did) → IsQuiet d → HandledIn b h d
  none b h (did.Handled frame c p how status reply) q = absurd q
  none b h other q = tt

-- ---- the items of a frame
-- the entry is of the item so many places behind, which the text there tells as handled so
record PlaceOf (k l q : ℕ) (items : List Carried) (texts : List Did) (how : How) (n : ℕ) (x : Entry) : Type 0 where
  line : x.line ≡ l
  place : ℕ
  position : x.position ≡ q + place
  item : Carried
  at_place : slice_get items place ≡ Some item
  carries : CarriesPart x.client x.part item
  request : item.item.request ≡ x.request
  process : item.item.head.pid ≡ x.pid
  text : slice_get texts place ≡ Some (did.Handled k x.client x.part how (status_in x.reply) n)

-- no line so far handled the part
abbrev NoneEarlier : Account → ClientNo → Part → Type 0
NoneEarlier a c p = Each (λ (line : Line). Each (λ (d : Did). Handles c p d → ⊥) line.texts) a.lines

record Executions (a : Account) (k l q : ℕ) (items : List Carried) (texts : List Did) (x : Entry) : Type 0 where
  reply_frame : ℕ
  place : PlaceOf k l q items texts Executed reply_frame x
  changing : is_changing x.request ≡ true
  first : NoneEarlier a x.client x.part

record LooksAt (k l q : ℕ) (items : List Carried) (texts : List Did) (n : ℕ) (x : Entry) : Type 0 where
  place : PlaceOf k l q items texts Looked n x
  reading : is_changing x.request ≡ false

record ItemsStand (a b : Account) (k l q : ℕ) (items : List Carried) (e : Effect) : Type 0 where
  entries : Each (Executions a k l q items e.texts) e.entries
  waits : EachFrom (λ n (f : Frame). Each (LooksAt k l q items e.texts n) (if_taken_of f.load)) (next_frame_number b) e.frames
  texts : Each (HandledIn a (with_entries e.entries b.history)) e.texts

-- a changing part with no entry was never handled
never_handled : (a : Account) (h : List Entry) (c : ClientNo) (p : Part) (r : Request) → request_of_part a c p ≡ Some r → is_changing r ≡ true → ((reply : Reply) → HasEntry h c p reply → ⊥)
    → Each (λ (line : Line). Each (HandledIn a h) line.texts) a.lines → NoneEarlier a c p
never_handled a h c p r own changing none handled_so = each_weaker _ _ (λ line. each_weaker (HandledIn a h) _ (λ d k. one d k) line.texts) a.lines handled_so where
  of : (c' : ClientNo) (p' : Part) → HandledOf a h c' p' → c' ≡ c → p' ≡ p → ⊥
  of c' p' k cs ps =
      let its : request_of_part a c p ≡ Some k.request = subst (λ z. request_of_part a z p ≡ Some k.request) cs (subst (λ z. request_of_part a c' z ≡ Some k.request) ps k.its) in
      let same : r ≡ k.request = cc in
      let m = k.entered (subst (λ z. is_changing z ≡ true) same changing) in
      none m.0 (subst (λ z. HasEntry h z p m.0) cs (subst (λ z. HasEntry h c' z m.0) ps m.1))

  one : (d : Did) → HandledIn a h d → Handles c p d → ⊥
  one (did.Handled frame c' p' how status reply) k same = of c' p' k same.0 same.1
  one (did.Issued client call) k same = same
  one other k same = same

-- one text for each item
text_first : (s : FlatState) (b : Account) (l k q : ℕ) (i : Carried) (h : Handling) (rest : List Did) (j : ℕ) → slice_get ((handled s b l k q i h).texts ++ rest) (suc j) ≡ slice_get rest j
text_first s b l k q i (Repeats reply) rest j = refl
text_first s b l k q i (RefusesForNow oldest) rest j = refl
text_first s b l k q i Executes rest j = refl
text_first s b l k q i Looks rest j = refl

-- the place of an entry of the items behind the first
place_behind : (k l q : ℕ) (i : Carried) (is : List Carried) (first rest : List Did) (how : How) (n : ℕ) (x : Entry) → ((j : ℕ) → slice_get (first ++ rest) (suc j) ≡ slice_get rest j)
    → PlaceOf k l (q + 1) is rest how n x → PlaceOf k l q (i ∷ is) (first ++ rest) how n x
place_behind k l q i is first rest how n x shift h = record {
  line = h.line;
  place = suc h.place;
  position = let z : x.position ≡ q + 1 + h.place = h.position in omega arith;
  item = h.item;
  at_place = h.at_place;
  carries = h.carries;
  request = h.request;
  process = h.process;
  text = shift h.place ∙ h.text;
}

entry_place : (k l q : ℕ) (i : Carried) (is : List Carried) (rest : List Did) (how : How) (n : ℕ) (reply : Reply)
    → PlaceOf k l q (i ∷ is) (did.Handled k i.item.head.client i.part how (status_in reply) n ∷ rest) how n (entry_of l q i reply)
entry_place k l q i is rest how n reply = record {
  line = refl;
  place = 0;
  position = omega arith;
  item = i;
  at_place = refl;
  carries = record { client = refl; part = refl };
  request = refl;
  process = refl;
  text = refl;
}

handled_stand : (config : Config) (a b : Account) (l k q : ℕ) (i : Carried) (is : List Carried) (rest : List Did) (retry : ℕ) → ItemOwned config a i → Each (EntryOwned config a) b.history → Each (λ (x : Entry). is_before l q x ≡ true) b.history
    → ((c : ClientNo) (p : Part) (reply : Reply) → HasEntry a.history c p reply → HasEntry b.history c p reply) → Each (λ (line : Line). Each (HandledIn a a.history) line.texts) a.lines
    → (s : FlatState) (h : Handling) → Tells (recorded b.history l q) retry b l i h
    → Each (Executions a k l q (i ∷ is) ((handled s b l k q i h).texts ++ rest)) (handled s b l k q i h).entries
    × EachFrom (λ n (f : Frame). Each (LooksAt k l q (i ∷ is) ((handled s b l k q i h).texts ++ rest) n) (if_taken_of f.load)) (next_frame_number b) (handled s b l k q i h).frames
    × Each (HandledIn a (with_entries (handled s b l k q i h).entries b.history)) (handled s b l k q i h).texts
handled_stand config a b l k q i is rest retry w owned before more so s (Repeats reply) tells = (
  tt,
  (tt, tt),
  (
    record {
      request = i.item.request;
      its = w.request;
      entered = λ changing. (
        tells.1.reply,
        has_filtered _ b.history i.item.head.client i.part tells.1.reply
            (has_filtered _ (entries_before b.history l q) i.item.head.client i.part tells.1.reply (found_has i.item.head.client i.part (recorded b.history l q) tells.1 tells.2)),
      );
    },
    tt,
  ),
)
handled_stand config a b l k q i is rest retry w owned before more so s (RefusesForNow oldest) tells = (tt, tt, (tt, tt))
handled_stand config a b l k q i is rest retry w owned before more so s Executes tells =
    let reply : Reply = (item_outcome s i.item).reply in
    let none : Each (Differ (entry_of l q i (item_outcome s i.item).reply)) b.history = unrecorded config a b.history l q i (item_outcome s i.item).reply w owned before tells.0 tells.1 in (
      (
        record {
          reply_frame = next_frame_number b;
          place = entry_place k l q i is rest Executed (next_frame_number b) (item_outcome s i.item).reply;
          changing = tells.0;
          first = never_handled a a.history i.item.head.client i.part i.item.request w.request tells.0
              (λ r h. has_none (entry_of l q i (item_outcome s i.item).reply) b.history i.item.head.client i.part r refl refl none (more i.item.head.client i.part r h)) so;
        },
        tt,
      ),
      (tt, tt),
      (record { request = i.item.request; its = w.request; entered = λ changing. ((item_outcome s i.item).reply, has_new (entry_of l q i (item_outcome s i.item).reply) b.history) }, tt),
    )
handled_stand config a b l k q i is rest retry w owned before more so s Looks tells = (
  tt,
  ((record { place = entry_place k l q i is rest Looked (next_frame_number b) (item_outcome s i.item).reply; reading = tells }, tt), tt),
  (record { request = i.item.request; its = w.request; entered = λ changing. absurd (contrary (is_changing i.item.request) changing tells) }, tt),
)

items_stand : (config : Config) (a : Account) (l k : ℕ) (items : List Carried) (b : Account) (q : ℕ) → Each (ItemOwned config a) items → Each (λ (i : Carried). InRange i.item.request) items
    → Each (EntryOwned config a) b.history → AreDistinct b.history → Ran config b l q → ((c : ClientNo) (p : Part) (reply : Reply) → HasEntry a.history c p reply → HasEntry b.history c p reply)
    → Each (λ (line : Line). Each (HandledIn a a.history) line.texts) a.lines → ItemsStand a b k l q items (on_items keep_all config b l k q items)
items_stand config a l k [] b q w g owned distinct ran more so = record { entries = tt; waits = tt; texts = tt }
items_stand config a l k (i ∷ is) b q w g owned distinct ran more so =
    let e : Effect = on_item keep_all config b l k q i in
    let f : Effect = on_items keep_all config (joined_by b (on_item keep_all config b l k q i)) l k (q + 1) is in
    let once : ItemsOnce config a b.history (on_item keep_all config b l k q i) = item_once config a b l k q i w.0 owned distinct ran.before in
    let rest : ItemsStand a (joined_by b (on_item keep_all config b l k q i)) k l (q + 1) is (on_items keep_all config (joined_by b (on_item keep_all config b l k q i)) l k (q + 1) is) =
    items_stand config a l k is (joined_by b (on_item keep_all config b l k q i)) (q + 1) w.1 g.1
    (each_with_entries (EntryOwned config a) (on_item keep_all config b l k q i).entries b.history once.entries owned) once.distinct (item_runs keep_all config b l k q i ran g.0)
    (λ c p reply h. has_kept_all (on_item keep_all config b l k q i).entries b.history c p reply (more c p reply h)) so in
    let h : Handling = item_handling (recorded b.history l q) config.node.retry b l i in
    let one = handled_stand config a b l k q i is (on_items keep_all config (joined_by b (on_item keep_all config b l k q i)) l k (q + 1) is).texts config.node.retry w.0 owned ran.before more so
    (memory_at config b.history l q) (item_handling (recorded b.history l q) config.node.retry b l i) (handling_tells (recorded b.history l q) config.node.retry b l i) in
    let shift : (j : ℕ) → slice_get ((on_item keep_all config b l k q i).texts ++ (on_items keep_all config (joined_by b (on_item keep_all config b l k q i)) l k (q + 1) is).texts) (suc j)
    ≡ slice_get (on_items keep_all config (joined_by b (on_item keep_all config b l k q i)) l k (q + 1) is).texts j =
    text_first (memory_at config b.history l q) b l k q i (item_handling (recorded b.history l q) config.node.retry b l i) (on_items keep_all config (joined_by b (on_item keep_all config b l k q i)) l k (q + 1) is).texts in
    record {
      entries = each_append _ (on_item keep_all config b l k q i).entries (on_items keep_all config (joined_by b (on_item keep_all config b l k q i)) l k (q + 1) is).entries one.0
          (each_weaker _ _ (λ x m. record { reply_frame = m.reply_frame; place = place_behind k l q i is (on_item keep_all config b l k q i).texts _ Executed m.reply_frame x shift m.place; changing = m.changing; first = m.first }) _ rest.entries);
      waits = each_from_append _ (next_frame_number b) (on_item keep_all config b l k q i).frames (on_items keep_all config (joined_by b (on_item keep_all config b l k q i)) l k (q + 1) is).frames one.1
          (subst (λ m. EachFrom (λ n (f : Frame). Each (LooksAt k l q (i ∷ is) ((on_item keep_all config b l k q i).texts ++ (on_items keep_all config (joined_by b (on_item keep_all config b l k q i)) l k (q + 1) is).texts) n) (if_taken_of f.load)) m
          (on_items keep_all config (joined_by b (on_item keep_all config b l k q i)) l k (q + 1) is).frames)
          (numbers b (on_item keep_all config b l k q i))
          (each_from_weaker _ _ (λ n g. each_weaker _ _ (λ x m. record { place = place_behind k l q i is (on_item keep_all config b l k q i).texts _ Looked n x shift m.place; reading = m.reading }) (if_taken_of g.load)) _
          (on_items keep_all config (joined_by b (on_item keep_all config b l k q i)) l k (q + 1) is).frames rest.waits));
      texts = subst (λ z. Each (HandledIn a z) ((on_item keep_all config b l k q i).texts ++ (on_items keep_all config (joined_by b (on_item keep_all config b l k q i)) l k (q + 1) is).texts))
          (sym (with_entries-append (on_item keep_all config b l k q i).entries (on_items keep_all config (joined_by b (on_item keep_all config b l k q i)) l k (q + 1) is).entries b.history))
          (each_append _ (on_item keep_all config b l k q i).texts _
          (each_weaker _ _ (λ d m. more_handled a (on_items keep_all config (joined_by b (on_item keep_all config b l k q i)) l k (q + 1) is).entries (with_entries (on_item keep_all config b l k q i).entries b.history) d m) (on_item keep_all config b l k q i).texts one.2)
          rest.texts);
    }
  where
    numbers : (b : Account) (e : Effect) → next_frame_number (joined_by b e) ≡ length e.frames + next_frame_number b
    numbers b e = let z : length (b.frames ++ e.frames) ≡ length b.frames + length e.frames = length-append b.frames e.frames in omega arith

    more_handled : (a : Account) (es h : List Entry) (d : Did) → HandledIn a h d → HandledIn a (with_entries es h) d
    more_handled a es h (did.Handled frame c p how status reply) k = record { request = k.request; its = k.its; entered = λ changing. let m = k.entered changing in (m.0, has_kept_all es h c p m.0 m.1) }
    more_handled a es h other k = tt

-- ---- a delivery at the node
module _ (config : Config) (a : Account) (l : ℕ) (event : Event) (k : ℕ) (frame : Frame) (items : List Carried) (delivers : is_delivery event ≡ true) (given : IsGiven a l k frame (Asks items)) where
  now_placed : Each (ItemOwned config a) items → (how : How) (n : ℕ) (x : Entry) → PlaceOf k l 0 items (on_items keep_all config a l k 0 items).texts how n x → PlacedAt (extended a l event (on_items keep_all config a l k 0 items)) x how n
  now_placed owned how n x h =
      let place : x.position ≡ 0 + h.place = h.position in
      let at_it : x.position ≡ h.place = omega arith in
      let its : ItemOwned config a h.item = each_slice_get (ItemOwned config a) items h.place h.item owned h.at_place in
      record {
        line = line_of a l event (on_items keep_all config a l k 0 items);
        there = Contains-push a.lines (line_of a l event (on_items keep_all config a l k 0 items));
        number = sym h.line;
        delivers = delivers;
        frame_number = k;
        frame = frame;
        is_frame = frame_kept a l event (on_items keep_all config a l k 0 items) k frame given.is_frame;
        live = given.live;
        item = h.item;
        at_position = ap (λ (z : Load). slice_get (items_of z) x.position) given.carries ∙ ap (slice_get items) at_it ∙ h.at_place;
        carries = h.carries;
        request = h.request;
        process = h.process;
        first_moment = its.moment;
        first = sent_kept a l event (on_items keep_all config a l k 0 items) x.client x.part (h.item.item.head.orig, its.moment)
            (ap (λ (c : ClientNo). first_sent a c x.part) h.carries.client ∙ ap (first_sent a h.item.item.head.client) h.carries.part ∙ its.sent);
        text = ap (slice_get (on_items keep_all config a l k 0 items).texts) at_it ∙ h.text;
      }

  executed_stands : Each (ItemOwned config a) items → (x : Entry) → Executions a k l 0 items (on_items keep_all config a l k 0 items).texts x → StandsAt (extended a l event (on_items keep_all config a l k 0 items)) x
  unfolding now_placed
  executed_stands owned x h =
      let p : PlacedAt (extended a l event (on_items keep_all config a l k 0 items)) x Executed h.reply_frame = now_placed owned Executed h.reply_frame x h.place in
      record {
        line = line_of a l event (on_items keep_all config a l k 0 items);
        there = p.there;
        number = p.number;
        delivers = delivers;
        frame_number = k;
        frame = frame;
        is_frame = p.is_frame;
        live = given.live;
        item = p.item;
        at_position = p.at_position;
        carries = p.carries;
        request = p.request;
        process = p.process;
        first_moment = p.first_moment;
        first = p.first;
        how = Executed;
        reply_frame = h.reply_frame;
        text = p.text;
        changing = λ c. (refl, each_append _ a.lines (line_of a l event (on_items keep_all config a l k 0 items) ∷ []) (each_weaker _ _ (λ other never earlier. never) a.lines h.first) ((λ earlier. absurd (omega arith)), tt));
        reading = λ r. absurd (contrary (is_changing x.request) h.changing r);
      }

  asks_stand : Base config a l → AllStand a → StandsFit a l event (on_items keep_all config a l k 0 items)
  asks_stand base all =
      let owned : Each (ItemOwned config a) items = subst (λ (x : Load). Each (ItemOwned config a) (items_of x)) given.carries (frame_at_each (λ (f : Frame). Each (ItemOwned config a) (items_of f.load)) a k frame base.once.items given.is_frame) in
      let in_range : Each (λ (i : Carried). InRange i.item.request) items = subst (λ (x : Load). Each (λ (i : Carried). InRange i.item.request) (items_of x)) given.carries
      (frame_at_each (λ (f : Frame). Each (λ (i : Carried). InRange i.item.request) (items_of f.load)) a k frame base.ran.items given.is_frame) in
      let x : ItemsStand a a k l 0 items (on_items keep_all config a l k 0 items) =
      items_stand config a l k items a 0 owned in_range base.once.entries base.once.distinct base.ran (λ c p reply h. h) all.handled_so in
      record {
        stands = each_weaker _ _ (executed_stands owned) (on_items keep_all config a l k 0 items).entries x.entries;
        waits = each_from_weaker _ _ (λ n g. each_weaker _ _ (λ y h. record { placed = now_placed owned Looked n y h.place; reading = h.reading }) (if_taken_of g.load)) (next_frame_number a) (on_items keep_all config a l k 0 items).frames x.waits;
        handled_so = each_weaker _ _ (handled_kept a l event (on_items keep_all config a l k 0 items) [] (with_entries (on_items keep_all config a l k 0 items).entries a.history)) (on_items keep_all config a l k 0 items).texts x.texts;
      }

-- ---- a reply at its client
waits_at : (a : Account) (k : ℕ) (frame : Frame) → AllStand a → frame_at a k ≡ Some frame → Each (Waits a k) (if_taken_of frame.load)
waits_at a zero frame all at_number = absurd (none_some frame at_number)
waits_at a (suc i) frame all at_number =
    subst (λ n. Each (Waits a n) (if_taken_of frame.load)) (let z : i + 1 ≡ suc i = omega arith in z)
    (each_from_get (λ n (f : Frame). Each (Waits a n) (if_taken_of f.load)) 1 a.frames i frame all.waits at_number)

-- what waits for a reply is of the part in flight
record IsOfPart (c : ClientNo) (p : Part) (x : Entry) : Type 0 where
  client : x.client ≡ c
  part : x.part ≡ p

taken_of : (config : Config) (a : Account) (head : Head) (reply : Reply) (if_taken : List Entry) (p : Part) → (w : ReplyStands config a a.history (Answers head reply if_taken)) → w.0 ≡ p → Each (IsOfPart head.client p) if_taken
taken_of config a head reply [] p w part = tt
taken_of config a head reply (e ∷ es) p w part =
    let is : IsEntry head.client w.0 reply e = w.3.1 in
    (record { client = is.client; part = is.part ∙ part }, subst (Each (IsOfPart head.client p)) (sym w.3.2) tt)

taken_stands : (config : Config) (a : Account) (l : ℕ) (event : Event) (k : ℕ) (head : Head) (reply : Reply) (if_taken : List Entry) (f : Sending) (x : Entry) → Waits a k x → IsOfPart head.client f.part x
    → StandsAt (extended a l event (on_flight (client_at config a head.client) k head reply if_taken (Some f))) x
taken_stands config a l event k head reply if_taken f x waits of =
    let new : Effect = on_flight (client_at config a head.client) k head reply if_taken (Some f) in
    let p : PlacedAt (extended a l event (on_flight (client_at config a head.client) k head reply if_taken (Some f))) x Looked k = placed_kept a l event (on_flight (client_at config a head.client) k head reply if_taken (Some f)) x Looked k waits.placed in
    record {
      line = p.line;
      there = p.there;
      number = p.number;
      delivers = p.delivers;
      frame_number = p.frame_number;
      frame = p.frame;
      is_frame = p.is_frame;
      live = p.live;
      item = p.item;
      at_position = p.at_position;
      carries = p.carries;
      request = p.request;
      process = p.process;
      first_moment = p.first_moment;
      first = p.first;
      how = Looked;
      reply_frame = k;
      text = p.text;
      changing = λ c. absurd (contrary (is_changing x.request) c waits.reading);
      reading = λ r. (
        refl,
        (
          line_of a l event (on_flight (client_at config a head.client) k head reply if_taken (Some f)),
          Contains-push a.lines (line_of a l event (on_flight (client_at config a head.client) k head reply if_taken (Some f))),
          subst (λ c. Contains (did.Took k head.client f.part ∷ []) (did.Took k c x.part)) (sym of.client)
              (subst (λ q. Contains (did.Took k head.client f.part ∷ []) (did.Took k head.client q)) (sym of.part) (Contains-push [] (did.Took k head.client f.part))),
        ),
      );
    }

-- ---- the cases
stands_cases : (config : Config) (a : Account) (l : ℕ) → Base config a l → AllStand a → Cases keep_all config a l (StandsFit a l)
stands_cases config a l base all = record {
  quiet = λ event d no_peek quiet. quiet_stands a l event d quiet;
  peeks = λ pid addr n. peek_is_quiet (StandsFit a l (event.Peek pid addr n)) (λ d quiet. quiet_stands a l (event.Peek pid addr n) d quiet) (memory_at config a.history l 0) pid addr n;
  issues = λ c text none. record { stands = tt; waits = tt; handled_so = (tt, tt) };
  gives_up = λ c f of old. record { stands = tt; waits = tt; handled_so = (tt, tt) };
  ends_fence = λ c k rest is fence. record { stands = tt; waits = tt; handled_so = (tt, tt) };
  sends_again = λ c f of due. record { stands = tt; waits = (tt, tt); handled_so = (tt, tt) };
  sends = λ c p of. record { stands = tt; waits = (tt, tt); handled_so = (tt, tt) };
  items = λ event k frame items delivers given. asks_stand config a l event k frame items delivers given base all;
  takes = λ event k frame head reply if_taken f delivers given of orig.
      let w : ReplyStands config a a.history (Answers head reply if_taken) = subst (ReplyStands config a a.history) given.carries (frame_at_each (λ (f : Frame). ReplyStands config a a.history f.load) a k frame base.once.answers given.is_frame) in
      let waiting : Each (Waits a k) if_taken = subst (λ (x : Load). Each (Waits a k) (if_taken_of x)) given.carries (waits_at a k frame all given.is_frame) in
      record {
        stands = each_weaker_with (Waits a k) (IsOfPart head.client f.part) _ (λ x h m. taken_stands config a l event k head reply if_taken f x h m) if_taken waiting
            (taken_of config a head reply if_taken f.part w (part_by_orig config a head reply if_taken f base.once.ids w of orig));
        waits = tt;
        handled_so = (tt, tt);
      };
}

-- ---- the induction, and the law
record WithStands (config : Config) (a : Account) (l : ℕ) : Type 0 where
  base : Base config a l
  all : AllStand a

stands_of_account : (config : Config) (events : List (ℕ × Event)) → IsRisingFrom 0 events → AreTyped events → WithStands config (account_from keep_all config nothing_yet events) (past 0 events)
stands_of_account config events rising typed =
    of_account keep_all config (WithStands config)
    (λ a l m le w. record { base = base_later config a l m le w.base; all = w.all })
    (λ a l e is w. record {
      base = base_next config a l e is w.base;
      all = all_kept config a l e (effect keep_all config a l e) w.base.ran w.all (effect_by keep_all config a l (StandsFit a l) (stands_cases config a l w.base w.all) e);
    })
    events rising typed (record { base = base_nothing config; all = record { stands = tt; waits = tt; handled_so = tt } })

pub law_of_stands : LawOfStands
law_of_stands config events rising typed =
    let w : WithStands config (account config events) (past 0 events) = stands_of_account config events rising typed in w.all.stands
