-- Each event keeps the changing entries spaced, so the latest tell of a live frame what all tell.
use Rattle.std.proofs.Common.{◌≡◌, ℕ, suc, ◌+◌, ◌-◌, ◌<◌, ◌≤◌, List, [], ◌∷◌, ◌++◌, refl, sym, ap, ◌∙◌, subst, Bool, true, false, cond, arith, Some, None, Option}
use Rattle.std.specs.Prelude.{filter, nat_lt, option_map, sum_by, ◌&&◌}
use Rattle.std.specs.List.{AllByRecursion as Each}
use Rattle.std.proofs.lemmas.Bool.Decides.{nat_tests}
use Rattle.std.proofs.lemmas.List.Elements.{filter-append}
use Rattle.std.proofs.lemmas.List.Sums.{sum_by-append}
use Rattle.cl_types.specs.Requests.{is_changing}
use Rattle.cl_types.specs.declared.config.Config.{Config}
use Rattle.cl_types.specs.declared.limits.TheConstants.{LAST_RESEND, SPAN}
use Rattle.cl_types.specs.declared.numbers.ClientNo.{ClientNo}
use Rattle.cl_types.specs.declared.reply.Part.{Part}
use Rattle.cl_types.specs.declared.line.Entry.{Entry}
use Rattle.cl_types.specs.declared.line.Did.TheVariants as did
use Rattle.cl_types.specs.declared.schedule.Event.{Event}
use Rattle.cl_types.specs.declared.schedule.Event.TheVariants as event
use Rattle.cl_types.specs.Parts.{same_part}
use Rattle.cl_types.specs.Times.{is_live}
use Rattle.flat_model.specs.State.{FlatState}
use Rattle.flat_model.specs.Run.{changing_of}
use Rattle.trace.specs.Account.{Account, Line, Frame, Carried, Load, Asks, Answers, Effect, says, frame_at, taken_in_order, joined_by, extended, now, ticks_of, is_before, items_of, if_taken_of, with_entry, with_entries, memory_at, recorded, nothing_yet}
use Rattle.cl_types.specs.Parts.{same_client}
use Rattle.node_model.specs.Handling.{Handling, Repeats, RefusesForNow, Executes, Looks, handling, item_outcome, latest}
use Rattle.trace.specs.Properties.{CarriesPart}
use Rattle.cl_types.specs.Ranges.{is_typed}
use Rattle.trace.specs.Events.{record_of, entry_of, handled, item_handling, on_item, on_items, then_also, handed, if_live, on_frame, on_delivery, if_there, on_next, effect, next_account, account, account_from, keep_all}
use Rattle.trace_laws.specs.Times.{clock, FirstAt}
use Rattle.trace.specs.Schedules.{IsRisingFrom, AreTyped}
use Rattle.trace_laws.specs.Window.{LawOfWindow, OneAccount}
use Rattle.lemmas.proofs.Lists.{each_weaker, each_always, each_filter_from, each_slice_get, find_some, none_some}
use Rattle.client_laws.proofs.Entries.{each_with_entries}
use Rattle.lemmas.proofs.SameParts.{same_is}
use Rattle.trace_laws.proofs.Moments.{now_kept, now_clock, first_not_after}
use Rattle.client_laws.proofs.Items.{Tells, handling_tells}
use Rattle.client_laws.proofs.Cases.{IsGiven, Cases, peek_is_quiet, effect_by}
use Rattle.trace_laws.proofs.TimesKept.{SentYoung, Entered, Times, first_same, frame_at_each, times_later, times_next, times_nothing}
use Rattle.trace_laws.proofs.Insert.{with_last, all_before, filter_with_entry}
use Rattle.trace_laws.proofs.Ran.{InRange, LookOf, Ran}
use Rattle.trace_laws.proofs.RunKept.{item_runs, joined_twice, ran_later, ran_next, ran_nothing}
use Rattle.node_laws.proofs.Window.{Spaced, IsOld, spaced_more, window, window_none, oldest_latest}
use Rattle.trace_laws.proofs.Induction.{past, of_account}

abbrev IsSpaced : Config → Account → List Entry → Type 0
IsSpaced config a es = Spaced {X = Entry} (λ e. now a e.line) config.node.retry es

-- ---- items
recorded_all : (h : List Entry) (l q : ℕ) → Each (λ (x : Entry). is_before l q x ≡ true) h → recorded h l q ≡ changing_of h
recorded_all h l q before = ap changing_of (all_before (is_before l q) h before)

changing_last : (n : Entry) (h : List Entry) → Each (λ (x : Entry). is_before n.line n.position x ≡ true) h → is_changing n.request ≡ true → changing_of (with_entry n h) ≡ changing_of h ++ n ∷ []
changing_last n h before changing =
    ap changing_of (with_last n h before) ∙ filter-append (λ (e : Entry). is_changing e.request) h (n ∷ []) ∙ ap (λ z. changing_of h ++ z) (one (is_changing n.request) changing)
  where
    one : (b : Bool) → b ≡ true → cond b (n ∷ []) [] ≡ n ∷ []
    one b e = rw e refl

handled_spaced : (config : Config) (b : Account) (l k q : ℕ) (i : Carried) → 1 ≤ config.node.retry → Each (λ (x : Entry). is_before l q x ≡ true) b.history → IsSpaced config b (changing_of b.history)
    → (s : FlatState) (h : Handling) → Tells (recorded b.history l q) config.node.retry b l i h → IsSpaced config b (changing_of (joined_by b (handled s b l k q i h)).history)
handled_spaced config b l k q i some before spaced s (Repeats reply) tells = spaced
handled_spaced config b l k q i some before spaced s (RefusesForNow oldest) tells = spaced
handled_spaced config b l k q i some before spaced s Executes tells =
    subst (IsSpaced config b) (sym (changing_last (entry_of l q i (item_outcome s i.item).reply) b.history before tells.0))
    (spaced_more {X = Entry} (λ e. now b e.line) config.node.retry (changing_of b.history) (entry_of l q i (item_outcome s i.item).reply) some
    (subst (IsOld {X = Entry} (λ e. now b e.line) config.node.retry (now b l)) (recorded_all b.history l q before) tells.2) spaced)
handled_spaced config b l k q i some before spaced s Looks tells = spaced

item_spaced : (config : Config) (b : Account) (l k q : ℕ) (i : Carried) → 1 ≤ config.node.retry → Each (λ (x : Entry). is_before l q x ≡ true) b.history
    → IsSpaced config b (changing_of b.history) → IsSpaced config b (changing_of (joined_by b (on_item keep_all config b l k q i)).history)
item_spaced config b l k q i some before spaced =
    handled_spaced config b l k q i some before spaced (memory_at config b.history l q) (item_handling (recorded b.history l q) config.node.retry b l i)
    (handling_tells (recorded b.history l q) config.node.retry b l i)

items_spaced : (config : Config) (l k : ℕ) (items : List Carried) (b : Account) (q : ℕ) → 1 ≤ config.node.retry → Ran config b l q → Each (λ (i : Carried). InRange i.item.request) items
    → IsSpaced config b (changing_of b.history) → IsSpaced config b (changing_of (joined_by b (on_items keep_all config b l k q items)).history)
items_spaced config l k [] b q some r g spaced = spaced
items_spaced config l k (i ∷ is) b q some r g spaced =
    subst (λ (z : Account). IsSpaced config b (changing_of z.history)) (joined_twice b (on_item keep_all config b l k q i) (on_items keep_all config (joined_by b (on_item keep_all config b l k q i)) l k (q + 1) is))
    (items_spaced config l k is (joined_by b (on_item keep_all config b l k q i)) (q + 1) some (item_runs keep_all config b l k q i r g.0) g.1 (item_spaced config b l k q i some r.before spaced))

-- ---- the cases
-- a look's entry leaves the changing ones
looks_spaced : (es h : List Entry) → Each (λ (e : Entry). is_changing e.request ≡ false) es → changing_of (with_entries es h) ≡ changing_of h
looks_spaced [] h r = refl
looks_spaced (e ∷ es) h r = looks_spaced es (with_entry e h) r.1 ∙ filter_with_entry (λ (x : Entry). is_changing x.request) e h r.0

abbrev SpacedFit : Config → Account → Event → Effect → Type 0
SpacedFit config a event e = IsSpaced config a (changing_of (with_entries e.entries a.history))

spaced_cases : (config : Config) (a : Account) (l : ℕ) → 1 ≤ config.node.retry → Ran config a l 0 → IsSpaced config a (changing_of a.history) → Cases keep_all config a l (SpacedFit config a)
spaced_cases config a l some r s = record {
  quiet = λ event d no_peek quiet. s;
  peeks = λ pid addr n. peek_is_quiet (SpacedFit config a (event.Peek pid addr n)) (λ d quiet. s) (memory_at config a.history l 0) pid addr n;
  issues = λ c text none. s;
  gives_up = λ c f of old. s;
  ends_fence = λ c k rest is fence. s;
  sends_again = λ c f of due. s;
  sends = λ c p of. s;
  items = λ event k frame items delivers given. items_spaced config l k items a 0 some r
      (subst (λ (x : Load). Each (λ (i : Carried). InRange i.item.request) (items_of x)) given.carries (frame_at_each (λ (f : Frame). Each (λ (i : Carried). InRange i.item.request) (items_of f.load)) a k frame r.items given.is_frame)) s;
  takes = λ event k frame head reply if_taken f delivers given of orig.
      let looks : Each (LookOf config a.history l 0) if_taken = subst (λ (x : Load). Each (LookOf config a.history l 0) (if_taken_of x)) given.carries (frame_at_each (λ (f : Frame). Each (LookOf config a.history l 0) (if_taken_of f.load)) a k frame r.looked given.is_frame) in
      subst (IsSpaced config a) (sym (looks_spaced if_taken a.history (each_weaker _ _ (λ e h. h.reading) if_taken looks))) s;
}

-- ---- the moments stay
same_moments : (config : Config) (a b : Account) (es : List Entry) → Each (λ (e : Entry). now b e.line ≡ now a e.line) es → IsSpaced config a es → IsSpaced config b es
same_moments config a b es h s k x y at_place far =
    let low : now a x.line + SPAN ≤ now a y.line = s k x y at_place far in
    let p : now b x.line ≡ now a x.line = each_slice_get (λ (e : Entry). now b e.line ≡ now a e.line) es k x h at_place in
    let q : now b y.line ≡ now a y.line = each_slice_get (λ (e : Entry). now b e.line ≡ now a e.line) es (k + config.node.retry) y h far in
    omega arith

spaced_next : (config : Config) (a : Account) (l : ℕ) (e : Event) → 1 ≤ config.node.retry → Times a l → Ran config a l 0 → IsSpaced config a (changing_of a.history)
    → IsSpaced config (extended a l e (effect keep_all config a l e)) (changing_of (extended a l e (effect keep_all config a l e)).history)
spaced_next config a l e some t r s =
    let u : Times (extended a l e (effect keep_all config a l e)) (suc l) = times_next keep_all config a l e t in
    same_moments config a (extended a l e (effect keep_all config a l e)) (changing_of (with_entries (effect keep_all config a l e).entries a.history))
    (each_filter_from (λ (x : Entry). now (extended a l e (effect keep_all config a l e)) x.line ≡ now a x.line) (λ (x : Entry). is_changing x.request) (with_entries (effect keep_all config a l e).entries a.history)
    (each_weaker (Entered (extended a l e (effect keep_all config a l e)) (suc l)) (λ (x : Entry). now (extended a l e (effect keep_all config a l e)) x.line ≡ now a x.line)
    (λ x k. now_kept a l x.line e (effect keep_all config a l e) (let h : x.line < suc l = k.above in omega arith)) (with_entries (effect keep_all config a l e).entries a.history) u.entered))
    (effect_by keep_all config a l (SpacedFit config a) (spaced_cases config a l some r s) e)

pub record WithSpace (config : Config) (a : Account) (l : ℕ) : Type 0 where
  pub times : Times a l
  pub ran : Ran config a l 0
  pub spaced : Spaced {X = Entry} (λ e. now a e.line) config.node.retry (changing_of a.history)

pub space_later : (config : Config) (a : Account) (l m : ℕ) → l ≤ m → WithSpace config a l → WithSpace config a m
space_later config a l m le w = record { times = times_later a l m le w.times; ran = ran_later config a l m le w.ran; spaced = w.spaced }

pub space_next : (config : Config) → 1 ≤ config.node.retry → (a : Account) (l : ℕ) (e : Event) → is_typed e ≡ true → WithSpace config a l → WithSpace config (extended a l e (effect keep_all config a l e)) (suc l)
space_next config some a l e is w = record { times = times_next keep_all config a l e w.times; ran = ran_next keep_all config a l e is w.ran; spaced = spaced_next config a l e some w.times w.ran w.spaced }

pub space_nothing : (config : Config) → WithSpace config nothing_yet 0
space_nothing config = record { times = times_nothing; ran = ran_nothing config; spaced = λ k x y at_place far. absurd (none_some x at_place) }

-- ---- the window of an account
sum_filter : (f : Line → ℕ) (p : Line → Bool) (xs : List Line) → sum_by f (filter p xs) ≤ sum_by f xs
sum_filter f p [] = omega arith
sum_filter f p (x ∷ xs) = go (p x) (sum_filter f p xs)
  where
    more : (ys : List Line) → sum_by f (x ∷ ys) ≡ sum_by f (x ∷ []) + sum_by f ys
    more ys = sum_by-append f (x ∷ []) ys

    go : (b : Bool) → sum_by f (filter p xs) ≤ sum_by f xs → sum_by f (cond b (x ∷ filter p xs) (filter p xs)) ≤ sum_by f (x ∷ xs)
    go true h = omega (arith, more (filter p xs), more xs)
    go false h = omega (arith, more xs)

pub now_low : (a : Account) (m : ℕ) → now a m ≤ clock a
now_low a m = sum_filter (λ (line : Line). ticks_of line.event) (λ (line : Line). nat_lt line.number m) a.lines

abbrev is_entry_of : ClientNo → Part → Entry → Bool
is_entry_of c p e = same_client c e.client && same_part p e.part

-- an entry was made at or after the first sending of its part
pub record MadeAfter (a : Account) (e : Entry) : Type 0 where
  pub first : ℕ
  pub sent : FirstAt a e.client e.part first
  pub not_before : first ≤ now a e.line

-- of an item of a live frame, an entry of its part is young
made_young : (a : Account) (e : Entry) (f : Frame) (i : Carried) → MadeAfter a e → SentYoung a f i → CarriesPart e.client e.part i → (t : ℕ) → is_live t f.moment ≡ true → t < now a e.line + SPAN
made_young a e f i h y k t live =
    let same : h.first ≡ y.first = first_same a e.client i.item.head.client e.part i.part h.first y.first k.client k.part h.sent y.sent in
    let from : h.first ≤ now a e.line = h.not_before in
    let young : f.moment ≤ y.first + LAST_RESEND = y.age in
    let n : t - f.moment < 100 = grind (arith, nat_tests) in
    omega arith

latest_tell : (config : Config) (a : Account) (h : List Entry) (f : Frame) (i : Carried) → Each (MadeAfter a) h → IsSpaced config a (changing_of h) → SentYoung a f i → (t : ℕ) → clock a ≤ t → is_live t f.moment ≡ true
    → record_of (latest config.node.retry (changing_of h)) i.item.head.client i.part ≡ record_of (changing_of h) i.item.head.client i.part
latest_tell config a h f i made s y t low live = go (record_of (changing_of h) i.item.head.client i.part) refl
  where
    go : (o : Option Entry) → record_of (changing_of h) i.item.head.client i.part ≡ o → record_of (latest config.node.retry (changing_of h)) i.item.head.client i.part ≡ record_of (changing_of h) i.item.head.client i.part
    go None e = window_none {X = Entry} (λ e. now a e.line) config.node.retry (is_entry_of i.item.head.client i.part) (changing_of h) e ∙ sym e
    go (Some x) e =
        let k = find_some (MadeAfter a) (is_entry_of i.item.head.client i.part) (changing_of h) x (each_filter_from (MadeAfter a) (λ (e : Entry). is_changing e.request) h made) e in
        let w = same_is i.item.head.client x.client i.part x.part k.1 in
        let young : t < now a x.line + SPAN = made_young a x f i k.0 y (record { client = sym w.0; part = sym w.1 }) t live in
        window {X = Entry} (λ e. now a e.line) config.node.retry (is_entry_of i.item.head.client i.part) t (changing_of h) x s
        (each_always (λ (e : Entry). now a e.line ≤ t) (λ e. let n : now a e.line ≤ clock a = now_low a e.line in omega arith) (changing_of h)) e young ∙ sym e

made_after : (a : Account) (l : ℕ) → Times a l → Each (MadeAfter a) a.history
made_after a l t = each_weaker (Entered a l) (MadeAfter a) (λ e k. record { first = k.first; sent = k.sent; not_before = k.not_before }) a.history t.entered

space_of_account : (config : Config) (events : List (ℕ × Event)) → 1 ≤ config.node.retry → IsRisingFrom 0 events → AreTyped events → WithSpace config (account config events) (past 0 events)
space_of_account config events some rising typed = of_account keep_all config (WithSpace config) (space_later config) (space_next config some) events rising typed (space_nothing config)

pub law_of_window : LawOfWindow
law_of_window config events some rising typed =
    let a : Account = account config events in
    let w : WithSpace config (account config events) (past 0 events) = space_of_account config events some rising typed in
    each_weaker _ _ (λ f. each_weaker _ _ (λ i y t low live. latest_tell config (account config events) (account config events).history f i (made_after (account config events) (past 0 events) w.times) w.spaced y t low live) (items_of f.load))
    (account config events).frames w.times.young

-- ---- one account for the other
-- what the items of a live frame need of the account before them, whose lines are those of the line's beginning
record Stage (config : Config) (b : Account) (l q : ℕ) : Type 0 where
  ran : Ran config b l q
  spaced : IsSpaced config b (changing_of b.history)
  made : Each (MadeAfter b) b.history
  low : clock b ≤ now b l

-- both handle the item alike
same_handling : (config : Config) (b : Account) (l q : ℕ) (f : Frame) (i : Carried) → 1 ≤ config.node.retry → Stage config b l q → SentYoung b f i → is_live (now b l) f.moment ≡ true
    → item_handling (recorded b.history l q) config.node.retry b l i ≡ item_handling (latest config.node.retry (recorded b.history l q)) config.node.retry b l i
same_handling config b l q f i some stage y live =
    let all : recorded b.history l q ≡ changing_of b.history = recorded_all b.history l q stage.ran.before in
    let told : record_of (latest config.node.retry (recorded b.history l q)) i.item.head.client i.part ≡ record_of (recorded b.history l q) i.item.head.client i.part =
    subst (λ es. record_of (latest config.node.retry es) i.item.head.client i.part ≡ record_of es i.item.head.client i.part) (sym all)
    (latest_tell config b b.history f i stage.made stage.spaced y (now b l) stage.low live) in
    λ j. handling (is_changing i.item.request) (option_map (λ e. e.reply) (sym told j)) (now b l)
    (option_map (λ e. now b e.line) (sym (oldest_latest config.node.retry (recorded b.history l q) some) j))

made_more : (config : Config) (b : Account) (l k q : ℕ) (f : Frame) (i : Carried) → Stage config b l q → SentYoung b f i → is_live (now b l) f.moment ≡ true → ((m : ℕ) → FirstAt b i.item.head.client i.part m → m ≤ now b l)
    → (s : FlatState) (h : Handling) → Each (MadeAfter b) (joined_by b (handled s b l k q i h)).history
made_more config b l k q f i stage y live first_low s h = each_with_entries (MadeAfter b) (handled s b l k q i h).entries b.history (new h) stage.made where
  new : (h : Handling) → Each (MadeAfter b) (handled s b l k q i h).entries
  new (Repeats reply) = tt
  new (RefusesForNow oldest) = tt
  new Executes = (record { first = y.first; sent = y.sent; not_before = first_low y.first y.sent }, tt)
  new Looks = tt

-- a first sending is no later than the line
abbrev SentBefore : Account → ℕ → Type 0
SentBefore b l = (c : ClientNo) (p : Part) (m : ℕ) → FirstAt b c p m → m ≤ now b l

-- what joins an account leaves what its lines say
made_on : (b : Account) (e : Effect) (x : Entry) → MadeAfter b x → MadeAfter (joined_by b e) x
made_on b e x h = record { first = h.first; sent = record { id = h.sent.id; sent = h.sent.sent }; not_before = h.not_before }

young_on : (b : Account) (e : Effect) (f : Frame) (i : Carried) → SentYoung b f i → SentYoung (joined_by b e) f i
young_on b e f i h = record { first = h.first; sent = record { id = h.sent.id; sent = h.sent.sent }; early = h.early; age = h.age }

sent_on : (b : Account) (l : ℕ) (e : Effect) → SentBefore b l → SentBefore (joined_by b e) l
sent_on b l e h c p m first = h c p m (record { id = first.id; sent = first.sent })

same_items : (config : Config) (l k : ℕ) (f : Frame) (items : List Carried) (b : Account) (q : ℕ) → 1 ≤ config.node.retry → Stage config b l q → Each (SentYoung b f) items → Each (λ (i : Carried). InRange i.item.request) items
    → is_live (now b l) f.moment ≡ true → SentBefore b l → on_items keep_all config b l k q items ≡ on_items (latest config.node.retry) config b l k q items
same_items config l k f [] b q some stage young in_range live sent = refl
same_items config l k f (i ∷ is) b q some stage young in_range live sent =
    let same : on_item keep_all config b l k q i ≡ on_item (latest config.node.retry) config b l k q i =
    ap (handled (memory_at config b.history l q) b l k q i) (same_handling config b l q f i some stage young.0 live) in
    let rest : on_items keep_all config (joined_by b (on_item keep_all config b l k q i)) l k (q + 1) is ≡ on_items (latest config.node.retry) config (joined_by b (on_item keep_all config b l k q i)) l k (q + 1) is =
    same_items config l k f is (joined_by b (on_item keep_all config b l k q i)) (q + 1) some
    (record {
      ran = item_runs keep_all config b l k q i stage.ran in_range.0;
      spaced = item_spaced config b l k q i some stage.ran.before stage.spaced;
      made = each_weaker (MadeAfter b) (MadeAfter (joined_by b (on_item keep_all config b l k q i))) (made_on b (on_item keep_all config b l k q i)) (joined_by b (on_item keep_all config b l k q i)).history
          (made_more config b l k q f i stage young.0 live (sent i.item.head.client i.part) (memory_at config b.history l q) (item_handling (recorded b.history l q) config.node.retry b l i));
      low = stage.low;
    })
    (each_weaker (SentYoung b f) (SentYoung (joined_by b (on_item keep_all config b l k q i)) f) (young_on b (on_item keep_all config b l k q i) f) is young.1) in_range.1 live (sent_on b l (on_item keep_all config b l k q i) sent) in
    ap (then_also (on_item keep_all config b l k q i)) rest
    ∙ ap (λ e. then_also e (on_items (latest config.node.retry) config (joined_by b e) l k (q + 1) is)) same

module _ (config : Config) (a : Account) (l : ℕ) (some : 1 ≤ config.node.retry) (w : WithSpace config a l) where
  same_load : (k : ℕ) (f : Frame) (load : Load) → IsGiven a l k f load → handed keep_all config a l k load ≡ handed (latest config.node.retry) config a l k load
  same_load k f (Asks items) given =
      same_items config l k f items a 0 some
      (record { ran = w.ran; spaced = w.spaced; made = made_after a l w.times; low = let same : now a l ≡ clock a = now_clock a l w.times.rising in omega arith })
      (subst (λ (x : Load). Each (SentYoung a f) (items_of x)) given.carries (frame_at_each (λ (f : Frame). Each (SentYoung a f) (items_of f.load)) a k f w.times.young given.is_frame))
      (subst (λ (x : Load). Each (λ (i : Carried). InRange i.item.request) (items_of x)) given.carries (frame_at_each (λ (f : Frame). Each (λ (i : Carried). InRange i.item.request) (items_of f.load)) a k f w.ran.items given.is_frame))
      given.live
      (λ c p m first. let g : m ≤ clock a = first_not_after a (clock a) c p m w.times.moments first in let same : now a l ≡ clock a = now_clock a l w.times.rising in omega arith)
  same_load k f (Answers head reply if_taken) given = refl

  same_live : (k : ℕ) (f : Frame) → frame_at a k ≡ Some f → (b : Bool) → is_live (now a l) f.moment ≡ b → if_live keep_all config a l k f b ≡ if_live (latest config.node.retry) config a l k f b
  same_live k f at_number false is = refl
  same_live k f at_number true is = same_load k f f.load (record { is_frame = at_number; live = is; carries = refl })

  same_delivery : (k : ℕ) → on_delivery keep_all config a l k ≡ on_delivery (latest config.node.retry) config a l k
  same_delivery k = go (frame_at a k) refl where
    go : (o : Option Frame) → frame_at a k ≡ o → on_frame keep_all config a l k o ≡ on_frame (latest config.node.retry) config a l k o
    go None is = refl
    go (Some f) is = same_live k f is (is_live (now a l) f.moment) refl

  same_next : on_next keep_all config a (on_delivery keep_all config a l) ≡ on_next (latest config.node.retry) config a (on_delivery (latest config.node.retry) config a l)
  same_next = go (frame_at a (taken_in_order a + 1)) where
    go : (o : Option Frame) → if_there keep_all config (on_delivery keep_all config a l) (taken_in_order a + 1) o ≡ if_there (latest config.node.retry) config (on_delivery (latest config.node.retry) config a l) (taken_in_order a + 1) o
    go None = refl
    go (Some f) = same_delivery (taken_in_order a + 1)

  same_drop : on_next keep_all config a (λ k. says (did.Dropped k)) ≡ on_next (latest config.node.retry) config a (λ k. says (did.Dropped k))
  same_drop = go (frame_at a (taken_in_order a + 1)) where
    go : (o : Option Frame) → if_there keep_all config (λ k. says (did.Dropped k)) (taken_in_order a + 1) o ≡ if_there (latest config.node.retry) config (λ k. says (did.Dropped k)) (taken_in_order a + 1) o
    go None = refl
    go (Some f) = refl

  same_effect : (e : Event) → effect keep_all config a l e ≡ effect (latest config.node.retry) config a l e
  same_effect (event.Deliver frame) = same_delivery frame
  same_effect event.DeliverNext = same_next
  same_effect event.Drop = same_drop
  same_effect other = refl

one_from : (config : Config) → 1 ≤ config.node.retry → (events : List (ℕ × Event)) (a : Account) (l : ℕ) → IsRisingFrom l events → AreTyped events → WithSpace config a l
    → account_from keep_all config a events ≡ account_from (latest config.node.retry) config a events
one_from config some [] a l rising typed w = refl
one_from config some (e ∷ es) a l rising typed w =
    let here : WithSpace config a e.0 = space_later config a l e.0 rising.0 w in
    one_from config some es (next_account keep_all config a e) (e.0 + 1) rising.1 typed.1 (space_later config _ (suc e.0) (e.0 + 1) (omega arith) (space_next config some a e.0 e.1 typed.0 here))
    ∙ ap (λ x. account_from (latest config.node.retry) config (extended a e.0 e.1 x) es) (same_effect config a e.0 some here e.1)

pub one_account : OneAccount
one_account config events some rising typed = one_from config some events nothing_yet 0 rising typed (space_nothing config)
