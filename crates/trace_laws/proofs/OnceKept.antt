-- Each event keeps that no part has two entries, and that each entry is its part's own.
use Rattle.std.proofs.Common.{◌≡◌, ℕ, suc, ◌+◌, ◌≤◌, List, [], ◌∷◌, ◌++◌, refl, sym, ap, ◌∙◌, subst, Bool, true, false, cond, arith, Some, None, Option, inl, inr}
use Rattle.std.specs.Prelude.{find, filter, filter_map, is_some, ◌&&◌}
use Rattle.std.specs.List.{AllByRecursion as Each}
use Rattle.cl_types.specs.Requests.{is_changing}
use Rattle.cl_types.specs.declared.config.Config.{Config}
use Rattle.cl_types.specs.declared.frame.Head.{Head}
use Rattle.cl_types.specs.declared.numbers.ClientNo.{ClientNo}
use Rattle.cl_types.specs.declared.reply.Part.{Part}
use Rattle.cl_types.specs.declared.reply.Reply.{Reply}
use Rattle.cl_types.specs.declared.line.Did.{Did}
use Rattle.cl_types.specs.declared.line.Did.TheVariants as did
use Rattle.cl_types.specs.declared.line.Entry.{Entry}
use Rattle.cl_types.specs.declared.schedule.Event.{Event}
use Rattle.cl_types.specs.declared.schedule.Event.TheVariants as event
use Rattle.cl_types.specs.Parts.{same_part}
use Rattle.flat_model.specs.State.{FlatState}
use Rattle.flat_model.specs.Run.{changing_of}
use Rattle.trace.specs.Account.{Account, Frame, Carried, Load, Asks, Answers, items_of, if_taken_of, Effect, says, joined_by, extended, now, is_before, with_entry, with_entries, memory_at, recorded, entries_before, next_frame_number, nothing_yet}
use Rattle.client_model.specs.Client.{ClientPart, Sending, GivesUp, EndsFence, Sends, again, anew, next_id}
use Rattle.cl_types.specs.Parts.{same_client}
use Rattle.trace.specs.Clients.{request_of_part, first_sent, first_sending, first_of, texts_with, part_end, TookFrame, pid_of, client_at}
use Rattle.node_model.specs.Handling.{Handling, Repeats, RefusesForNow, Executes, Looks, item_outcome}
use Rattle.trace.specs.Properties.{Differ, AreDistinct}
use Rattle.cl_types.specs.Ranges.{is_typed}
use Rattle.trace.specs.Events.{record_of, entry_of, handled, item_handling, on_polled, on_flight, on_item, on_items, then_also, effect, account_from, keep_all}
use Rattle.client_laws.specs.Flights.{FlightOf}
use Rattle.trace.specs.Schedules.{IsRisingFrom, AreTyped}
use Rattle.lemmas.proofs.Lists.{each_append, each_weaker, each_weaker_with, none_some}
use Rattle.client_laws.proofs.Entries.{each_with_entries, first_of-append_none}
use Rattle.lemmas.proofs.SameParts.{contrary, same_refl, same_is}
use Rattle.client_laws.proofs.Items.{Tells, handling_tells, items_texts}
use Rattle.client_laws.proofs.Standings.{texts_extended}
use Rattle.client_laws.proofs.StateRead.{SendableOf}
use Rattle.client_laws.proofs.Cases.{Cases, peek_is_quiet, effect_by}
use Rattle.client_laws.proofs.Fences.{Followed, followed_next, followed_nothing}
use Rattle.trace_laws.proofs.Insert.{all_before}
use Rattle.trace_laws.proofs.Ran.{InRange, Ran}
use Rattle.trace_laws.proofs.RunKept.{item_runs, with_entries-append, ran_later, ran_next, ran_nothing}
use Rattle.trace_laws.proofs.TimesKept.{frame_at_each, sent_is_read, Times, times_later, times_next, times_nothing}
use Rattle.trace_laws.proofs.PartsOnce.{is_over, ItemOwned, EntryOwned, IsEntry, HasEntry, ReplyStands, Ids, PartsOnce}
use Rattle.trace_laws.proofs.Parts.{request_kept, is_over_kept, owned_kept, not_over, NotSent, quiet_not_sent, ids_quiet, ids_sent}
use Rattle.trace_laws.proofs.Induction.{past, of_account}
use Rattle.trace.proofs.HistoryLemmas.{each_with_entry}

-- ---- histories
pub has_kept : (e : Entry) (h : List Entry) (c : ClientNo) (p : Part) (reply : Reply) → HasEntry h c p reply → HasEntry (with_entry e h) c p reply
has_kept e [] c p reply k = inr k
has_kept e (x ∷ h) c p reply k = go (is_before e.line e.position x) (has_kept e h c p reply) k
  where
    go : (b : Bool) → (HasEntry h c p reply → HasEntry (with_entry e h) c p reply) → HasEntry (x ∷ h) c p reply → HasEntry (elim b [ true ↦ x ∷ with_entry e h | false ↦ e ∷ x ∷ h ]) c p reply
    go true rec (inl k) = inl k
    go true rec (inr k) = inr (rec k)
    go false rec k = inr k

pub has_new : (e : Entry) (h : List Entry) → HasEntry (with_entry e h) e.client e.part e.reply
has_new e [] = inl (record { client = refl; part = refl; reply_is = refl })
has_new e (x ∷ h) = go (is_before e.line e.position x) (has_new e h)
  where
    go : (b : Bool) → HasEntry (with_entry e h) e.client e.part e.reply → HasEntry (elim b [ true ↦ x ∷ with_entry e h | false ↦ e ∷ x ∷ h ]) e.client e.part e.reply
    go true k = inr k
    go false k = inl (record { client = refl; part = refl; reply_is = refl })

pub has_kept_all : (es h : List Entry) (c : ClientNo) (p : Part) (reply : Reply) → HasEntry h c p reply → HasEntry (with_entries es h) c p reply
has_kept_all [] h c p reply k = k
has_kept_all (e ∷ es) h c p reply k = has_kept_all es (with_entry e h) c p reply (has_kept e h c p reply k)

differ_back : (e x : Entry) → Differ e x → Differ x e
differ_back e x d c p = d (sym c) (sym p)

pub distinct_with_entry : (e : Entry) (h : List Entry) → Each (Differ e) h → AreDistinct h → AreDistinct (with_entry e h)
distinct_with_entry e [] d k = (tt, tt)
distinct_with_entry e (x ∷ h) d k = go (is_before e.line e.position x) (distinct_with_entry e h d.1 k.1)
  where
    go : (b : Bool) → AreDistinct (with_entry e h) → AreDistinct (elim b [ true ↦ x ∷ with_entry e h | false ↦ e ∷ x ∷ h ])
    go true m = (each_with_entry (Differ x) e h (differ_back e x d.0) k.0, m)
    go false m = (d, k)

-- ---- the record of a part
abbrev is_of : ClientNo → Part → Entry → Bool
is_of c p e = same_client c e.client && same_part p e.part

pub found_has : (c : ClientNo) (p : Part) (es : List Entry) (e : Entry) → record_of es c p ≡ Some e → HasEntry es c p e.reply
found_has c p [] e h = grind arith
found_has c p (x ∷ es) e h = go (is_of c p x) refl (found_has c p es e) h
  where
    go : (b : Bool) → is_of c p x ≡ b → (record_of es c p ≡ Some e → HasEntry es c p e.reply) → cond b (Some x) (record_of es c p) ≡ Some e → HasEntry (x ∷ es) c p e.reply
    go true t rec h = let same : x ≡ e = cc in let s = same_is c x.client p x.part t in
        inl (record { client = sym s.0; part = sym s.1; reply_is = ap (λ (z : Entry). z.reply) same })
    go false t rec h = inr (rec h)

pub has_filtered : (test : Entry → Bool) (es : List Entry) (c : ClientNo) (p : Part) (reply : Reply) → HasEntry (filter test es) c p reply → HasEntry es c p reply
has_filtered test [] c p reply h = h
has_filtered test (x ∷ es) c p reply h = go (test x) (has_filtered test es c p reply) h
  where
    go : (b : Bool) → (HasEntry (filter test es) c p reply → HasEntry es c p reply) → HasEntry (cond b (x ∷ filter test es) (filter test es)) c p reply → HasEntry (x ∷ es) c p reply
    go true rec (inl k) = inl k
    go true rec (inr k) = inr (rec k)
    go false rec k = inr (rec k)

find_none : (test : Entry → Bool) (es : List Entry) → find test es ≡ None → Each (λ (x : Entry). test x ≡ false) es
find_none test [] h = tt
find_none test (x ∷ es) h = go (test x) refl (find_none test es) h
  where
    go : (b : Bool) → test x ≡ b → (find test es ≡ None → Each (λ (x : Entry). test x ≡ false) es) → ◌≡◌ {A = Option Entry} (cond b (Some x) (find test es)) None → Each (λ (x : Entry). test x ≡ false) (x ∷ es)
    go true t rec h = grind arith
    go false t rec h = (t, rec h)

each_of_filter : (P : Entry → Type 0) (test : Entry → Bool) (es : List Entry) → Each P (filter test es) → Each (λ (x : Entry). test x ≡ true → P x) es
each_of_filter P test [] h = tt
each_of_filter P test (x ∷ es) h = go (test x) refl h (each_of_filter P test es)
  where
    go : (b : Bool) → test x ≡ b → Each P (cond b (x ∷ filter test es) (filter test es)) → (Each P (filter test es) → Each (λ (x : Entry). test x ≡ true → P x) es) → Each (λ (x : Entry). test x ≡ true → P x) (x ∷ es)
    go true t h rec = ((λ k. h.0), rec h.1)
    go false t h rec = ((λ k. absurd (grind arith)), rec h)

-- where no changing entry of the part is recorded, no entry of the history is of it
pub unrecorded : (config : Config) (a : Account) (h : List Entry) (l q : ℕ) (i : Carried) (reply : Reply) → ItemOwned config a i →
    Each (EntryOwned config a) h → Each (λ (x : Entry). is_before l q x ≡ true) h → is_changing i.item.request ≡ true → record_of (recorded h l q) i.item.head.client i.part ≡ None → Each (Differ (entry_of l q i reply)) h
unrecorded config a h l q i reply o owned before changing none =
    let all : entries_before h l q ≡ h = all_before (is_before l q) h before in
    let here : record_of (changing_of h) i.item.head.client i.part ≡ None = subst (λ z. record_of (changing_of z) i.item.head.client i.part ≡ None) all none in
    each_weaker_with (EntryOwned config a) (λ (x : Entry). is_changing x.request ≡ true → is_of i.item.head.client i.part x ≡ false) (Differ (entry_of l q i reply))
    (λ x k m c p. differs x k m c p) h owned
    (each_of_filter (λ (x : Entry). is_of i.item.head.client i.part x ≡ false) (λ (x : Entry). is_changing x.request) h (find_none (is_of i.item.head.client i.part) (changing_of h) here))
  where
    differs : (x : Entry) → EntryOwned config a x → (is_changing x.request ≡ true → is_of i.item.head.client i.part x ≡ false) → i.item.head.client ≡ x.client → i.part ≡ x.part → ⊥
    differs x k m c p =
        let mine : request_of_part a x.client x.part ≡ Some i.item.request = subst (λ z. request_of_part a z x.part ≡ Some i.item.request) c (subst (λ z. request_of_part a i.item.head.client z ≡ Some i.item.request) p o.request) in
        let its : request_of_part a x.client x.part ≡ Some x.request = k.owned.request in
        let same : i.item.request ≡ x.request = cc in
        let not_of : is_of i.item.head.client i.part x ≡ false = m (subst (λ z. is_changing z ≡ true) same changing) in
        let of : is_of i.item.head.client i.part x ≡ true = subst (λ z. (same_client i.item.head.client z && same_part i.part x.part) ≡ true) c (subst (λ z. (same_client i.item.head.client i.item.head.client && same_part i.part z) ≡ true) p (same_refl i.item.head.client i.part)) in
        contrary (is_of i.item.head.client i.part x) of not_of

-- ---- items, over an account whose lines tell the parts
pub record ItemsOnce (config : Config) (a : Account) (h : List Entry) (e : Effect) : Type 0 where
  pub answers : Each (λ (f : Frame). ReplyStands config a (with_entries e.entries h) f.load) e.frames
  pub items : Each (λ (f : Frame). items_of f.load ≡ []) e.frames
  pub looks : Each (λ (f : Frame). Each (EntryOwned config a) (if_taken_of f.load)) e.frames
  pub entries : Each (EntryOwned config a) e.entries
  pub changing : Each (λ (x : Entry). is_changing x.request ≡ true) e.entries
  pub distinct : AreDistinct (with_entries e.entries h)

pub entry_owned : (config : Config) (a : Account) (l q : ℕ) (i : Carried) (reply : Reply) → ItemOwned config a i → EntryOwned config a (entry_of l q i reply)
entry_owned config a l q i reply o = record { orig = i.item.head.orig; owned = record { moment = o.moment; sent = o.sent; request = o.request; process = o.process } }

handled_once : (config : Config) (a b : Account) (l k q : ℕ) (i : Carried) (retry : ℕ) → ItemOwned config a i → Each (EntryOwned config a) b.history → AreDistinct b.history
    → Each (λ (x : Entry). is_before l q x ≡ true) b.history → (s : FlatState) (h : Handling) → Tells (recorded b.history l q) retry b l i h → ItemsOnce config a b.history (handled s b l k q i h)
handled_once config a b l k q i retry w owned distinct before s (Repeats reply) tells = record {
  answers = (
    (
      i.part,
      i.item.request,
      w,
      (
        tells.0,
        subst (HasEntry b.history i.item.head.client i.part) tells.3
            (has_filtered _ b.history i.item.head.client i.part tells.1.reply (has_filtered _ (entries_before b.history l q) i.item.head.client i.part tells.1.reply (found_has i.item.head.client i.part (recorded b.history l q) tells.1 tells.2))),
      ),
    ),
    tt,
  );
  items = (refl, tt);
  looks = (tt, tt);
  entries = tt;
  changing = tt;
  distinct = distinct;
}
handled_once config a b l k q i retry w owned distinct before s (RefusesForNow oldest) tells = record { answers = tt; items = tt; looks = tt; entries = tt; changing = tt; distinct = distinct }
handled_once config a b l k q i retry w owned distinct before s Executes tells =
    let reply : Reply = (item_outcome s i.item).reply in
    record {
      answers = ((i.part, i.item.request, w, (tells.0, has_new (entry_of l q i (item_outcome s i.item).reply) b.history)), tt);
      items = (refl, tt);
      looks = (tt, tt);
      entries = (entry_owned config a l q i (item_outcome s i.item).reply w, tt);
      changing = (tells.0, tt);
      distinct = distinct_with_entry (entry_of l q i (item_outcome s i.item).reply) b.history (unrecorded config a b.history l q i (item_outcome s i.item).reply w owned before tells.0 tells.1) distinct;
    }
handled_once config a b l k q i retry w owned distinct before s Looks tells = record {
  answers = ((i.part, i.item.request, w, (tells, record { client = refl; part = refl; reply_is = refl }, refl)), tt);
  items = (refl, tt);
  looks = ((entry_owned config a l q i (item_outcome s i.item).reply w, tt), tt);
  entries = tt;
  changing = tt;
  distinct = distinct;
}

pub item_once : (config : Config) (a b : Account) (l k q : ℕ) (i : Carried) → ItemOwned config a i → Each (EntryOwned config a) b.history → AreDistinct b.history
    → Each (λ (x : Entry). is_before l q x ≡ true) b.history → ItemsOnce config a b.history (on_item keep_all config b l k q i)
item_once config a b l k q i w owned distinct before =
    handled_once config a b l k q i config.node.retry w owned distinct before (memory_at config b.history l q) (item_handling (recorded b.history l q) config.node.retry b l i)
    (handling_tells (recorded b.history l q) config.node.retry b l i)

answer_kept : (config : Config) (a : Account) (es h : List Entry) (load : Load) → ReplyStands config a h load → ReplyStands config a (with_entries es h) load
answer_kept config a es h (Asks items) k = tt
answer_kept config a es h (Answers head reply []) k = (k.0, k.1, k.2, (k.3.0, has_kept_all es h head.client k.0 reply k.3.1))
answer_kept config a es h (Answers head reply (x ∷ xs)) k = k

both_once : (config : Config) (a : Account) (h : List Entry) (e f : Effect) → ItemsOnce config a h e → ItemsOnce config a (with_entries e.entries h) f → ItemsOnce config a h (then_also e f)
both_once config a h e f x y =
    let join : with_entries (e.entries ++ f.entries) h ≡ with_entries f.entries (with_entries e.entries h) = with_entries-append e.entries f.entries h in
    record {
      answers = subst (λ z. Each (λ (g : Frame). ReplyStands config a z g.load) (e.frames ++ f.frames)) (sym join)
          (each_append _ e.frames f.frames (each_weaker _ _ (λ g. answer_kept config a f.entries (with_entries e.entries h) g.load) e.frames x.answers) y.answers);
      items = each_append _ e.frames f.frames x.items y.items;
      looks = each_append _ e.frames f.frames x.looks y.looks;
      entries = each_append _ e.entries f.entries x.entries y.entries;
      changing = each_append _ e.entries f.entries x.changing y.changing;
      distinct = subst AreDistinct (sym join) y.distinct;
    }

pub items_once : (config : Config) (a : Account) (l k : ℕ) (items : List Carried) (b : Account) (q : ℕ) → Each (ItemOwned config a) items
    → Each (EntryOwned config a) b.history → AreDistinct b.history → Ran config b l q → Each (λ (i : Carried). InRange i.item.request) items → ItemsOnce config a b.history (on_items keep_all config b l k q items)
items_once config a l k [] b q w owned distinct r g = record { answers = tt; items = tt; looks = tt; entries = tt; changing = tt; distinct = distinct }
items_once config a l k (i ∷ is) b q w owned distinct r g =
    let one : ItemsOnce config a b.history (on_item keep_all config b l k q i) = item_once config a b l k q i w.0 owned distinct r.before in
    both_once config a b.history (on_item keep_all config b l k q i) (on_items keep_all config (joined_by b (on_item keep_all config b l k q i)) l k (q + 1) is) one
    (items_once config a l k is (joined_by b (on_item keep_all config b l k q i)) (q + 1) w.1
    (each_with_entries (EntryOwned config a) (on_item keep_all config b l k q i).entries b.history one.entries owned) one.distinct (item_runs keep_all config b l k q i r g.0) g.1)

-- ---- the event
-- what is asked of an effect, over the account after it
record OnceFits (config : Config) (a new : Account) (e : Effect) : Type 0 where
  ids : Ids new
  items : Each (λ (f : Frame). Each (ItemOwned config new) (items_of f.load)) e.frames
  answers : Each (λ (f : Frame). ReplyStands config new (with_entries e.entries a.history) f.load) e.frames
  looks : Each (λ (f : Frame). Each (EntryOwned config new) (if_taken_of f.load)) e.frames
  entries : Each (EntryOwned config new) e.entries
  reads_over : Each (λ (x : Entry). is_changing x.request ≡ false → is_over new x.client x.part ≡ true) e.entries
  distinct : AreDistinct (with_entries e.entries a.history)

abbrev OnceFit : Config → Account → ℕ → Event → Effect → Type 0
OnceFit config a l event e = OnceFits config a (extended a l event e) e

pub entry_kept : (config : Config) (a : Account) (l : ℕ) (event : Event) (e : Effect) (x : Entry) → EntryOwned config a x → EntryOwned config (extended a l event e) x
entry_kept config a l event e x k = record { orig = k.orig; owned = owned_kept config a l event e x.client x.pid x.part x.request k.orig k.owned }

answer_stays : (config : Config) (a : Account) (l : ℕ) (event : Event) (e : Effect) (h : List Entry) (load : Load) → ReplyStands config a h load → ReplyStands config (extended a l event e) h load
answer_stays config a l event e h (Asks items) k = tt
answer_stays config a l event e h (Answers head reply if_taken) k = (k.0, k.1, owned_kept config a l event e head.client head.pid k.0 k.1 head.orig k.2, k.3)

once_kept : (config : Config) (a : Account) (l : ℕ) (event : Event) (e : Effect) → PartsOnce config a → OnceFit config a l event e → PartsOnce config (extended a l event e)
once_kept config a l event e o f = record {
  ids = f.ids;
  items = each_append _ a.frames e.frames (each_weaker _ _ (λ x. each_weaker _ _ (λ i k. owned_kept config a l event e i.item.head.client i.item.head.pid i.part i.item.request i.item.head.orig k) (items_of x.load)) a.frames o.items) f.items;
  answers = each_append _ a.frames e.frames
      (each_weaker _ _ (λ x k. answer_stays config a l event e (with_entries e.entries a.history) x.load (answer_kept config a e.entries a.history x.load k)) a.frames o.answers) f.answers;
  looks = each_append _ a.frames e.frames (each_weaker _ _ (λ x. each_weaker _ _ (entry_kept config a l event e) (if_taken_of x.load)) a.frames o.looks) f.looks;
  entries = each_with_entries _ e.entries a.history f.entries (each_weaker _ _ (entry_kept config a l event e) a.history o.entries);
  reads_over = each_with_entries _ e.entries a.history f.reads_over (each_weaker _ _ (λ x k r. is_over_kept a l event e x.client x.part (k r)) a.history o.reads_over);
  distinct = f.distinct;
}

-- ---- texts alone
text_once : (config : Config) (a : Account) (l : ℕ) (event : Event) (d : Did) → PartsOnce config a → NotSent d → OnceFit config a l event (says d)
text_once config a l event d o n = record { ids = ids_quiet a l event (says d) o.ids (n, tt); items = tt; answers = tt; looks = tt; entries = tt; reads_over = tt; distinct = o.distinct }

-- ---- a poll
again_once : (config : Config) (a : Account) (l : ℕ) (event : Event) (c : ClientNo) (f : Sending) → PartsOnce config a → FlightOf a c f
    → OnceFit config a l event (on_polled a l (client_at config a c) (Sends (again (next_id (client_at config a c)) f ∷ [])))
again_once config a l event c f o of = record {
  ids = ids_quiet a l event (on_polled a l (client_at config a c) (Sends (again (next_id (client_at config a c)) f ∷ []))) o.ids (tt, tt);
  items = (
    (
      owned_kept config a l event (on_polled a l (client_at config a c) (Sends (again (next_id (client_at config a c)) f ∷ []))) c (pid_of config c) f.part f.request f.orig
          (record { moment = f.first; sent = of.sent; request = of.request; process = refl }),
      tt,
    ),
    tt,
  );
  answers = (tt, tt);
  looks = (tt, tt);
  entries = tt;
  reads_over = tt;
  distinct = o.distinct;
}

anew_once : (config : Config) (a : Account) (l : ℕ) (event : Event) (c : ClientNo) (p : ClientPart) → PartsOnce config a → SendableOf config a c p
    → OnceFit config a l event (on_polled a l (client_at config a c) (Sends (anew (next_id (client_at config a c)) p ∷ [])))
anew_once config a l event c p o of = record {
  ids = ids_sent a l event (on_polled a l (client_at config a c) (Sends (anew (next_id (client_at config a c)) p ∷ []))) (next_frame_number a) c p.part o.ids refl;
  items = (
    (
      record {
        moment = now a l;
        sent = ap first_of (texts_extended (first_sending c p.part) a l event (on_polled a l (client_at config a c) (Sends (anew (next_id (client_at config a c)) p ∷ []))))
            ∙ first_of-append_none (texts_with a (first_sending c p.part)) _ of.unsent
            ∙ sent_is_read c p.part (next_frame_number a) (next_id (client_at config a c)) (now a l);
        request = request_kept a l event (on_polled a l (client_at config a c) (Sends (anew (next_id (client_at config a c)) p ∷ []))) c p.part p.request of.request;
        process = refl;
      },
      tt,
    ),
    tt,
  );
  answers = (tt, tt);
  looks = (tt, tt);
  entries = tt;
  reads_over = tt;
  distinct = o.distinct;
}

-- ---- a delivery at the node
asks_once : (config : Config) (a : Account) (l : ℕ) (event : Event) (k : ℕ) (items : List Carried) → PartsOnce config a → Ran config a l 0
    → Each (ItemOwned config a) items → Each (λ (i : Carried). InRange i.item.request) items → OnceFit config a l event (on_items keep_all config a l k 0 items)
asks_once config a l event k items o r w g =
    let e : Effect = on_items keep_all config a l k 0 items in
    let x : ItemsOnce config a a.history (on_items keep_all config a l k 0 items) = items_once config a l k items a 0 w o.entries o.distinct r g in
    record {
      ids = ids_quiet a l event (on_items keep_all config a l k 0 items) o.ids (items_texts NotSent ((λ frame client part how status reply. tt), (λ frame client part oldest at. tt)) keep_all config l k items a 0);
      items = each_weaker (λ (f : Frame). items_of f.load ≡ []) _ (λ f none. rw none tt) (on_items keep_all config a l k 0 items).frames x.items;
      answers = each_weaker _ _ (λ f. answer_stays config a l event (on_items keep_all config a l k 0 items) _ f.load) (on_items keep_all config a l k 0 items).frames x.answers;
      looks = each_weaker (λ (f : Frame). Each (EntryOwned config a) (if_taken_of f.load)) _ (λ f. each_weaker _ _ (entry_kept config a l event (on_items keep_all config a l k 0 items)) (if_taken_of f.load)) (on_items keep_all config a l k 0 items).frames x.looks;
      entries = each_weaker _ _ (entry_kept config a l event (on_items keep_all config a l k 0 items)) (on_items keep_all config a l k 0 items).entries x.entries;
      reads_over = each_weaker (λ (y : Entry). is_changing y.request ≡ true) _ (λ (y : Entry) changing reading. absurd (contrary (is_changing y.request) changing reading)) (on_items keep_all config a l k 0 items).entries x.changing;
      distinct = x.distinct;
    }

-- ---- a reply at its client
some_last : {X : Type 0} (xs : List X) (y : X) → is_some (first_of (xs ++ y ∷ [])) ≡ true
some_last [] y = refl
some_last (x ∷ xs) y = refl

took_read : (k t : ℕ) (c : ClientNo) (p : Part) → filter_map (part_end c p t) (did.Took k c p ∷ []) ≡ TookFrame k ∷ []
took_read k t c p = rw (same_refl c p) refl

took_over : (a : Account) (l : ℕ) (event : Event) (e : Effect) (k : ℕ) (c : ClientNo) (p : Part) → e.texts ≡ did.Took k c p ∷ [] → is_over (extended a l event e) c p ≡ true
took_over a l event e k c p tx =
    ap (λ z. is_some (first_of z)) (texts_extended (part_end c p) a l event e ∙ ap (λ z. texts_with a (part_end c p) ++ filter_map (part_end c p (now a l)) z) tx ∙ ap (λ z. texts_with a (part_end c p) ++ z) (took_read k (now a l) c p))
    ∙ some_last (texts_with a (part_end c p)) (TookFrame k)

-- a look's entry, of a part that is in flight, joins the history
taken_one : (config : Config) (a : Account) (l : ℕ) (event : Event) (k : ℕ) (head : Head) (reply : Reply) (e : Entry) (s : Sending) → PartsOnce config a →
    is_changing e.request ≡ false → e.client ≡ head.client → e.part ≡ s.part → EntryOwned config a e → is_over a head.client s.part ≡ false →
    OnceFit config a l event (on_flight (client_at config a head.client) k head reply (e ∷ []) (Some s))
taken_one config a l event k head reply e s o reading ce pe w is_open =
    let x : Effect = on_flight (client_at config a head.client) k head reply (e ∷ []) (Some s) in
    record {
      ids = ids_quiet a l event (on_flight (client_at config a head.client) k head reply (e ∷ []) (Some s)) o.ids (tt, tt);
      items = tt;
      answers = tt;
      looks = tt;
      entries = (entry_kept config a l event (on_flight (client_at config a head.client) k head reply (e ∷ []) (Some s)) e w, tt);
      reads_over = (
        (λ r. subst (λ z. is_over (extended a l event (on_flight (client_at config a head.client) k head reply (e ∷ []) (Some s))) z e.part ≡ true) (sym ce)
            (subst (λ z. is_over (extended a l event (on_flight (client_at config a head.client) k head reply (e ∷ []) (Some s))) head.client z ≡ true) (sym pe)
            (took_over a l event (on_flight (client_at config a head.client) k head reply (e ∷ []) (Some s)) k head.client s.part refl))),
        tt,
      );
      distinct = distinct_with_entry e a.history (each_weaker_with _ _ (Differ e) differs a.history o.entries o.reads_over) o.distinct;
    }
  where
    differs : (x : Entry) → EntryOwned config a x → (is_changing x.request ≡ false → is_over a x.client x.part ≡ true) → e.client ≡ x.client → e.part ≡ x.part → ⊥
    differs x m over c q =
        let mine : request_of_part a x.client x.part ≡ Some e.request = subst (λ z. request_of_part a z x.part ≡ Some e.request) c (subst (λ z. request_of_part a e.client z ≡ Some e.request) q w.owned.request) in
        let its : request_of_part a x.client x.part ≡ Some x.request = m.owned.request in
        let same : e.request ≡ x.request = cc in
        let yes : is_over a x.client x.part ≡ true = over (subst (λ z. is_changing z ≡ false) same reading) in
        let no : is_over a x.client x.part ≡ false = subst (λ z. is_over a z x.part ≡ false) (sym ce ∙ c) (subst (λ z. is_over a head.client z ≡ false) (sym pe ∙ q) is_open) in
        contrary (is_over a x.client x.part) yes no

-- the part of a reply, by its orig, is the one in flight
pub part_by_orig : (config : Config) (a : Account) (head : Head) (reply : Reply) (if_taken : List Entry) (f : Sending) → Ids a → (w : ReplyStands config a a.history (Answers head reply if_taken)) → FlightOf a head.client f → f.orig ≡ head.orig → w.0 ≡ f.part
part_by_orig config a head reply if_taken f ids w of orig = ids.one head.client w.0 f.part head.orig w.2.moment f.first w.2.sent (subst (λ z. first_sent a head.client f.part ≡ Some (z, f.first)) orig of.sent)

taken_once : (config : Config) (a : Account) (l : ℕ) (event : Event) (k : ℕ) (head : Head) (reply : Reply) (if_taken : List Entry) (f : Sending) → PartsOnce config a →
    ReplyStands config a a.history (Answers head reply if_taken) → Each (EntryOwned config a) if_taken → FlightOf a head.client f → is_over a head.client f.part ≡ false → f.orig ≡ head.orig →
    OnceFit config a l event (on_flight (client_at config a head.client) k head reply if_taken (Some f))
taken_once config a l event k head reply [] f o w g of is_open orig = record {
  ids = ids_quiet a l event (on_flight (client_at config a head.client) k head reply [] (Some f)) o.ids (tt, tt);
  items = tt;
  answers = tt;
  looks = tt;
  entries = tt;
  reads_over = tt;
  distinct = o.distinct;
}
taken_once config a l event k head reply (e ∷ es) f o w g of is_open orig =
    let part : w.0 ≡ f.part = part_by_orig config a head reply (e ∷ es) f o.ids w of orig in
    let is : IsEntry head.client w.0 reply e = w.3.1 in
    let mine : request_of_part a head.client w.0 ≡ Some e.request = subst (λ z. request_of_part a z w.0 ≡ Some e.request) is.client (subst (λ z. request_of_part a e.client z ≡ Some e.request) is.part g.0.owned.request) in
    let its : request_of_part a head.client w.0 ≡ Some w.1 = w.2.request in
    let request : w.1 ≡ e.request = cc in
    subst (λ z. OnceFit config a l event (on_flight (client_at config a head.client) k head reply (e ∷ z) (Some f))) (sym w.3.2)
    (taken_one config a l event k head reply e f o (subst (λ z. is_changing z ≡ false) request w.3.0) is.client (is.part ∙ part) g.0 is_open)

-- ---- the cases
once_cases : (config : Config) (a : Account) (l : ℕ) → PartsOnce config a → Ran config a l 0 → ((c : ClientNo) → Followed a c) → Cases keep_all config a l (OnceFit config a l)
once_cases config a l o r h = record {
  quiet = λ event d no_peek quiet. text_once config a l event d o (quiet_not_sent d quiet);
  peeks = λ pid addr n. peek_is_quiet (OnceFit config a l (event.Peek pid addr n)) (λ d quiet. text_once config a l (event.Peek pid addr n) d o (quiet_not_sent d quiet)) (memory_at config a.history l 0) pid addr n;
  issues = λ c text none. text_once config a l (event.Call c text) (did.Issued _ _) o tt;
  gives_up = λ c f of old. record { ids = ids_quiet a l (event.Poll c) (on_polled a l (client_at config a c) (GivesUp f)) o.ids (tt, tt); items = tt; answers = tt; looks = tt; entries = tt; reads_over = tt; distinct = o.distinct };
  ends_fence = λ c k rest is fence. record { ids = ids_quiet a l (event.Poll c) (on_polled a l (client_at config a c) (EndsFence k.number)) o.ids (tt, tt); items = tt; answers = tt; looks = tt; entries = tt; reads_over = tt; distinct = o.distinct };
  sends_again = λ c f of due. again_once config a l (event.Poll c) c f o of;
  sends = λ c p of. anew_once config a l (event.Poll c) c p o of;
  items = λ event k frame items delivers given. asks_once config a l event k items o r
      (subst (λ (x : Load). Each (ItemOwned config a) (items_of x)) given.carries (frame_at_each (λ (f : Frame). Each (ItemOwned config a) (items_of f.load)) a k frame o.items given.is_frame))
      (subst (λ (x : Load). Each (λ (i : Carried). InRange i.item.request) (items_of x)) given.carries (frame_at_each (λ (f : Frame). Each (λ (i : Carried). InRange i.item.request) (items_of f.load)) a k frame r.items given.is_frame));
  takes = λ event k frame head reply if_taken f delivers given of orig. taken_once config a l event k head reply if_taken f o
      (subst (ReplyStands config a a.history) given.carries (frame_at_each (λ (f : Frame). ReplyStands config a a.history f.load) a k frame o.answers given.is_frame))
      (subst (λ (x : Load). Each (EntryOwned config a) (if_taken_of x)) given.carries (frame_at_each (λ (f : Frame). Each (EntryOwned config a) (if_taken_of f.load)) a k frame o.looks given.is_frame))
      of (not_over a head.client f.part (h head.client).premises.told of.is_open) orig;
}

-- ---- together with times, run and clients
pub record Base (config : Config) (a : Account) (l : ℕ) : Type 0 where
  pub times : Times a l
  pub ran : Ran config a l 0
  pub followed : (c : ClientNo) → Followed a c
  pub once : PartsOnce config a

pub base_later : (config : Config) (a : Account) (l m : ℕ) → l ≤ m → Base config a l → Base config a m
base_later config a l m h b = record { times = times_later a l m h b.times; ran = ran_later config a l m h b.ran; followed = b.followed; once = b.once }

pub base_next : (config : Config) (a : Account) (l : ℕ) (e : Event) → is_typed e ≡ true → Base config a l → Base config (extended a l e (effect keep_all config a l e)) (suc l)
base_next config a l e typed b = record {
  times = times_next keep_all config a l e b.times;
  ran = ran_next keep_all config a l e typed b.ran;
  followed = λ c. followed_next keep_all config a (l, e) c (b.followed c);
  once = once_kept config a l e (effect keep_all config a l e) b.once (effect_by keep_all config a l (OnceFit config a l) (once_cases config a l b.once b.ran b.followed) e);
}

pub base_nothing : (config : Config) → Base config nothing_yet 0
base_nothing config = record {
  times = times_nothing;
  ran = ran_nothing config;
  followed = followed_nothing;
  once = record { ids = record { below = λ c p o m h. absurd (none_some (o, m) h); one = λ c p q o m n h k. absurd (none_some (o, m) h) }; items = tt; answers = tt; looks = tt; entries = tt; reads_over = tt; distinct = tt };
}

pub base_of_account : (config : Config) (events : List (ℕ × Event)) → IsRisingFrom 0 events → AreTyped events → Base config (account_from keep_all config nothing_yet events) (past 0 events)
base_of_account config events rising typed = of_account keep_all config (Base config) (base_later config) (base_next config) events rising typed (base_nothing config)
