-- Each event keeps the history a run.
use Rattle.std.proofs.Common.{◌≡◌, ℕ, zero, suc, ◌+◌, ◌<◌, ◌≤◌, List, [], ◌∷◌, ◌++◌, refl, sym, ap, ◌∙◌, subst, Bool, true, false, cond, arith, Some, None, Option}
use Rattle.std.specs.Prelude.{◌&&◌, ◌||◌}
use Rattle.std.specs.List.{AllByRecursion as Each, list_any}
use Rattle.std.proofs.lemmas.List.{append_assoc}
use Rattle.cl_types.specs.declared.numbers.Addr.{Addr}
use Rattle.cl_types.specs.declared.numbers.ClientNo.{ClientNo}
use Rattle.cl_types.specs.declared.call.Call.{Call}
use Rattle.cl_types.specs.declared.config.Config.{Config}
use Rattle.cl_types.specs.declared.reply.Part.{Part}
use Rattle.cl_types.specs.declared.request.Request.{Request}
use Rattle.cl_types.specs.declared.schedule.CallText.{CallText}
use Rattle.cl_types.specs.declared.schedule.Event.{Event}
use Rattle.cl_types.specs.declared.schedule.Event.TheVariants as event
use Rattle.cl_types.specs.declared.line.Did.{Did}
use Rattle.cl_types.specs.declared.line.Did.TheVariants as did
use Rattle.cl_types.specs.declared.line.Entry.{Entry}
use Rattle.client_model.specs.Cut.{cut}
use Rattle.client_model.specs.Issue.{issue_fault}
use Rattle.cl_types.specs.Ranges.{is_typed}
use Rattle.trace.specs.Account.{Account, Line, Frame, Carried, Load, items_of, if_taken_of, Effect, says, joined_by, extended, is_before, with_entry, with_entries, memory_at, recorded, next_frame_number, nothing_yet}
use Rattle.client_model.specs.Client.{Outgoing, GivesUp, EndsFence, Sends, again, anew, next_id}
use Rattle.cl_types.specs.Parts.{same_client}
use Rattle.cl_types.specs.Written.{call_of}
use Rattle.trace.specs.Clients.{call_at, part_request, request_of_part, issued, issued_on, says_issued, client_at}
use Rattle.node_model.specs.Handling.{Handling, Repeats, RefusesForNow, Executes, Looks, item_outcome}
use Rattle.trace.specs.Properties.{ShowsMemory}
use Rattle.trace.specs.Events.{entry_of, handled, item_handling, on_peek, on_judged, on_polled, on_flight, on_item, on_items, then_also, effect, account_from, keep_all}
use Rattle.trace.specs.Schedules.{IsRisingFrom, AreTyped}
use Rattle.trace_laws.specs.Runs.{LawOfRuns}
use Rattle.lemmas.proofs.Lists.{each_append, each_weaker, each_filter_map_from, each_slice_get, and_then_some}
use Rattle.client_laws.proofs.Standings.{line_of}
use Rattle.trace_laws.proofs.Places.{before_next, before_line, before_from_line, line_of_before, at_next}
use Rattle.trace_laws.proofs.Ran.{InRange, IssuesGood, LookOf, Ran}
use Rattle.trace_laws.proofs.Joined.{Grown, all_taken, executed, ran_joined}
use Rattle.trace_laws.proofs.CutRanges.{cut_in_range}
use Rattle.client_laws.proofs.Cases.{IsQuiet, IsNoPeek, Cases, delivery_no_peek, peek_is_quiet, effect_by}
use Rattle.client_laws.proofs.Items.{items_texts, Tells, handling_tells}
use Rattle.trace_laws.proofs.TimesKept.{frame_at_each}
use Rattle.trace_laws.proofs.Induction.{past, of_account}
use Rattle.client_laws.proofs.Premises.{cond_none, none_any}

-- ---- effects
same_grown : (config : Config) (a : Account) (l q p : ℕ) → Ran config a l q → ((x : Entry) → is_before l q x ≡ true → is_before l p x ≡ true) → Grown config a.history a.history l q p
same_grown config a l q p r later = record { sorted = r.sorted; before = each_weaker _ _ later a.history r.before; run = r.run; memory = λ m n t. refl }

-- the line of the event joins too
line_joins : (config : Config) (a : Account) (l p : ℕ) (event : Event) (e : Effect) → Ran config (joined_by a e) l p → IssuesGood (line_of a l event e) →
    ShowsMemory config (joined_by a e).history (line_of a l event e) event → Ran config (extended a l event e) (suc l) 0
line_joins config a l p event e r good shows = record {
  sorted = r.sorted;
  before = each_weaker _ _ (λ x. before_line l p (suc l) x (omega arith)) (joined_by a e).history r.before;
  run = r.run;
  calls = each_append _ a.lines _ r.calls (good, tt);
  items = r.items;
  looked = each_weaker _ _ (λ f. each_weaker _ _ (λ x k. record { reading = k.reading; in_range = k.in_range; before = before_line l p (suc l) x (omega arith) k.before; reply = k.reply }) (if_taken_of f.load)) (joined_by a e).frames r.looked;
  rising = each_append _ a.lines _ (each_weaker _ _ (λ (line : Line) (k : line.number < l). omega arith) a.lines r.rising) (omega arith, tt);
  peeks = each_append _ a.lines _ r.peeks (shows, tt);
}

-- what an effect and its line do to a run, where the event's numbers are those of their types
record Runs (config : Config) (a : Account) (l : ℕ) (event : Event) (e : Effect) : Type 0 where
  position : ℕ
  ran : Ran config (joined_by a e) l position
  good : IssuesGood (line_of a l event e)
  shows : ShowsMemory config (joined_by a e).history (line_of a l event e) event

abbrev RunFit : Config → Account → ℕ → Event → Effect → Type 0
RunFit config a l event e = is_typed event ≡ true → Runs config a l event e

-- an effect with no entries, whose frames ask in range and leave no looks
plain_runs : (config : Config) (a : Account) (l : ℕ) (e : Effect) → e.entries ≡ [] → Ran config a l 0 →
    Each (λ (f : Frame). Each (λ (i : Carried). InRange i.item.request) (items_of f.load)) e.frames → Each (λ (f : Frame). if_taken_of f.load ≡ []) e.frames → Ran config (joined_by a e) l 0
plain_runs config a l e plain r items none =
    ran_joined config a l 0 0 e r (subst (λ es. Grown config a.history (with_entries es a.history) l 0 0) (sym plain) (same_grown config a l 0 0 r (λ x k. k))) (λ x k. k) items
    (each_weaker _ _ (λ f e. rw e tt) e.frames none)

-- ---- lines that issue nothing and show nothing
none_issued : (c : ClientNo) (event : Event) (texts : List Did) → list_any says_issued texts ≡ false → issued_on c event texts ≡ None
none_issued c (event.Call client text) texts none = cond_none (same_client c client && list_any says_issued texts) (call_of text) (ap (λ b. same_client c client && b) none ∙ and_false (same_client c client)) where
  and_false : (b : Bool) → (b && false) ≡ false
  and_false true = refl
  and_false false = refl
none_issued c other texts none = refl

issues_none : (a : Account) (l : ℕ) (event : Event) (e : Effect) → list_any says_issued e.texts ≡ false → IssuesGood (line_of a l event e)
issues_none a l event e none c k h = absurd (none_some k (sym (none_issued c event e.texts none) ∙ h)) where
  none_some : (k : Call) → ◌≡◌ {A = Option Call} None (Some k) → ⊥
  none_some k e = grind arith

shows_none : (config : Config) (h : List Entry) (line : Line) (event : Event) → IsNoPeek event → ShowsMemory config h line event
shows_none config h line (event.Peek pid addr len) none = absurd none
shows_none config h line other none = tt

calm : (config : Config) (a : Account) (l : ℕ) (event : Event) (e : Effect) → IsNoPeek event → list_any says_issued e.texts ≡ false → (p : ℕ) → Ran config (joined_by a e) l p → RunFit config a l event e
calm config a l event e no_peek none p r typed = record { position = p; ran = r; good = issues_none a l event e none; shows = shows_none config (joined_by a e).history (line_of a l event e) event no_peek }

quiet_issues_none : (d : Did) → IsQuiet d → says_issued d ≡ false
quiet_issues_none (did.Issued client call) q = absurd q
quiet_issues_none other q = refl

or_false : (b : Bool) → b ≡ false → (b || false) ≡ false
or_false b e = ap (λ x. x || false) e

quiet_runs : (config : Config) (a : Account) (l : ℕ) (d : Did) → Ran config a l 0 → Ran config (joined_by a (says d)) l 0
quiet_runs config a l d r = plain_runs config a l (says d) refl r tt tt

-- an effect of texts alone
record Plain (e : Effect) : Type 0 where
  entries : e.entries ≡ []
  frames : e.frames ≡ []
  issued : list_any says_issued e.texts ≡ false

peek_runs : (config : Config) (a : Account) (l pid : ℕ) (addr : Addr) (n : ℕ) → Ran config a l 0 → RunFit config a l (event.Peek pid addr n) (on_peek (memory_at config a.history l 0) pid addr n)
peek_runs config a l pid addr n r typed =
    let e : Effect = on_peek (memory_at config a.history l 0) pid addr n in
    let plain = peek_is_quiet Plain (λ d quiet. record { entries = refl; frames = refl; issued = or_false (says_issued d) (quiet_issues_none d quiet) }) (memory_at config a.history l 0) pid addr n in
    record {
      position = 0;
      ran = plain_runs config a l (on_peek (memory_at config a.history l 0) pid addr n) plain.entries r (rw plain.frames tt) (rw plain.frames tt);
      good = issues_none a l (event.Peek pid addr n) (on_peek (memory_at config a.history l 0) pid addr n) plain.issued;
      shows = subst (λ es. (on_peek (memory_at config a.history l 0) pid addr n).texts ≡ (on_peek (memory_at config (with_entries es a.history) l 0) pid addr n).texts) (sym plain.entries) refl;
    }

-- ---- calls
call_runs : (config : Config) (a : Account) (l : ℕ) (c : ClientNo) (t : CallText) → Ran config a l 0 → issue_fault (client_at config a c) (call_of t) ≡ None
    → RunFit config a l (event.Call c t) (on_judged (client_at config a c) None)
call_runs config a l c t r none typed = record { position = 0; ran = plain_runs config a l (on_judged (client_at config a c) None) refl r tt tt; good = good; shows = tt } where
  good : IssuesGood (line_of a l (event.Call c t) (on_judged (client_at config a c) None))
  good d k h = go (same_client d c && true) h where
    go : (b : Bool) → cond b (Some (call_of t)) None ≡ Some k → Each InRange (cut k)
    go true h = let same : call_of t ≡ k = cc in subst (λ z. Each InRange (cut z)) same (cut_in_range (client_at config a c) t typed none)
    go false h = grind arith

-- ---- polls
-- a part of an issued call is in its ranges
call_at_each : (P : Call → Type 0) (calls : List Call) (n : ℕ) (k : Call) → Each P calls → call_at calls n ≡ Some k → P k
call_at_each P calls zero k h e = grind arith
call_at_each P calls (suc n) k h e = each_slice_get P calls n k h e

pub part_in_range : (config : Config) (a : Account) (l q : ℕ) (c : ClientNo) (p : Part) (r : Request) → Ran config a l q → request_of_part a c p ≡ Some r → InRange r
part_in_range config a l q c p r ran request =
    let k = and_then_some (part_request p) (call_at (issued a c) p.call.0) r request in
    let good : Each InRange (cut k.0) = call_at_each (λ (k : Call). Each InRange (cut k)) (issued a c) p.call.0 k.0
    (each_filter_map_from (λ (k : Call). Each InRange (cut k)) IssuesGood (λ line. issued_on c line.event line.texts) (λ line k good e. good c k e) a.lines ran.calls) k.1 in
    each_slice_get InRange (cut k.0) p.part r good k.2

sends_run : (config : Config) (a : Account) (l : ℕ) (c : ClientNo) (o : Outgoing) → Ran config a l 0 → request_of_part a c o.part ≡ Some o.request
    → RunFit config a l (event.Poll c) (on_polled a l (client_at config a c) (Sends (o ∷ [])))
sends_run config a l c o r request =
    calm config a l (event.Poll c) (on_polled a l (client_at config a c) (Sends (o ∷ []))) tt (none o.again) 0
    (plain_runs config a l (on_polled a l (client_at config a c) (Sends (o ∷ []))) refl r ((part_in_range config a l 0 c o.part o.request r request, tt), tt) (refl, tt))
  where
    none : (b : Bool) → list_any says_issued (cond b (did.Again (next_frame_number a) c o.part o.id o.orig) (did.Sent (next_frame_number a) c o.part o.id) ∷ []) ≡ false
    none true = refl
    none false = refl

-- ---- the items of a frame
handled_runs : (config : Config) (b : Account) (l k q : ℕ) (i : Carried) → Ran config b l q → InRange i.item.request → (records : List Entry) (retry : ℕ) (h : Handling) → Tells records retry b l i h
    → Ran config (joined_by b (handled (memory_at config b.history l q) b l k q i h)) l (q + 1)
handled_runs config b l k q i r g records retry (Repeats reply) tells =
    ran_joined config b l q (q + 1) (handled (memory_at config b.history l q) b l k q i (Repeats reply)) r (same_grown config b l q (q + 1) r (λ x. before_next l q x)) (λ x. before_next l q x) (tt, tt) (tt, tt)
handled_runs config b l k q i r g records retry (RefusesForNow oldest) tells =
    ran_joined config b l q (q + 1) (handled (memory_at config b.history l q) b l k q i (RefusesForNow oldest)) r (same_grown config b l q (q + 1) r (λ x. before_next l q x)) (λ x. before_next l q x) tt tt
handled_runs config b l k q i r g records retry Executes tells =
    ran_joined config b l q (q + 1) (handled (memory_at config b.history l q) b l k q i Executes) r
    (executed config b.history l q (entry_of l q i (item_outcome (memory_at config b.history l q) i.item).reply) r.sorted r.before r.run refl refl g refl)
    (λ x. before_next l q x) (tt, tt) (tt, tt)
handled_runs config b l k q i r g records retry Looks tells =
    ran_joined config b l q (q + 1) (handled (memory_at config b.history l q) b l k q i Looks) r (same_grown config b l q (q + 1) r (λ x. before_next l q x)) (λ x. before_next l q x) (tt, tt)
    ((record { reading = tells; in_range = g; before = at_next l q (entry_of l q i (item_outcome (memory_at config b.history l q) i.item).reply) refl refl; reply = refl }, tt), tt)

pub item_runs : (keep : List Entry → List Entry) (config : Config) (b : Account) (l k q : ℕ) (i : Carried) → Ran config b l q → InRange i.item.request → Ran config (joined_by b (on_item keep config b l k q i)) l (q + 1)
item_runs keep config b l k q i r g = handled_runs config b l k q i r g (keep (recorded b.history l q)) config.node.retry (item_handling (keep (recorded b.history l q)) config.node.retry b l i)
    (handling_tells (keep (recorded b.history l q)) config.node.retry b l i)

pub with_entries-append : (es fs h : List Entry) → with_entries (es ++ fs) h ≡ with_entries fs (with_entries es h)
with_entries-append [] fs h = refl
with_entries-append (e ∷ es) fs h = with_entries-append es fs (with_entry e h)

pub joined_twice : (b : Account) (e f : Effect) → joined_by (joined_by b e) f ≡ joined_by b (then_also e f)
joined_twice b e f = λ i. record { lines = b.lines; frames = append_assoc b.frames e.frames f.frames i; history = sym (with_entries-append e.entries f.entries b.history) i }

items_run : (keep : List Entry → List Entry) (config : Config) (l k : ℕ) (items : List Carried) (b : Account) (q : ℕ) → Ran config b l q → Each (λ (i : Carried). InRange i.item.request) items
    → (p : ℕ) × Ran config (joined_by b (on_items keep config b l k q items)) l p
items_run keep config l k [] b q r g =
    (q, ran_joined config b l q q (on_items keep config b l k q []) r (same_grown config b l q q r (λ x k. k)) (λ x k. k) tt tt)
items_run keep config l k (i ∷ is) b q r g =
    let one : Ran config (joined_by b (on_item keep config b l k q i)) l (q + 1) = item_runs keep config b l k q i r g.0 in
    let rest = items_run keep config l k is (joined_by b (on_item keep config b l k q i)) (q + 1) one g.1 in
    (rest.0, subst (λ z. Ran config z l rest.0) (joined_twice b (on_item keep config b l k q i) (on_items keep config (joined_by b (on_item keep config b l k q i)) l k (q + 1) is)) rest.1)

-- ---- the cases
run_cases : (keep : List Entry → List Entry) (config : Config) (a : Account) (l : ℕ) → Ran config a l 0 → Cases keep config a l (RunFit config a l)
run_cases keep config a l r = record {
  quiet = λ event d no_peek quiet. calm config a l event (says d) no_peek (or_false (says_issued d) (quiet_issues_none d quiet)) 0 (quiet_runs config a l d r);
  peeks = λ pid addr n. peek_runs config a l pid addr n r;
  issues = λ c t none. call_runs config a l c t r none;
  gives_up = λ c f of old. calm config a l (event.Poll c) (on_polled a l (client_at config a c) (GivesUp f)) tt refl 0 (plain_runs config a l (on_polled a l (client_at config a c) (GivesUp f)) refl r tt tt);
  ends_fence = λ c k rest is fence. calm config a l (event.Poll c) (on_polled a l (client_at config a c) (EndsFence k.number)) tt refl 0 (plain_runs config a l (on_polled a l (client_at config a c) (EndsFence k.number)) refl r tt tt);
  sends_again = λ c f of due. sends_run config a l c (again (next_id (client_at config a c)) f) r of.request;
  sends = λ c p of. sends_run config a l c (anew (next_id (client_at config a c)) p) r of.request;
  items = λ event k frame items delivers given.
      let in_range : Each (λ (i : Carried). InRange i.item.request) items = subst (λ (x : Load). Each (λ (i : Carried). InRange i.item.request) (items_of x)) given.carries
      (frame_at_each (λ (f : Frame). Each (λ (i : Carried). InRange i.item.request) (items_of f.load)) a k frame r.items given.is_frame) in
      let ran = items_run keep config l k items a 0 r in_range in
      calm config a l event (on_items keep config a l k 0 items) (delivery_no_peek event delivers)
      (none_any says_issued (on_items keep config a l k 0 items).texts (items_texts (λ (d : Did). says_issued d ≡ false) ((λ f c p how status reply. refl), (λ f c p oldest at. refl)) keep config l k items a 0))
      ran.0 ran.1;
  takes = λ event k frame head reply if_taken f delivers given of orig.
      let looks : Each (LookOf config a.history l 0) if_taken = subst (λ (x : Load). Each (LookOf config a.history l 0) (if_taken_of x)) given.carries
      (frame_at_each (λ (f : Frame). Each (LookOf config a.history l 0) (if_taken_of f.load)) a k frame r.looked given.is_frame) in
      calm config a l event (on_flight (client_at config a head.client) k head reply if_taken (Some f)) (delivery_no_peek event delivers) refl 0
      (ran_joined config a l 0 0 (on_flight (client_at config a head.client) k head reply if_taken (Some f)) r (all_taken config if_taken a.history l 0 r.sorted r.before r.run looks) (λ x k. k) tt tt);
}

-- ---- the induction
pub ran_later : (config : Config) (a : Account) (l m : ℕ) → l ≤ m → Ran config a l 0 → Ran config a m 0
ran_later config a l m h r = record {
  sorted = r.sorted;
  before = each_weaker _ _ later a.history r.before;
  run = r.run;
  calls = r.calls;
  items = r.items;
  looked = each_weaker _ _ (λ f. each_weaker _ _ (λ x k. record { reading = k.reading; in_range = k.in_range; before = later x k.before; reply = k.reply }) _) a.frames r.looked;
  rising = each_weaker _ (λ (line : Line). line.number < m) (λ (line : Line) (k : line.number < l). omega arith) a.lines r.rising;
  peeks = r.peeks;
}
  where
    later : (x : Entry) → is_before l 0 x ≡ true → is_before m 0 x ≡ true
    later x k = let n : x.line < l = line_of_before l x k in before_from_line m 0 x (omega arith)

pub ran_next : (keep : List Entry → List Entry) (config : Config) (a : Account) (l : ℕ) (e : Event) → is_typed e ≡ true → Ran config a l 0 → Ran config (extended a l e (effect keep config a l e)) (suc l) 0
ran_next keep config a l e typed r =
    let runs : Runs config a l e (effect keep config a l e) = effect_by keep config a l (RunFit config a l) (run_cases keep config a l r) e typed in
    line_joins config a l runs.position e (effect keep config a l e) runs.ran runs.good runs.shows

pub ran_nothing : (config : Config) → Ran config nothing_yet 0 0
ran_nothing config = record { sorted = tt; before = tt; run = tt; calls = tt; items = tt; looked = tt; rising = tt; peeks = tt }

pub ran_of_account : (keep : List Entry → List Entry) (config : Config) (events : List (ℕ × Event)) → IsRisingFrom 0 events → AreTyped events
    → Ran config (account_from keep config nothing_yet events) (past 0 events) 0
ran_of_account keep config events rising typed =
    of_account keep config (λ a l. Ran config a l 0) (λ a l m. ran_later config a l m) (λ a l e. ran_next keep config a l e) events rising typed (ran_nothing config)

pub law_of_runs : LawOfRuns
law_of_runs config events rising typed =
    let r : Ran config (account_from keep_all config nothing_yet events) (past 0 events) 0 = ran_of_account keep_all config events rising typed in
    record { run = r.run; peeks = r.peeks }
