-- The law of the span, by the node that keeps all.
use Rattle.std.proofs.Common.{◌≡◌, ℕ, ◌+◌, ◌-◌, ◌<◌, ◌≤◌, List, [], ◌∷◌, ◌++◌, refl, sym, ap, ◌∙◌, subst, Bool, true, false, cond, arith, Some, None, Option, length, map, drop, append_assoc}
use Rattle.std.specs.Prelude.{option_map, ◌||◌}
use Rattle.std.specs.List.{AllByRecursion as Each, list_any}
use Rattle.std.proofs.lemmas.List.{append-nil, map-append}
use Rattle.cl_types.specs.Requests.{is_changing}
use Rattle.cl_types.specs.declared.frame.BadFrame.{BadFrame}
use Rattle.cl_types.specs.declared.limits.TheConstants.{SPAN}
use Rattle.frame_model.specs.Frames.{Item, request_fault}
use Rattle.node_model.specs.Handling.{Handling, Repeats, RefusesForNow, Executes, Looks, handling, item_outcome, latest, oldest_of}
use Rattle.node_model.specs.Nodes.{Name, Record, NodeState, IsSetUp, NodeStep, Says, name_of, same_name, record_named, handles, node_after, said_to, items_judged, items_read, answer_judged, node_answer, node_given, keep_every, keeping, ideal}
use Rattle.node_laws.specs.Span.{Given, answers_to, if_executed, executed_in, executed_over, AreInTime, IsInSpan, AreInSpan, KeepSpan, AreNew, LawOfSpan}
use Rattle.lemmas.proofs.Lists.{each_append, each_weaker, slice_get_within}
use Rattle.node_model.proofs.Handled.{HandledBy, handled_by}
use Rattle.node_laws.proofs.Window.{Spaced, spaced_more, window, window_none, oldest_latest, latest_more}

-- ---- the two nodes at once
-- the node that keeps all, with its latest records alone
abbrev kept : NodeState → NodeState
kept n = record n { records = latest n.retry n.records }

-- what holds of the node that keeps all at a moment
record Fair (n : NodeState) (t : ℕ) : Type 0 where
  some : 1 ≤ n.retry
  spaced : Spaced {X = Record} (λ r. r.moment) n.retry n.records
  past : Each (λ (r : Record). r.moment ≤ t) n.records

-- how an item is handled by these records
abbrev pub by_records : List Record → ℕ → ℕ → Item → Handling
by_records records retry t i = handling
    (is_changing i.request)
    (option_map (λ r. r.reply) (record_named (name_of i) records))
    t
    (option_map (λ r. r.moment) (oldest_of retry records))

-- a changing item is handled alike by all records and by the latest
same_found : (n : NodeState) (t : ℕ) (i : Item) → Fair n t → ((r : Record) → record_named (name_of i) n.records ≡ Some r → t < r.moment + SPAN)
    → record_named (name_of i) (latest n.retry n.records) ≡ record_named (name_of i) n.records
same_found n t i fair young = go (record_named (name_of i) n.records) refl where
  go : (o : Option Record) → record_named (name_of i) n.records ≡ o → record_named (name_of i) (latest n.retry n.records) ≡ record_named (name_of i) n.records
  go None is = window_none {X = Record} (λ r. r.moment) n.retry (λ r. same_name (name_of i) r.name) n.records is ∙ sym is
  go (Some r) is = window {X = Record} (λ r. r.moment) n.retry (λ r. same_name (name_of i) r.name) t n.records r fair.spaced fair.past is (young r is) ∙ sym is

same_handling : (n : NodeState) (t : ℕ) (i : Item) → Fair n t → IsInSpan n t i → by_records (latest n.retry n.records) n.retry t i ≡ by_records n.records n.retry t i
same_handling n t i fair young = go (is_changing i.request) refl where
  go : (b : Bool) → is_changing i.request ≡ b
      → handling b (option_map (λ r. r.reply) (record_named (name_of i) (latest n.retry n.records))) t (option_map (λ r. r.moment) (oldest_of n.retry (latest n.retry n.records)))
      ≡ handling b (option_map (λ r. r.reply) (record_named (name_of i) n.records)) t (option_map (λ r. r.moment) (oldest_of n.retry n.records))
  go false is = refl
  go true is = λ j. handling true (option_map (λ r. r.reply) (same_found n t i fair (young is) j)) t (option_map (λ r. r.moment) (oldest_latest n.retry n.records fair.some j))

-- what is handled alike is said alike, and leaves nodes that differ in their records alone
same_step : (n : NodeState) (t : ℕ) (i : Item) (h : Handling) → (handles latest (kept n) t i h).said ≡ (handles keep_every n t i h).said × (handles latest (kept n) t i h).node ≡ kept (handles keep_every n t i h).node
same_step n t i (Repeats reply) = (refl, refl)
same_step n t i (RefusesForNow oldest) = (refl, refl)
same_step n t i Executes = (refl, λ j. record (kept (handles keep_every n t i Executes).node) { records = latest_more n.retry n.records (record { moment = t; name = name_of i; reply = (item_outcome n.flat i).reply }) j })
same_step n t i Looks = (refl, refl)

keeping_is : (n : NodeState) (t : ℕ) (i : Item) → Fair n t → IsInSpan n t i → (keeping (kept n) t i).said ≡ (ideal n t i).said × (keeping (kept n) t i).node ≡ kept (ideal n t i).node
keeping_is n t i fair young =
    let same : by_records (latest n.retry n.records) n.retry t i ≡ by_records n.records n.retry t i = same_handling n t i fair young in
    let step = same_step n t i (by_records n.records n.retry t i) in
    (ap (λ h. (handles latest (kept n) t i h).said) same ∙ step.0, ap (λ h. (handles latest (kept n) t i h).node) same ∙ step.1)

-- ---- what holds stays
handles_fair : (n : NodeState) (t : ℕ) (i : Item) → Fair n t → (h : Handling)
    → HandledBy {X = Record} (λ r. r.reply) (λ r. r.moment) (is_changing i.request) (record_named (name_of i) n.records) t (oldest_of n.retry n.records) h → Fair (handles keep_every n t i h).node t
handles_fair n t i fair (Repeats reply) by = record { some = fair.some; spaced = fair.spaced; past = fair.past }
handles_fair n t i fair (RefusesForNow oldest) by = record { some = fair.some; spaced = fair.spaced; past = fair.past }
handles_fair n t i fair Executes by =
    let r : Record = record { moment = t; name = name_of i; reply = (item_outcome n.flat i).reply } in
    record {
      some = fair.some;
      spaced = spaced_more {X = Record} (λ r. r.moment) n.retry n.records (record { moment = t; name = name_of i; reply = (item_outcome n.flat i).reply }) fair.some by.2 fair.spaced;
      past = each_append _ n.records (record { moment = t; name = name_of i; reply = (item_outcome n.flat i).reply } ∷ []) fair.past (omega arith, tt);
    }
handles_fair n t i fair Looks by = record { some = fair.some; spaced = fair.spaced; past = fair.past }

ideal_by : (n : NodeState) (t : ℕ) (i : Item) → HandledBy {X = Record} (λ r. r.reply) (λ r. r.moment) (is_changing i.request) (record_named (name_of i) n.records) t (oldest_of n.retry n.records) (by_records n.records n.retry t i)
ideal_by n t i = handled_by {X = Record} (λ r. r.reply) (λ r. r.moment) (is_changing i.request) (record_named (name_of i) n.records) t (oldest_of n.retry n.records)

ideal_fair : (n : NodeState) (t : ℕ) (i : Item) → Fair n t → Fair (ideal n t i).node t
ideal_fair n t i fair = handles_fair n t i fair (by_records n.records n.retry t i) (ideal_by n t i)

-- ---- what is executed was not recorded, and is from then on
abbrev names : NodeState → List Name
names n = map (λ (r : Record). r.name) n.records

not_named : (name : Name) (rs : List Record) → record_named name rs ≡ None → list_any (same_name name) (map (λ (r : Record). r.name) rs) ≡ false
not_named name [] h = refl
not_named name (r ∷ rs) h = go (same_name name r.name) h (not_named name rs) where
  go : (b : Bool) → ◌≡◌ {A = Option Record} (cond b (Some r) (record_named name rs)) None → (record_named name rs ≡ None → list_any (same_name name) (map (λ (r : Record). r.name) rs) ≡ false)
      → (b || list_any (same_name name) (map (λ (r : Record). r.name) rs)) ≡ false
  go true h rec = grind arith
  go false h rec = rec h

-- an item that is executed joins the names, and no other does
record Joins (n : NodeState) (step : NodeStep) (name : Name) : Type 0 where
  joins : names step.node ≡ names n ++ if_executed step.said name
  fresh : AreNew (names n) (if_executed step.said name)

handles_join : (n : NodeState) (t : ℕ) (i : Item) (h : Handling)
    → HandledBy {X = Record} (λ r. r.reply) (λ r. r.moment) (is_changing i.request) (record_named (name_of i) n.records) t (oldest_of n.retry n.records) h → Joins n (handles keep_every n t i h) (name_of i)
handles_join n t i (Repeats reply) by = record { joins = sym (append-nil (names n)); fresh = tt }
handles_join n t i (RefusesForNow oldest) by = record { joins = sym (append-nil (names n)); fresh = tt }
handles_join n t i Executes by = record {
  joins = map-append (λ (r : Record). r.name) n.records (record { moment = t; name = name_of i; reply = (item_outcome n.flat i).reply } ∷ []);
  fresh = (not_named (name_of i) n.records by.1, tt);
}
handles_join n t i Looks by = record { joins = sym (append-nil (names n)); fresh = tt }

are_new_append : (so_far xs ys : List Name) → AreNew so_far xs → AreNew (so_far ++ xs) ys → AreNew so_far (xs ++ ys)
are_new_append so_far [] ys h k = subst (λ z. AreNew z ys) (append-nil so_far) k
are_new_append so_far (x ∷ xs) ys h k = (h.0, are_new_append (so_far ++ x ∷ []) xs ys h.1 (subst (λ z. AreNew z ys) (sym (append_assoc so_far (x ∷ []) xs)) k))

-- ---- the items of a frame
record Frames (n : NodeState) (t : ℕ) (items : List Item) : Type 0 where
  said : said_to latest (kept n) t items ≡ said_to keep_every n t items
  node : node_after latest (kept n) t items ≡ kept (node_after keep_every n t items)
  executed : executed_in latest (kept n) t items ≡ executed_in keep_every n t items
  fair : Fair (node_after keep_every n t items) t
  joins : names (node_after keep_every n t items) ≡ names n ++ executed_in keep_every n t items
  fresh : AreNew (names n) (executed_in keep_every n t items)

items_kept : (items : List Item) (n : NodeState) (t : ℕ) → Fair n t → AreInSpan n t items → Frames n t items
items_kept [] n t fair span = record { said = refl; node = refl; executed = refl; fair = fair; joins = sym (append-nil (names n)); fresh = tt }
items_kept (i ∷ is) n t fair span =
    let step = keeping_is n t i fair span.0 in
    let rest : Frames (ideal n t i).node t is = items_kept is (ideal n t i).node t (ideal_fair n t i fair) span.1 in
    let join : Joins n (ideal n t i) (name_of i) = handles_join n t i (by_records n.records n.retry t i) (ideal_by n t i) in
    record {
      said = (λ j. step.0 j ∷ said_to latest (step.1 j) t is) ∙ ap (λ z. (ideal n t i).said ∷ z) rest.said;
      node = ap (λ m. node_after latest m t is) step.1 ∙ rest.node;
      executed = (λ j. if_executed (step.0 j) (name_of i) ++ executed_in latest (step.1 j) t is) ∙ ap (λ z. if_executed (ideal n t i).said (name_of i) ++ z) rest.executed;
      fair = rest.fair;
      joins = rest.joins ∙ ap (λ z. z ++ executed_in keep_every (ideal n t i).node t is) join.joins
          ∙ append_assoc (names n) (if_executed (ideal n t i).said (name_of i)) (executed_in keep_every (ideal n t i).node t is);
      fresh = are_new_append (names n) (if_executed (ideal n t i).said (name_of i)) (executed_in keep_every (ideal n t i).node t is) join.fresh
          (subst (λ z. AreNew z (executed_in keep_every (ideal n t i).node t is)) join.joins rest.fresh);
    }

-- ---- all that is given
same_answer : (n : NodeState) (t : ℕ) (bytes : List ℕ) → said_to latest (kept n) t (items_read bytes) ≡ said_to keep_every n t (items_read bytes) → node_answer latest (kept n) t bytes ≡ node_answer keep_every n t bytes
same_answer n t bytes same = go (request_fault bytes) same where
  go : (o : Option BadFrame) → said_to latest (kept n) t (items_judged bytes o) ≡ said_to keep_every n t (items_judged bytes o) → answer_judged latest (kept n) t bytes o ≡ answer_judged keep_every n t bytes o
  go (Some fault) h = refl
  go None h = ap Says h

later : (n : NodeState) (t m : ℕ) → t ≤ m → Fair n t → Fair n m
later n t m le fair = record { some = fair.some; spaced = fair.spaced; past = each_weaker (λ (r : Record). r.moment ≤ t) (λ (r : Record). r.moment ≤ m) (λ r h. omega arith) n.records fair.past }

record Whole (n : NodeState) (given : List Given) : Type 0 where
  answers : answers_to latest (kept n) given ≡ answers_to keep_every n given
  fresh : AreNew (names n) (executed_over latest (kept n) given)

all_kept : (given : List Given) (n : NodeState) (last : ℕ) → Fair n last → AreInTime last given → KeepSpan n given → Whole n given
all_kept [] n last fair times span = record { answers = refl; fresh = tt }
all_kept (g ∷ gs) n last fair times span =
    let one : Frames n g.0 (items_read g.1) = items_kept (items_read g.1) n g.0 (later n last g.0 times.0 fair) span.0 in
    let rest : Whole (node_given keep_every n g.0 g.1) gs = all_kept gs (node_given keep_every n g.0 g.1) g.0 one.fair times.1 span.1 in
    record {
      answers = (λ j. same_answer n g.0 g.1 one.said j ∷ answers_to latest (one.node j) gs) ∙ ap (λ z. node_answer keep_every n g.0 g.1 ∷ z) rest.answers;
      fresh = subst (AreNew (names n)) (λ j. sym one.executed j ++ executed_over latest (sym one.node j) gs)
          (are_new_append (names n) (executed_in keep_every n g.0 (items_read g.1)) (executed_over latest (kept (node_given keep_every n g.0 g.1)) gs) one.fresh
          (subst (λ z. AreNew z (executed_over latest (kept (node_given keep_every n g.0 g.1)) gs)) one.joins rest.fresh));
    }

-- ---- the law
none_that_far : (n : NodeState) (last : ℕ) → IsSetUp n last → Spaced {X = Record} (λ r. r.moment) n.retry n.records
none_that_far n last set k x y at_place far = let w : k + n.retry < length n.records = slice_get_within n.records (k + n.retry) y far in let few : length n.records ≤ n.retry = set.few in absurd (omega arith)

kept_is : (n : NodeState) (last : ℕ) → IsSetUp n last → kept n ≡ n
kept_is n last set = let few : length n.records ≤ n.retry = set.few in ap (λ (m : ℕ). record n { records = drop m n.records }) (let z : length n.records - n.retry ≡ 0 = omega arith in z)

pub law_of_span : LawOfSpan
law_of_span n last given set times span =
    let whole : Whole n given = all_kept given n last (record { some = set.some; spaced = none_that_far n last set; past = set.past }) times span in
    (sym (ap (λ m. answers_to latest m given) (kept_is n last set)) ∙ whole.answers, subst (λ m. AreNew (names n) (executed_over latest m given)) (kept_is n last set) whole.fresh)
