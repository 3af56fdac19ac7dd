-- The law of the records, one item after another.
use Rattle.std.proofs.Common.{◌≡◌, ℕ, ◌+◌, ◌-◌, List, [], ◌∷◌, ◌++◌, refl, sym, ap, ◌∙◌, subst, arith, length}
use Rattle.std.specs.Prelude.{min}
use Rattle.std.proofs.lemmas.List.{length-append, length-drop}
use Rattle.frame_model.specs.Frames.{Item}
use Rattle.node_model.specs.Handling.{Handling, Repeats, RefusesForNow, Executes, Looks, item_outcome, latest}
use Rattle.node_model.specs.Nodes.{NodeState, NodeStep, Record, handles, items_read, name_of, node_after, node_given, opening_node, step_item}
use Rattle.lemmas.specs.Machines.{after_all}
use Rattle.node_laws.specs.Retained.{LawOfRetained}
use Rattle.node_laws.specs.Span.{Given, executed_in, executed_over, if_executed, node_machine}
use Rattle.node_laws.proofs.SpanKept.{by_records}

-- a node that executed this many has as many records as it should
abbrev Counts : NodeState → ℕ → Type 0
Counts n count = length n.records ≡ min n.retry count

-- of a list one longer than the least of the two, the latest
one_more : (retry count len : ℕ) → len ≡ min retry count → len + 1 - (len + 1 - retry) ≡ min retry (count + 1)
one_more retry count len is = omega arith

executes_one : (n : NodeState) (t : ℕ) (i : Item) (count : ℕ) → Counts n count → Counts (handles latest n t i Executes).node (count + 1)
executes_one n t i count counts =
    let r : Record = record { moment = t; name = name_of i; reply = (item_outcome n.flat i).reply } in
    length-drop (length (n.records ++ r ∷ []) - n.retry) (n.records ++ r ∷ [])
    ∙ ap (λ (len : ℕ). len - (len - n.retry)) (length-append n.records (r ∷ []))
    ∙ one_more n.retry count (length n.records) counts

handles_counts : (n : NodeState) (t : ℕ) (i : Item) (h : Handling) (count : ℕ) → Counts n count
    → Counts (handles latest n t i h).node (count + length (if_executed (handles latest n t i h).said (name_of i)))
handles_counts n t i (Repeats reply) count counts = counts ∙ ap (min n.retry) (omega arith)
handles_counts n t i (RefusesForNow oldest) count counts = counts ∙ ap (min n.retry) (omega arith)
handles_counts n t i Executes count counts = executes_one n t i count counts
handles_counts n t i Looks count counts = counts ∙ ap (min n.retry) (omega arith)

-- ---- the items of a frame
items_count : (items : List Item) (n : NodeState) (t count : ℕ) → Counts n count
    → Counts (node_after latest n t items) (count + length (executed_in latest n t items))
items_count [] n t count counts = counts ∙ ap (min n.retry) (omega arith)
items_count (i ∷ is) n t count counts =
    let step : NodeStep = step_item latest n t i in
    let one : ℕ = length (if_executed step.said (name_of i)) in
    subst (Counts (node_after latest step.node t is))
    ((let z : count + one + length (executed_in latest step.node t is) ≡ count + (one + length (executed_in latest step.node t is)) = omega arith in z)
    ∙ ap (λ len. count + len) (sym (length-append (if_executed step.said (name_of i)) (executed_in latest step.node t is))))
    (items_count is step.node t (count + one) (handles_counts n t i (by_records n.records n.retry t i) count counts))

-- ---- all that is given
given_counts : (given : List Given) (n : NodeState) (count : ℕ) → Counts n count
    → Counts (after_all (node_machine latest) n given) (count + length (executed_over latest n given))
given_counts [] n count counts = counts ∙ ap (min n.retry) (omega arith)
given_counts (g ∷ gs) n count counts =
    let m : NodeState = node_given latest n g.0 g.1 in
    let these : ℕ = length (executed_in latest n g.0 (items_read g.1)) in
    subst (Counts (after_all (node_machine latest) m gs))
    ((let z : count + these + length (executed_over latest m gs) ≡ count + (these + length (executed_over latest m gs)) = omega arith in z)
    ∙ ap (λ len. count + len) (sym (length-append (executed_in latest n g.0 (items_read g.1)) (executed_over latest m gs))))
    (given_counts gs m (count + these) (items_count (items_read g.1) n g.0 count counts))

-- ---- who may keep how many never changes
handles_retry : (n : NodeState) (t : ℕ) (i : Item) (h : Handling) → (handles latest n t i h).node.retry ≡ n.retry
handles_retry n t i (Repeats reply) = refl
handles_retry n t i (RefusesForNow oldest) = refl
handles_retry n t i Executes = refl
handles_retry n t i Looks = refl

items_retry : (items : List Item) (n : NodeState) (t : ℕ) → (node_after latest n t items).retry ≡ n.retry
items_retry [] n t = refl
items_retry (i ∷ is) n t = items_retry is (step_item latest n t i).node t ∙ handles_retry n t i (by_records n.records n.retry t i)

given_retry : (given : List Given) (n : NodeState) → (after_all (node_machine latest) n given).retry ≡ n.retry
given_retry [] n = refl
given_retry (g ∷ gs) n = given_retry gs (node_given latest n g.0 g.1) ∙ items_retry (items_read g.1) n g.0

-- ---- the law
pub law_of_retained : LawOfRetained
law_of_retained c given =
    let after : NodeState = after_all (node_machine latest) (opening_node c) given in
    let executed : ℕ = length (executed_over latest (opening_node c) given) in
    given_counts given (opening_node c) 0 (let z : 0 ≡ min c.retry 0 = omega arith in z)
    ∙ ap (min after.retry) (let z : 0 + executed ≡ executed = omega arith in z)
    ∙ ap (λ retry. min retry executed) (given_retry given (opening_node c))
