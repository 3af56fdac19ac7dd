-- The law of the span: where no recorded request comes again too late, a node that keeps the latest replies answers as
-- one that keeps all, and executes no request twice.
use Rattle.std.specs.Prelude.{ℕ, ◌+◌, ◌<◌, ◌≤◌, ◌≡◌, true, false, List, [], ◌∷◌, ◌++◌, length, map, Some}
use Rattle.std.specs.List.{list_any}
use Rattle.cl_types.specs.Requests.{is_changing}
use Rattle.cl_types.specs.declared.frame.How.TheVariants.{Executed}
use Rattle.cl_types.specs.declared.limits.TheConstants.{SPAN}
use Rattle.frame_model.specs.Frames.{Item}
use Rattle.node_model.specs.Handling.{latest}
use Rattle.node_model.specs.Nodes.{Name, Record, NodeState, IsSetUp, ItemAnswer, Gives, NodeStep, NodeAnswer, name_of, same_name, record_named, step_item, items_read, node_answer, node_given, keep_every, ideal}
use Rattle.lemmas.specs.Machines.{Machine, answers_over}

-- what a node is given: bytes, each at a moment
abbrev pub Given : Type 0
Given = ℕ × List ℕ

-- ---- what a node says and does over all that it is given; keep says which records stay
-- the name of an item, where it was executed
abbrev pub if_executed : ItemAnswer → Name → List Name
if_executed (Gives Executed reply) name = name ∷ []
if_executed other name = []

module _ (keep : ℕ → List Record → List Record) where
  -- a node as a machine
  abbrev pub node_machine : Machine NodeState Given NodeAnswer
  node_machine = record { answer = λ n g. node_answer keep n g.0 g.1; after = λ n g. node_given keep n g.0 g.1 }

  -- the answers to all that it is given, in order
  abbrev pub answers_to : NodeState → List Given → List NodeAnswer
  answers_to = answers_over node_machine

  -- the names of the items that were executed, in order
  abbrev pub executed_in : NodeState → ℕ → List Item → List Name
  executed_in n t [] = []
  executed_in n t (i ∷ is) =
      let step : NodeStep = step_item keep n t i in
      if_executed step.said (name_of i) ++ executed_in step.node t is

  -- the names of the items that were executed in all that it is given, in order
  abbrev pub executed_over : NodeState → List Given → List Name
  executed_over n [] = []
  executed_over n (g ∷ gs) =
      executed_in n g.0 (items_read g.1) ++ executed_over (node_given keep n g.0 g.1) gs

-- ---- the premises
-- the moments don't fall, from this one on
abbrev pub AreInTime : ℕ → List Given → Type 0
AreInTime last [] = Unit {0}
AreInTime last (g ∷ gs) = (last ≤ g.0) × AreInTime g.0 gs

-- a changing item whose name is recorded comes less than the span after it was recorded
abbrev pub IsInSpan : NodeState → ℕ → Item → Type 0
IsInSpan n t i =
    is_changing i.request ≡ true
    → (r : Record) → record_named (name_of i) n.records ≡ Some r → t < r.moment + SPAN

-- all items of a frame are in the span, each judged after those before it
abbrev pub AreInSpan : NodeState → ℕ → List Item → Type 0
AreInSpan n t [] = Unit {0}
AreInSpan n t (i ∷ is) = IsInSpan n t i × AreInSpan (ideal n t i).node t is

-- all frames are in the span, by the records of the node that keeps all
abbrev pub KeepSpan : NodeState → List Given → Type 0
KeepSpan n [] = Unit {0}
KeepSpan n (g ∷ gs) =
    AreInSpan n g.0 (items_read g.1) × KeepSpan (node_given keep_every n g.0 g.1) gs

-- ---- the law
-- none of the names is among those so far, each of which counts from then on
abbrev pub AreNew : List Name → List Name → Type 0
AreNew so_far [] = Unit {0}
AreNew so_far (name ∷ names) =
    (list_any (same_name name) so_far ≡ false) × AreNew (so_far ++ name ∷ []) names

-- a node that keeps the latest replies answers as one that keeps all, and executes no name twice
abbrev pub LawOfSpan : Type 0
LawOfSpan =
    (n : NodeState) (last : ℕ) (given : List Given)
    → IsSetUp n last → AreInTime last given → KeepSpan n given
    → (answers_to latest n given ≡ answers_to keep_every n given)
    × AreNew (map (λ (r : Record). r.name) n.records) (executed_over latest n given)
