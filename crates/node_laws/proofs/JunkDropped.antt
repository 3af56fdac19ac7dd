-- Junk is nothing for a node.
use Rattle.std.proofs.Common.{◌≡◌, ℕ, List, [], ◌∷◌, refl, ◌∙◌, Bool, true, arith, Option, Some, None}
use Rattle.std.specs.List.{list_all}
use Rattle.cl_types.specs.declared.frame.BadFrame.{BadFrame}
use Rattle.frame_model.specs.Frames.{Item, items_in, request_fault}
use Rattle.node_model.specs.Handling.{Handling, Repeats, RefusesForNow, Executes, Looks}
use Rattle.node_model.specs.Nodes.{NodeState, NodeStep, Record, handles, step_item, node_after, said_to, items_judged, answer_judged}
use Rattle.node_laws.specs.Span.{node_machine}
use Rattle.node_laws.specs.Junk.{is_busy, is_junk, LawOfJunk}
use Rattle.lemmas.proofs.SameParts.{and_left, and_right}
use Rattle.node_laws.proofs.SpanKept.{by_records}
use Rattle.lemmas.proofs.Machines.{junk_is_nothing}

-- ---- a node
module _ (keep : ℕ → List Record → List Record) where
  -- a node that is busy with an item stays as it was
  busy_stays : (n : NodeState) (t : ℕ) (i : Item) (h : Handling) → is_busy (handles keep n t i h).said ≡ true → (handles keep n t i h).node ≡ n
  busy_stays n t i (Repeats reply) busy = refl
  busy_stays n t i (RefusesForNow oldest) busy = refl
  busy_stays n t i Executes busy = grind arith
  busy_stays n t i Looks busy = refl

  -- and so it does where it is busy in the item's step
  step_stays : (n : NodeState) (t : ℕ) (i : Item) → is_busy (step_item keep n t i).said ≡ true → (step_item keep n t i).node ≡ n
  step_stays n t i busy = busy_stays n t i (by_records n.records n.retry t i) busy

  -- and so it does where it is busy with each of these items
  all_busy_stay : (n : NodeState) (t : ℕ) (items : List Item) → list_all is_busy (said_to keep n t items) ≡ true → node_after keep n t items ≡ n
  all_busy_stay n t [] busy = refl
  all_busy_stay n t (i ∷ is) busy =
      let step : NodeStep = step_item keep n t i in
      let others : Bool = list_all is_busy (said_to keep step.node t is) in
      all_busy_stay step.node t is (and_right (is_busy step.said) others busy) ∙ step_stays n t i (and_left (is_busy step.said) others busy)

  -- and so it does where it answers bytes with junk
  junk_stays : (n : NodeState) (t : ℕ) (bytes : List ℕ) (fault : Option BadFrame)
      → is_junk (answer_judged keep n t bytes fault) ≡ true → node_after keep n t (items_judged bytes fault) ≡ n
  junk_stays n t bytes (Some fault) junk = refl
  junk_stays n t bytes None junk = all_busy_stay n t (items_in bytes) junk

pub law_of_junk : LawOfJunk
law_of_junk keep n given =
    junk_is_nothing (node_machine keep) is_junk (λ n g. junk_stays keep n g.0 g.1 (request_fault g.1)) given n
