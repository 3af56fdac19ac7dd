-- The keeping node, which keeps the latest replies, and the ideal node, which keeps all: a flat state, and the replies
-- that are recorded.
use Rattle.std.specs.Prelude.{ℕ, ◌≤◌, ◌==◌, Bool, ◌&&◌, List, [], ◌∷◌, ◌++◌, length, Option, Some, None, find, option_map}
use Rattle.std.specs.List.{AllByRecursion as Each}
use Rattle.cl_types.specs.Requests.{is_changing}
use Rattle.cl_types.specs.declared.numbers.ClientNo.{ClientNo}
use Rattle.cl_types.specs.declared.call.Kind.{Kind}
use Rattle.cl_types.specs.declared.config.NodeConfig.{NodeConfig}
use Rattle.cl_types.specs.declared.frame.BadFrame.{BadFrame}
use Rattle.cl_types.specs.declared.frame.How.{How}
use Rattle.cl_types.specs.declared.frame.How.TheVariants.{Executed, Repeated, Looked}
use Rattle.cl_types.specs.declared.reply.Reply.{Reply}
use Rattle.cl_types.specs.Kinds.{kind_number}
use Rattle.flat_model.specs.State.{FlatState, opening}
use Rattle.flat_model.specs.Step.{Transition}
use Rattle.frame_model.specs.Frames.{Item, items_in, request_fault, kind_of}
use Rattle.cl_types.specs.Parts.{same_client}
use Rattle.node_model.specs.Handling.{Handling, Repeats, RefusesForNow, Executes, Looks, handling, item_outcome, latest, oldest_of}

-- the name of a request: who sent it, its kind, and the id of its part's first sending
pub record Name : Type 0 where
  pub client : ClientNo
  pub kind : Kind
  pub orig : ℕ

-- a reply, and when it was recorded
pub record Record : Type 0 where
  pub moment : ℕ
  pub name : Name
  pub reply : Reply

-- a node: its flat state, its records, and how many of these it may keep
pub record NodeState : Type 0 where
  pub flat : FlatState
  -- in order of recording
  pub records : List Record
  -- how many it may keep
  pub retry : ℕ

-- the node may keep at least one record, has no more than it may keep, and made none later than this
pub record IsSetUp (n : NodeState) (last : ℕ) : Type 0 where
  pub some : 1 ≤ n.retry
  pub few : length n.records ≤ n.retry
  pub past : Each (λ (r : Record). r.moment ≤ last) n.records

-- the node at its opening, with nothing recorded
abbrev pub opening_node : NodeConfig → NodeState
opening_node c = record { flat = opening c; records = []; retry = c.retry }

-- ---- one item
-- what a node says to an item: a reply, or that its records are full and the oldest is young
pub data ItemAnswer : Type 0 where
  Gives : (how : How) → (reply : Reply) → ItemAnswer
  IsBusy : (oldest now : ℕ) → ItemAnswer

-- what a node says to an item, and the node after it
pub record NodeStep : Type 0 where
  pub said : ItemAnswer
  pub node : NodeState

-- the name under which the item's reply is recorded
abbrev pub name_of : Item → Name
name_of i = record { client = i.head.client; kind = kind_of i.request; orig = i.head.orig }

-- the two are one name
abbrev pub same_name : Name → Name → Bool
same_name a b = same_client a.client b.client && kind_number a.kind == kind_number b.kind && a.orig == b.orig

-- the record of this name, where one is kept
abbrev pub record_named : Name → List Record → Option Record
record_named name records = find (λ r. same_name name r.name) records

-- keep says which records stay: the latest, or all
module _ (keep : ℕ → List Record → List Record) where
  -- what a node says to an item that is handled so, and the node after it
  abbrev pub handles : NodeState → ℕ → Item → Handling → NodeStep
  handles n t i (Repeats reply) = record { said = Gives Repeated reply; node = n }
  handles n t i (RefusesForNow oldest) = record { said = IsBusy oldest t; node = n }
  handles n t i Executes = let o : Transition = item_outcome n.flat i in record {
    said = Gives Executed o.reply;
    node = record n { flat = o.state; records = keep n.retry (n.records ++ record { moment = t; name = name_of i; reply = o.reply } ∷ []) };
  }
  handles n t i Looks = let o : Transition = item_outcome n.flat i in record { said = Gives Looked o.reply; node = n }

  -- what a node says to an item at moment t, and the node after it
  abbrev pub step_item : NodeState → ℕ → Item → NodeStep
  step_item n t i = handles n t i (handling
      (is_changing i.request)
      (option_map (λ r. r.reply) (record_named (name_of i) n.records))
      t
      (option_map (λ r. r.moment) (oldest_of n.retry n.records)))

  -- ---- a frame: its items in order
  -- the node after these items at moment t
  abbrev pub node_after : NodeState → ℕ → List Item → NodeState
  node_after n t [] = n
  node_after n t (i ∷ is) = node_after (step_item n t i).node t is

  -- what a node says to each of these items at moment t
  abbrev pub said_to : NodeState → ℕ → List Item → List ItemAnswer
  said_to n t [] = []
  said_to n t (i ∷ is) = let step : NodeStep = step_item n t i in step.said ∷ said_to step.node t is

-- ---- bytes
-- what a node says to bytes: their first fault, or what it says to each item
pub data NodeAnswer : Type 0 where
  Refuses : (fault : BadFrame) → NodeAnswer
  Says : (said : List ItemAnswer) → NodeAnswer

-- the items of bytes, none where there is a fault
abbrev pub items_judged : List ℕ → Option BadFrame → List Item
items_judged bytes (Some fault) = []
items_judged bytes None = items_in bytes

-- the items that a node reads in bytes, none where they spell no frame
abbrev pub items_read : List ℕ → List Item
items_read bytes = items_judged bytes (request_fault bytes)

module _ (keep : ℕ → List Record → List Record) where
  -- the fault of the bytes where there is one, and else what the node says to their items
  abbrev pub answer_judged : NodeState → ℕ → List ℕ → Option BadFrame → NodeAnswer
  answer_judged n t bytes (Some fault) = Refuses fault
  answer_judged n t bytes None = Says (said_to keep n t (items_in bytes))

  -- what a node says to these bytes at moment t
  abbrev pub node_answer : NodeState → ℕ → List ℕ → NodeAnswer
  node_answer n t bytes = answer_judged n t bytes (request_fault bytes)

  -- the node after these bytes at moment t, the same where they spell no frame
  abbrev pub node_given : NodeState → ℕ → List ℕ → NodeState
  node_given n t bytes = node_after keep n t (items_read bytes)

-- ---- the two nodes
-- all records, however many
abbrev pub keep_every : ℕ → List Record → List Record
keep_every retry records = records

-- the step of a node that keeps its latest records only
abbrev pub keeping : NodeState → ℕ → Item → NodeStep
keeping = step_item latest

-- the step of a node that keeps every record
abbrev pub ideal : NodeState → ℕ → Item → NodeStep
ideal = step_item keep_every
