-- Junk is nothing: what a node answers with a fault or with busy.
use Rattle.std.specs.Prelude.{ℕ, Bool, true, false, List}
use Rattle.std.specs.List.{list_all}
use Rattle.node_model.specs.Nodes.{NodeState, Record, ItemAnswer, Gives, IsBusy, NodeAnswer, Refuses, Says}
use Rattle.lemmas.specs.Machines.{JunkIsNothing}
use Rattle.node_laws.specs.Span.{Given, node_machine}

-- ---- a node
-- the node tells that it is busy
abbrev pub is_busy : ItemAnswer → Bool
is_busy (Gives how reply) = false
is_busy (IsBusy oldest now) = true

-- a node's answer is a fault, or busy to each item; an answer to no items, which no bytes get, would be junk too
abbrev pub is_junk : NodeAnswer → Bool
is_junk (Refuses fault) = true
is_junk (Says said) = list_all is_busy said

-- whichever records a node keeps, the bytes that it answers with a fault or with busy are nothing
abbrev pub LawOfJunk : Type 0
LawOfJunk = (keep : ℕ → List Record → List Record) (n : NodeState) (given : List Given) → JunkIsNothing (node_machine keep) is_junk n given
