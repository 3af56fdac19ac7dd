-- How the fields of a `Retry` stand for its records. No public clause cites this module.
use Rattle.std.specs.Prelude.{◌≡◌, ℕ, ◌+◌, ◌<◌, ◌≤◌, List, ◌++◌, length, take, drop, Some, slice_get}
use Rattle.index_lists.specs.NodeLists as lists
use Rattle.index_lists.specs.NodeLists.{NodeLists, IsIn}
use Rattle.retry_buffer.specs.declared.noted.Noted.{Noted}
use Rattle.retry_buffer.specs.Kept.{Kept, IsValid, name_of}
use Rattle.retry_buffer.specs.Chains.{chain_of}

-- what stands at the places, from the oldest on and round
abbrev pub in_turn : ℕ → List Noted → List Noted
in_turn oldest slots = drop oldest slots ++ take oldest slots

-- what contracts see
abbrev pub kept_in : ℕ → ℕ → List Noted → Kept
kept_in capacity oldest slots = record { capacity = capacity; records = in_turn oldest slots }

-- the chains hold the places of the records, each in the chain of its name
pub record AreChained (slots : List Noted) (capacity : ℕ) (chains : NodeLists) : Type 0 where
  pub nodes : chains.nodes ≡ capacity
  pub count : length chains.lists ≡ capacity + 7
  pub valid : lists.IsValid chains
  pub chained : (place : ℕ) (r : Noted) → slice_get slots place ≡ Some r → IsIn chains (chain_of capacity (name_of r)) place
  pub used : (chain place : ℕ) → IsIn chains chain place → place < length slots

-- what holds of the fields at every moment
pub record IsSound (slots : List Noted) (oldest capacity space : ℕ) (chains : NodeLists) : Type 0 where
  pub some : 1 ≤ capacity
  pub most : capacity ≤ 65536
  -- so noting a reply takes no memory
  pub reserved : capacity ≤ space
  pub oldest_in : oldest < capacity
  -- the places are filled from the first on, and in turn once all are filled
  pub turns : length slots < capacity → oldest ≡ 0
  pub chained : AreChained slots capacity chains
  pub valid : IsValid (kept_in capacity oldest slots)
