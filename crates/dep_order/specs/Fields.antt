-- How the fields of an order stand for its calls. No public clause cites this module.
use Rattle.std.specs.Prelude.{◌≡◌, ℕ, ◌+◌, ◌*◌, ◌<◌, List, [], ◌∷◌, length, map}
use Rattle.std.specs.List.{AllByRecursion}
use Rattle.cl_types.specs.declared.limits.TheConstants.{HELD_CALLS}
use Rattle.client_model.specs.Order.{Footprint}
use Rattle.index_lists.specs.NodeLists.{NodeLists, list_at, IsIn, IsValid}
use Rattle.dep_order.specs.declared.row.WaitRow.{WaitRow}
use Rattle.dep_order.specs.declared.wait_lists.TheConstants.{NODES, LISTS}
use Rattle.dep_order.specs.Rows.{print_of}
use Rattle.dep_order.specs.WaitLists.{AreFit, row_at, place_of, number_at, IsInOrder, StandsFor}

-- the number and footprint of the row at a place
abbrev pub print_at : List WaitRow → ℕ → ℕ × Footprint
print_at rows place = print_of (row_at rows place)

-- the calls: those of the rows at the places of list 0
abbrev pub calls_of : List WaitRow → NodeLists → List (ℕ × Footprint)
calls_of rows places = map (print_at rows) (list_at places 0)

-- each call has a greater number than those before it
abbrev pub IsRising : List (ℕ × Footprint) → Type 0
IsRising [] = Unit {0}
IsRising (k ∷ ks) = AllByRecursion (λ (other : ℕ × Footprint). k.0 < other.0) ks × IsRising ks

-- what holds of the fields at every moment
pub record IsSound (rows : List WaitRow) (places waits : NodeLists) : Type 0 where
  pub row_count : length rows ≡ HELD_CALLS
  pub fit : (place : ℕ) → AreFit (row_at rows place).pages
  -- each place is in one of the two lists, and the calls of those in list 0 are in order
  pub place_count : places.nodes ≡ HELD_CALLS
  pub two_lists : length places.lists ≡ 2
  pub places_valid : IsValid places
  pub all_listed : length (list_at places 0) + length (list_at places 1) ≡ HELD_CALLS
  pub rising : IsRising (calls_of rows places)
  -- these stand in their lists, which no others do, in order
  pub node_count : waits.nodes ≡ HELD_CALLS * NODES
  pub list_count : length waits.lists ≡ LISTS
  pub waits_valid : IsValid waits
  pub stands : (place : ℕ) → IsIn places 0 place → StandsFor waits place (row_at rows place)
  pub used : (list node : ℕ) → IsIn waits list node → IsIn places 0 (place_of node)
  pub in_order : (list : ℕ) → IsInOrder (number_at rows) (list_at waits list)
