-- In which lists a call stands, and which call a walk along one looks for. No public clause cites this module.
use Rattle.std.specs.Prelude.{◌≡◌, ℕ, ◌+◌, ◌/◌, ◌%◌, ◌<◌, ◌≤◌, ◌==◌, Bool, true, false, ◌&&◌, nat_lt, List, [], ◌∷◌, ◌++◌, Some, None, slice_index_or}
use Rattle.std.specs.List.{AllByRecursion}
use Rattle.cl_types.specs.declared.limits.TheConstants.{HELD_CALLS, RANGE_PAGES, SPACE_PAGES}
use Rattle.client_model.specs.Order.{waits_for}
use Rattle.index_lists.specs.NodeLists.{NodeLists, IsIn}
use Rattle.dep_order.specs.declared.row.Pages.{Pages}
use Rattle.dep_order.specs.declared.row.WaitRow.{WaitRow}
use Rattle.dep_order.specs.declared.wait_lists.TheConstants.{GROUP_PAGES, OFFLOADS, FENCES, NUMBERS, NODES}
use Rattle.dep_order.specs.declared.walk.Wanted.{Wanted}
use Rattle.dep_order.specs.declared.walk.Wanted.TheVariants.{Number, AwaitedBy}
use Rattle.dep_order.specs.Rows.{print_of}

-- ---- rows
-- they are pages of a space, and no more than a call may use
pub record AreFit (pages : Pages) : Type 0 where
  pub from : pages.from ≤ SPACE_PAGES
  pub end : pages.end ≤ SPACE_PAGES
  pub few : pages.end ≤ pages.from + RANGE_PAGES

-- a stand-in for the row at a place that has none
abbrev pub no_row : WaitRow
no_row = record { no = record { 0 = 0 }; pages = record { from = 0; end = 0 }; reads = false; fence = false; offload = None }

-- the row at a place
abbrev pub row_at : List WaitRow → ℕ → WaitRow
row_at rows place = slice_index_or rows place no_row

-- ---- lists
-- the list of the calls whose numbers leave the same remainder
abbrev pub number_list : ℕ → ℕ
number_list number = NUMBERS + number % HELD_CALLS

-- the list of an offload
abbrev pub offload_list : ℕ → ℕ
offload_list number = OFFLOADS + number

-- the list of a page: that of its group
abbrev pub page_list : ℕ → ℕ
page_list page = page / GROUP_PAGES

-- the place that a node belongs to
abbrev pub place_of : ℕ → ℕ
place_of node = node / NODES

-- a node of the place is in the list
abbrev pub Stands : NodeLists → ℕ → ℕ → Type 0
Stands waits list place = (node : ℕ) × (IsIn waits list node × (place_of node ≡ place))

-- the second list is the first, and then nodes from `low` on to before `high`
abbrev pub IsGrown : ℕ → ℕ → List ℕ → List ℕ → Type 0
IsGrown low high old new = (added : List ℕ) × ((new ≡ old ++ added) × AllByRecursion (λ node. (low ≤ node) × (node < high)) added)

-- the number of the call at a node's place
abbrev pub number_at : List WaitRow → ℕ → ℕ
number_at rows node = (row_at rows (place_of node)).no.0

-- what the nodes have as numbers never falls along the list
abbrev pub IsInOrder : (ℕ → ℕ) → List ℕ → Type 0
IsInOrder number [] = Unit {0}
IsInOrder number (n ∷ ns) = AllByRecursion (λ m. number n ≤ number m) ns × IsInOrder number ns

-- the place stands in each list in which the row has to
pub record StandsFor (waits : NodeLists) (place : ℕ) (row : WaitRow) : Type 0 where
  pub by_number : Stands waits (number_list row.no.0) place
  pub by_fence : row.fence ≡ true → Stands waits FENCES place
  pub by_offload : (number : ℕ) (odd : Bool) → row.offload ≡ Some (number, odd) → Stands waits (offload_list number) place
  pub by_page : (page : ℕ) → row.pages.from ≤ page → page < row.pages.end → Stands waits (page_list page) place

-- ---- walks
-- the first row's call is earlier than the second's, which waits for it
abbrev pub is_awaited : WaitRow → WaitRow → Bool
is_awaited other row = nat_lt other.no.0 row.no.0 && waits_for (print_of other).1 (print_of row).1

-- no call from this number on is wanted, but the one of the number itself
abbrev pub number_wanted : Wanted → ℕ
number_wanted (Number number) = number.0
number_wanted (AwaitedBy later) = later.no.0

-- the row is the wanted one
abbrev pub is_wanted : Wanted → WaitRow → Bool
is_wanted (Number number) row = row.no.0 == number.0
is_wanted (AwaitedBy later) row = is_awaited row later

-- the node is of a place that has the wanted row
abbrev pub wanted_at : List WaitRow → Wanted → ℕ → Bool
wanted_at rows wanted node = is_wanted wanted (row_at rows (place_of node))
