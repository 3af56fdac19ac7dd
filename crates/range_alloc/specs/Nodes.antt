-- How nodes spell the ranges. No public clause cites this module.
use Rattle.std.specs.Prelude.{◌≡◌, ◌≢◌, ℕ, ◌+◌, ◌-◌, List, [], map, take, length, slice_index_or}
use Rattle.std.specs.List.{sum_by}
use Rattle.index_lists.specs.NodeLists.{NodeLists, list_at, without, IsIn, IsValid}
use Rattle.range_alloc.specs.declared.lists.TheConstants.{SPACES}
use Rattle.range_alloc.specs.RangeSets.{RangeSets, drop_start}

-- the range that has a node
abbrev pub range_at : List (ℕ × ℕ) → ℕ → ℕ × ℕ
range_at ranges node = slice_index_or ranges node (0, 0)

-- the ranges of a list of nodes
abbrev pub ranges_of : List (ℕ × ℕ) → List ℕ → List (ℕ × ℕ)
ranges_of ranges nodes = map (range_at ranges) nodes

-- how many nodes are in the lists
abbrev pub node_count : NodeLists → ℕ
node_count lists = sum_by (λ (nodes : List ℕ). length nodes) lists.lists

-- what contracts see
abbrev pub range_sets : NodeLists → List (ℕ × ℕ) → RangeSets
range_sets lists ranges = record {
  nodes = lists.nodes;
  count = lists.nodes - length (list_at lists SPACES);
  spaces = map (ranges_of ranges) (take SPACES lists.lists);
}

-- each node is in a list, and has a range
pub record IsSound (lists : NodeLists) (ranges : List (ℕ × ℕ)) : Type 0 where
  pub count : length lists.lists ≡ SPACES + 1
  pub long : length ranges ≡ lists.nodes
  pub whole : node_count lists ≡ lists.nodes
  pub valid : IsValid lists

-- all nodes are in the last list, and those before it are empty
pub record AreFree (all last : ℕ) (lists : NodeLists) : Type 0 where
  pub nodes : lists.nodes ≡ all
  pub count : length lists.lists ≡ last + 1
  pub whole : node_count lists ≡ all
  pub free : length (list_at lists last) ≡ all
  pub empty : (list : ℕ) → list ≢ last → list_at lists list ≡ []
  pub valid : IsValid lists

-- the node is in the list, and without it the first range that begins here is gone
pub record IsNodeOf (lists : NodeLists) (ranges : List (ℕ × ℕ)) (list start node : ℕ) : Type 0 where
  pub there : IsIn lists list node
  pub gone : ranges_of ranges (without node (list_at lists list)) ≡ drop_start start (ranges_of ranges (list_at lists list))
