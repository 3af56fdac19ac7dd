use Rattle.std.proofs.Common.{◌≡◌, ◌≢◌, ◌+◌, ◌≤◌, ℕ, [], false, length}
use Rattle.index_lists.specs.NodeLists.{IsValid, has, list_at}
use Rattle.range_alloc.specs.Nodes.{node_count}
use Rattle.range_alloc.proofs.lists.free_all.Given as goal

abbrev pub invariant-loop-node : goal.invariant-loop-node
invariant-loop-node l = record {
  nodes : l.lists.nodes ≡ l.nodes;
  count : length l.lists.lists ≡ l.last + 1;
  whole : node_count l.lists ≡ l.node;
  free : length (list_at l.lists l.last) ≡ l.node;
  below : (n : ℕ) → l.node ≤ n → has (list_at l.lists l.last) n ≡ false;
  empty : (list : ℕ) → list ≢ l.last → list_at l.lists list ≡ [];
  valid : IsValid l.lists;
}
