use Rattle.std.proofs.Common.{◌≡◌, ◌+◌, ◌∙◌, [], ◌∷◌, ◌++◌, length, ap, arith, length-append}
use Rattle.index_lists.specs.NodeLists.{NodeLists, has, list_at}
use Rattle.range_alloc.specs.Nodes.{node_count}
use Rattle.range_alloc.proofs.NodeLemmas.{list_here, list_other, lists_with, count_with, has_append}
use Rattle.range_alloc.proofs.lists.free_all.Goals as goal

pub loop-node-preserved : goal.loop-node-preserved
loop-node-preserved c =
    let was = c.loop-node.invariant in
    let more = list_at c.loop-node.lists c.args.last ++ c.loop-node.node ∷ [] in
    let is = c.push_back.ensures.lists in
    let here = ap (λ (v : NodeLists). list_at v c.args.last) is ∙ list_here c.loop-node.lists c.args.last more (omega (arith, was.count)) in
    let long = length-append (list_at c.loop-node.lists c.args.last) (c.loop-node.node ∷ []) in
    let whole = count_with c.loop-node.lists c.args.last more (omega (arith, was.count)) in
    let same = ap node_count is in
    record {
      nodes = ap (λ (v : NodeLists). v.nodes) is ∙ was.nodes;
      count = ap (λ (v : NodeLists). length v.lists) is ∙ lists_with c.loop-node.lists c.args.last more ∙ was.count;
      whole = omega (arith, whole, long, same, was.whole);
      free = ap length here ∙ long ∙ (let e : length (list_at c.loop-node.lists c.args.last) + 1 ≡ c.loop-node.node + 1 = omega (arith, was.free) in e);
      below = λ n low. ap (λ xs. has xs n) here ∙ has_append (list_at c.loop-node.lists c.args.last) c.loop-node.node n (was.below n (omega arith)) (λ e. omega (arith, e));
      empty = λ list ne. ap (λ (v : NodeLists). list_at v list) is ∙ list_other c.loop-node.lists c.args.last more list ne ∙ was.empty list ne;
      valid = c.push_back.ensures.valid;
    }
