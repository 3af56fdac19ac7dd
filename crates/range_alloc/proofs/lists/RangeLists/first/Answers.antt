use Rattle.std.proofs.Common.{ℕ, ◌∙◌, ap, arith, Some, None, option_map, slice_get}
use Rattle.index_lists.proofs.Changes.{first_is_in}
use Rattle.range_alloc.specs.RangeSets.{RangeSets, ranges_in}
use Rattle.range_alloc.proofs.NodeLemmas.{first_start, node_below, get_or_any}
use Rattle.range_alloc.proofs.lists.RangeLists.first.Goals as goal

pub index-requires : goal.index-requires
index-requires c = let below =
    node_below c.self.inside.lists c.self.inside.ranges.items c.args.space.0 c.in-Some.node c.self.invariant (first_is_in c.self.inside.lists c.args.space.0 c.in-Some.node c.in-Some.ensures.first) in omega (arith, below)

pub returns-in-Some : goal.returns-in-Some
returns-in-Some c =
    let below = node_below c.self.inside.lists c.self.inside.ranges.items c.args.space.0 c.in-Some.node c.self.invariant (first_is_in c.self.inside.lists c.args.space.0 c.in-Some.node c.in-Some.ensures.first) in
    ap (λ (range : ℕ × ℕ). Some range.0) (c.index.ensures ∙ get_or_any c.self.inside.ranges.items c.in-Some.node _ (0, 0) below)
    ∙ first_start c.self.inside.lists c.self.inside.ranges.items c.args.space.0 (Some c.in-Some.node) (omega arith) c.in-Some.ensures.first
    ∙ ap (λ (s : RangeSets). option_map (λ (range : ℕ × ℕ). range.0) (slice_get (ranges_in s c.args.space.0) 0)) c.self.view_is

pub returns-in-None : goal.returns-in-None
returns-in-None c =
    first_start c.self.inside.lists c.self.inside.ranges.items c.args.space.0 None (omega arith) c.in-None.ensures.first
    ∙ ap (λ (s : RangeSets). option_map (λ (range : ℕ × ℕ). range.0) (slice_get (ranges_in s c.args.space.0) 0)) c.self.view_is
