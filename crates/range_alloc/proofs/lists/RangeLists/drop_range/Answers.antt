use Rattle.std.proofs.Common.{ℕ, List, ◌∙◌, refl, sym, ap, subst, arith}
use Rattle.range_alloc.specs.declared.lists.TheConstants.{SPACES}
use Rattle.range_alloc.specs.Nodes.{IsNodeOf, ranges_of}
use Rattle.range_alloc.specs.RangeSets.{RangeSets, drop_start, has_start, ranges_in}
use Rattle.index_lists.specs.NodeLists.{list_at}
use Rattle.range_alloc.proofs.NodeLemmas.{dropped, not_there, taken_out}
use Rattle.range_alloc.proofs.lists.RangeLists.drop_range.Goals as goal

pub push_back-requires-clause-free : goal.push_back-requires-clause-free
push_back-requires-clause-free c =
    taken_out c.self.inside.lists c.remove.new.self _ c.args.space.0 SPACES c.in-Some.node c.self.invariant.valid c.in-Some.ensures.found.there (λ e. omega (arith, e)) (omega (arith, c.self.invariant.count))
    (c.remove.ensures.lists c.args.space.0 c.in-Some.ensures.found.there) refl

pub invariant_of-self : goal.invariant_of-self
invariant_of-self c =
    let of : IsNodeOf c.self.inside.lists c.self.inside.ranges.items c.args.space.0 c.args.start.0 c.in-Some.node =
    subst (λ (items : List (ℕ × ℕ)). IsNodeOf c.self.inside.lists items c.args.space.0 c.args.start.0 c.in-Some.node) c.deref.ensures.value c.in-Some.ensures.found in
    let done = dropped c.self.inside.lists c.remove.new.self c.push_back.new.self c.self.inside.ranges.items c.args.space.0 c.in-Some.node c.args.start.0 c.self.invariant (omega arith) of (c.remove.ensures.lists c.args.space.0 of.there) c.push_back.ensures.lists c.push_back.ensures.valid in
    done.sound

pub returns-in-Some-clause-gone : goal.returns-in-Some-clause-gone
returns-in-Some-clause-gone c =
    let of : IsNodeOf c.self.inside.lists c.self.inside.ranges.items c.args.space.0 c.args.start.0 c.in-Some.node =
    subst (λ (items : List (ℕ × ℕ)). IsNodeOf c.self.inside.lists items c.args.space.0 c.args.start.0 c.in-Some.node) c.deref.ensures.value c.in-Some.ensures.found in
    let done = dropped c.self.inside.lists c.remove.new.self c.push_back.new.self c.self.inside.ranges.items c.args.space.0 c.in-Some.node c.args.start.0 c.self.invariant (omega arith) of (c.remove.ensures.lists c.args.space.0 of.there) c.push_back.ensures.lists c.push_back.ensures.valid in
    done.gone ∙ ap (λ (s : RangeSets). drop_start c.args.start.0 (ranges_in s c.args.space.0)) c.self.view_is

pub returns-in-Some-clause-others : goal.returns-in-Some-clause-others
returns-in-Some-clause-others c other low apart =
    let of : IsNodeOf c.self.inside.lists c.self.inside.ranges.items c.args.space.0 c.args.start.0 c.in-Some.node =
    subst (λ (items : List (ℕ × ℕ)). IsNodeOf c.self.inside.lists items c.args.space.0 c.args.start.0 c.in-Some.node) c.deref.ensures.value c.in-Some.ensures.found in
    let done = dropped c.self.inside.lists c.remove.new.self c.push_back.new.self c.self.inside.ranges.items c.args.space.0 c.in-Some.node c.args.start.0 c.self.invariant (omega arith) of (c.remove.ensures.lists c.args.space.0 of.there) c.push_back.ensures.lists c.push_back.ensures.valid in
    done.others other low apart ∙ ap (λ (s : RangeSets). ranges_in s other) c.self.view_is

pub returns-in-Some-clause-count : goal.returns-in-Some-clause-count
returns-in-Some-clause-count c =
    let of : IsNodeOf c.self.inside.lists c.self.inside.ranges.items c.args.space.0 c.args.start.0 c.in-Some.node =
    subst (λ (items : List (ℕ × ℕ)). IsNodeOf c.self.inside.lists items c.args.space.0 c.args.start.0 c.in-Some.node) c.deref.ensures.value c.in-Some.ensures.found in
    let done = dropped c.self.inside.lists c.remove.new.self c.push_back.new.self c.self.inside.ranges.items c.args.space.0 c.in-Some.node c.args.start.0 c.self.invariant (omega arith) of (c.remove.ensures.lists c.args.space.0 of.there) c.push_back.ensures.lists c.push_back.ensures.valid in
    done.count ∙ ap (λ (s : RangeSets). s.count) c.self.view_is

pub returns-in_default-clause-gone : goal.returns-in_default-clause-gone
returns-in_default-clause-gone c =
    let none = ap (λ (items : List (ℕ × ℕ)). has_start c.args.start.0 (ranges_of items (list_at c.self.inside.lists c.args.space.0))) c.deref.ensures.value in
    absurd (not_there c.self.inside.lists c.self.inside.ranges.items c.args.self.now c.args.space.0 c.args.start.0 c.self.view_is (omega arith) (sym none ∙ c.in_default.ensures.absent) c.requires.stands)

pub returns-in_default-clause-count : goal.returns-in_default-clause-count
returns-in_default-clause-count c =
    let none = ap (λ (items : List (ℕ × ℕ)). has_start c.args.start.0 (ranges_of items (list_at c.self.inside.lists c.args.space.0))) c.deref.ensures.value in
    absurd (not_there c.self.inside.lists c.self.inside.ranges.items c.args.self.now c.args.space.0 c.args.start.0 c.self.view_is (omega arith) (sym none ∙ c.in_default.ensures.absent) c.requires.stands)
