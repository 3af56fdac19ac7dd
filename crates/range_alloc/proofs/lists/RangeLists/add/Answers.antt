use Rattle.std.proofs.Common.{◌+◌, ◌∙◌, ◌++◌, [], ◌∷◌, refl, sym, ap, arith}
use Rattle.index_lists.specs.NodeLists.{NodeLists, with_list}
use Rattle.index_lists.proofs.Changes.{first_is_in, without_first_at}
use Rattle.range_alloc.specs.declared.lists.TheConstants.{SPACES}
use Rattle.range_alloc.specs.RangeSets.{RangeSets, ranges_in}
use Rattle.range_alloc.proofs.NodeLemmas.{added, full, node_below, taken_out}
use Rattle.range_alloc.proofs.lists.RangeLists.add.Goals as goal

pub index_mut-requires : goal.index_mut-requires
index_mut-requires c =
    let there = first_is_in c.self.inside.lists SPACES c.in-Some.node c.in-Some.ensures.first in
    let below = node_below c.self.inside.lists c.self.inside.ranges.items SPACES c.in-Some.node c.self.invariant there in
    omega (arith, below)

pub push_back-requires-clause-node_in : goal.push_back-requires-clause-node_in
push_back-requires-clause-node_in c =
    let there = first_is_in c.self.inside.lists SPACES c.in-Some.node c.in-Some.ensures.first in
    let below = c.self.invariant.valid.in_range SPACES c.in-Some.node there in
    let same = ap (λ (v : NodeLists). v.nodes) c.in-Some.ensures.rest in
    omega (arith, below.1, same)

pub push_back-requires-clause-free : goal.push_back-requires-clause-free
push_back-requires-clause-free c =
    let there = first_is_in c.self.inside.lists SPACES c.in-Some.node c.in-Some.ensures.first in
    let out = c.in-Some.ensures.rest ∙ ap (with_list c.self.inside.lists SPACES) (sym (without_first_at c.self.inside.lists SPACES c.in-Some.node c.self.invariant.valid c.in-Some.ensures.first)) in
    taken_out c.self.inside.lists c.pop_front.new.self _ SPACES c.args.space.0 c.in-Some.node c.self.invariant.valid there (λ e. omega (arith, e)) (omega (arith, c.self.invariant.count)) out refl

pub invariant_of-self : goal.invariant_of-self
invariant_of-self c =
    let there = first_is_in c.self.inside.lists SPACES c.in-Some.node c.in-Some.ensures.first in
    let out = c.in-Some.ensures.rest ∙ ap (with_list c.self.inside.lists SPACES) (sym (without_first_at c.self.inside.lists SPACES c.in-Some.node c.self.invariant.valid c.in-Some.ensures.first)) in
    let done = added c.self.inside.lists c.pop_front.new.self c.push_back.new.self c.self.inside.ranges.items c.args.space.0 c.in-Some.node (c.args.start.0, c.args.pages) c.self.invariant (omega arith) there out c.push_back.ensures.lists c.push_back.ensures.valid in
    done.sound

pub returns-in-Some-clause-last : goal.returns-in-Some-clause-last
returns-in-Some-clause-last c =
    let there = first_is_in c.self.inside.lists SPACES c.in-Some.node c.in-Some.ensures.first in
    let out = c.in-Some.ensures.rest ∙ ap (with_list c.self.inside.lists SPACES) (sym (without_first_at c.self.inside.lists SPACES c.in-Some.node c.self.invariant.valid c.in-Some.ensures.first)) in
    let done = added c.self.inside.lists c.pop_front.new.self c.push_back.new.self c.self.inside.ranges.items c.args.space.0 c.in-Some.node (c.args.start.0, c.args.pages) c.self.invariant (omega arith) there out c.push_back.ensures.lists c.push_back.ensures.valid in
    done.last ∙ ap (λ (s : RangeSets). ranges_in s c.args.space.0 ++ (c.args.start.0, c.args.pages) ∷ []) c.self.view_is

pub returns-in-Some-clause-others : goal.returns-in-Some-clause-others
returns-in-Some-clause-others c other low apart =
    let there = first_is_in c.self.inside.lists SPACES c.in-Some.node c.in-Some.ensures.first in
    let out = c.in-Some.ensures.rest ∙ ap (with_list c.self.inside.lists SPACES) (sym (without_first_at c.self.inside.lists SPACES c.in-Some.node c.self.invariant.valid c.in-Some.ensures.first)) in
    let done = added c.self.inside.lists c.pop_front.new.self c.push_back.new.self c.self.inside.ranges.items c.args.space.0 c.in-Some.node (c.args.start.0, c.args.pages) c.self.invariant (omega arith) there out c.push_back.ensures.lists c.push_back.ensures.valid in
    done.others other low apart ∙ ap (λ (s : RangeSets). ranges_in s other) c.self.view_is

pub returns-in-Some-clause-count : goal.returns-in-Some-clause-count
returns-in-Some-clause-count c =
    let there = first_is_in c.self.inside.lists SPACES c.in-Some.node c.in-Some.ensures.first in
    let out = c.in-Some.ensures.rest ∙ ap (with_list c.self.inside.lists SPACES) (sym (without_first_at c.self.inside.lists SPACES c.in-Some.node c.self.invariant.valid c.in-Some.ensures.first)) in
    let done = added c.self.inside.lists c.pop_front.new.self c.push_back.new.self c.self.inside.ranges.items c.args.space.0 c.in-Some.node (c.args.start.0, c.args.pages) c.self.invariant (omega arith) there out c.push_back.ensures.lists c.push_back.ensures.valid in
    done.count ∙ ap (λ (s : RangeSets). s.count + 1) c.self.view_is

pub invariant_of-self-in_default : goal.invariant_of-self-in_default
invariant_of-self-in_default c = absurd (full c.self.inside.lists c.self.inside.ranges.items c.args.self.now c.self.view_is c.in_default.ensures.first c.requires.room)

pub returns-in_default-clause-last : goal.returns-in_default-clause-last
returns-in_default-clause-last c = absurd (full c.self.inside.lists c.self.inside.ranges.items c.args.self.now c.self.view_is c.in_default.ensures.first c.requires.room)

pub returns-in_default-clause-others : goal.returns-in_default-clause-others
returns-in_default-clause-others c other low apart = absurd (full c.self.inside.lists c.self.inside.ranges.items c.args.self.now c.self.view_is c.in_default.ensures.first c.requires.room)

pub returns-in_default-clause-count : goal.returns-in_default-clause-count
returns-in_default-clause-count c = absurd (full c.self.inside.lists c.self.inside.ranges.items c.args.self.now c.self.view_is c.in_default.ensures.first c.requires.room)
