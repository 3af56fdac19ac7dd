-- The walk stops at the first place with the wanted part, or at the end of the list.
use Rattle.std.proofs.Common.{sym, ap, ◌∙◌, arith}
use Rattle.index_lists.specs.NodeLists.{list_at}
use Rattle.client_retry.specs.Walks.{is_wanted_there}
use Rattle.client_retry.proofs.WalkLemmas.{at, few_places, stops_at_end, stops_at_none, stops_here, goes_on}
use Rattle.client_retry.proofs.walk.walk.Goals as goal
use Rattle.index_lists.proofs.Members.{has_at}

pub returns-in_default-clause-here : goal.returns-in_default-clause-here
returns-in_default-clause-here c = (stops_at_none _ _ c.loop-k.invariant c.in_default.is).here_is

pub returns-in_default-clause-before : goal.returns-in_default-clause-before
returns-in_default-clause-before c = (stops_at_none _ _ c.loop-k.invariant c.in_default.is).before_is

pub part-requires : goal.part-requires
part-requires c = c.requires.filled c.in-Some.node (has_at (list_at c.args.places.now c.args.list) c.loop-k._k c.in-Some.node (at _ _ c.loop-k.invariant c.in-Some.node c.in-Some.is))

pub returns-then-is_wanted-clause-here : goal.returns-then-is_wanted-clause-here
returns-then-is_wanted-clause-here c =
    (stops_here _ _ c.loop-k.invariant c.in-Some.node c.in-Some.is (ap (is_wanted_there c.args.wanted) c.part.ensures ∙ sym c.is_wanted.ensures ∙ c.if-is_wanted.true)).here_is

pub returns-then-is_wanted-clause-before : goal.returns-then-is_wanted-clause-before
returns-then-is_wanted-clause-before c =
    (stops_here _ _ c.loop-k.invariant c.in-Some.node c.in-Some.is (ap (is_wanted_there c.args.wanted) c.part.ensures ∙ sym c.is_wanted.ensures ∙ c.if-is_wanted.true)).before_is

pub next-place-requires : goal.next-place-requires
next-place-requires c = (c.args.list, has_at (list_at c.args.places.now c.args.list) c.loop-k._k c.in-Some.node (at _ _ c.loop-k.invariant c.in-Some.node c.in-Some.is))

pub loop-k-preserved : goal.loop-k-preserved
loop-k-preserved c =
    let in_list = has_at (list_at c.args.places.now c.args.list) c.loop-k._k c.in-Some.node (at _ _ c.loop-k.invariant c.in-Some.node c.in-Some.is) in
    goes_on _ _ c.loop-k.invariant c.in-Some.node c.in-Some.is (ap (is_wanted_there c.args.wanted) c.part.ensures ∙ sym c.is_wanted.ensures ∙ c.if-is_wanted.false) (c.first-place.ensures.valid.distinct c.args.list) c.next-place.result (c.next-place.ensures.next c.args.list in_list)

pub returns-clause-here : goal.returns-clause-here
returns-clause-here c =
    (stops_at_end _ _ c.loop-k.invariant (omega (arith, few_places c.args.places.now c.args.list c.first-place.ensures.valid))).here_is

pub returns-clause-before : goal.returns-clause-before
returns-clause-before c =
    (stops_at_end _ _ c.loop-k.invariant (omega (arith, few_places c.args.places.now c.args.list c.first-place.ensures.valid))).before_is
