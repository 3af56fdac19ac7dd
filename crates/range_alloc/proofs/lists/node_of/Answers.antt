use Rattle.std.proofs.Common.{ap, subst, arith}
use Rattle.index_lists.specs.NodeLists.{list_at}
use Rattle.range_alloc.proofs.NodeLemmas.{IsWalked, walk_starts, walk_at, walk_ends, at_there, at_found, at_next, at_shorter, from_on}
use Rattle.range_alloc.proofs.lists.node_of.Goals as goal

pub loop-at-init : goal.loop-at-init
loop-at-init c = walk_starts c.args.ranges.now (list_at c.args.lists.now c.args.list) c.args.start _ c.first-at.ensures.first

pub bounds-ranges-node : goal.bounds-ranges-node
bounds-ranges-node c =
    let at = walk_at c.args.ranges.now (list_at c.args.lists.now c.args.list) c.args.start c.in-Some.node (subst (IsWalked c.args.ranges.now (list_at c.args.lists.now c.args.list) c.args.start) c.in-Some.is c.loop-at.invariant) (c.requires.valid.distinct c.args.list) in
    let below = c.requires.valid.in_range c.args.list c.in-Some.node (at_there at) in
    omega (arith, below.1)

pub returns-then-ranges-node-clause-found : goal.returns-then-ranges-node-clause-found
returns-then-ranges-node-clause-found c =
    let at = walk_at c.args.ranges.now (list_at c.args.lists.now c.args.list) c.args.start c.in-Some.node (subst (IsWalked c.args.ranges.now (list_at c.args.lists.now c.args.list) c.args.start) c.in-Some.is c.loop-at.invariant) (c.requires.valid.distinct c.args.list) in
    record { there = at_there at; gone = at_found at c.if-ranges-node.true }

pub next-at-requires : goal.next-at-requires
next-at-requires c =
    let at = walk_at c.args.ranges.now (list_at c.args.lists.now c.args.list) c.args.start c.in-Some.node (subst (IsWalked c.args.ranges.now (list_at c.args.lists.now c.args.list) c.args.start) c.in-Some.is c.loop-at.invariant) (c.requires.valid.distinct c.args.list) in
    (c.args.list, at_there at)

pub loop-at-smaller : goal.loop-at-smaller
loop-at-smaller c =
    let at = walk_at c.args.ranges.now (list_at c.args.lists.now c.args.list) c.args.start c.in-Some.node (subst (IsWalked c.args.ranges.now (list_at c.args.lists.now c.args.list) c.args.start) c.in-Some.is c.loop-at.invariant) (c.requires.valid.distinct c.args.list) in
    let less = at_shorter at (c.requires.valid.distinct c.args.list) c.next-at.result (c.next-at.ensures.next c.args.list (at_there at)) in
    let here = ap (λ n. from_on n (list_at c.args.lists.now c.args.list)) c.in-Some.is in
    omega (arith, less, here)

pub loop-at-preserved : goal.loop-at-preserved
loop-at-preserved c =
    let at = walk_at c.args.ranges.now (list_at c.args.lists.now c.args.list) c.args.start c.in-Some.node (subst (IsWalked c.args.ranges.now (list_at c.args.lists.now c.args.list) c.args.start) c.in-Some.is c.loop-at.invariant) (c.requires.valid.distinct c.args.list) in
    at_next at c.if-ranges-node.false c.next-at.result (c.next-at.ensures.next c.args.list (at_there at))

pub returns-clause-absent : goal.returns-clause-absent
returns-clause-absent c =
    walk_ends c.args.ranges.now (list_at c.args.lists.now c.args.list) c.args.start (subst (IsWalked c.args.ranges.now (list_at c.args.lists.now c.args.list) c.args.start) c.in_default.is c.loop-at.invariant)
