use Rattle.std.proofs.Common.{◌≡◌, ◌+◌, subst, arith}
use Rattle.index_lists.specs.NodeLists.{list_at}
use Rattle.dep_order.specs.WaitLists.{IsGrown}
use Rattle.dep_order.proofs.Joining.{joined_free, joined_more}
use Rattle.dep_order.proofs.wait_lists.join_run.Goals as goal

pub push_back-requires-clause-free : goal.push_back-requires-clause-free
push_back-requires-clause-free c = joined_free c.loop-k.invariant (c.requires.free c.loop-k.k (omega arith))

pub loop-k-preserved : goal.loop-k-preserved
loop-k-preserved c = joined_more c.loop-k.invariant c.push_back.new.self c.push_back.ensures.lists c.push_back.ensures.valid (omega arith)

pub returns-clause-grown : goal.returns-clause-grown
returns-clause-grown c = λ list.
    let all : c.loop-k.k ≡ c.args.run.count = omega arith in
    subst (λ k. IsGrown c.args.first (c.args.first + k) (list_at c.args.waits.now list) (list_at c.loop-k.waits list)) all (c.loop-k.invariant.grown list)
