use Rattle.std.proofs.Common.{arith, ◌∙◌}
use Rattle.page_pool.proofs.Filling.{free_at, fill_ring, fill_clean, keep_clean, keep_ring, all_free}
use Rattle.page_pool.proofs.pool.Pool.create.Goals as goal
use Rattle.page_pool.proofs.pool.Pool.create.Goals.{then-page-ring, else-page-ring}

pub push_back-requires-else-page-ring-clause-free : goal.push_back-requires-else-page-ring-clause-free
push_back-requires-else-page-ring-clause-free c = free_at c.args.pages c.args.ring c.loop-page.page c.loop-page.lists c.loop-page.invariant.lists c.if-page-ring.false

pub invariant_of-result : goal.invariant_of-result
invariant_of-result c = all_free c.args.pages c.args.ring c.loop-page.page _ _ c.requires.pages c.requires.ring (omega arith) c.loop-page.invariant.filled c.loop-page.invariant.lists

pub loop-page-preserved : goal.loop-page-preserved
loop-page-preserved c = elim c.if-page-ring.branch [
  | then-page-ring w ↦ record {
    filled = w.filled-is ∙ fill_ring c.args.pages c.args.ring c.loop-page.page _ _ c.loop-page.invariant.filled w.if-page-ring.true w.push_back.ensures.items;
    lists = w.lists-is ∙ keep_clean c.args.pages c.args.ring c.loop-page.page _ c.loop-page.invariant.lists w.if-page-ring.true;
  }
  | else-page-ring w ↦ record {
    filled = w.filled-is ∙ keep_ring c.args.pages c.args.ring c.loop-page.page _ c.loop-page.invariant.filled w.if-page-ring.false;
    lists = w.lists-is ∙ fill_clean c.args.pages c.args.ring c.loop-page.page _ _ c.loop-page.invariant.lists w.if-page-ring.false w.push_back-else-page-ring.ensures.lists;
  }
]

pub returns-clause-parted : goal.returns-clause-parted
returns-clause-parted c = (all_free c.args.pages c.args.ring c.loop-page.page _ _ c.requires.pages c.requires.ring (omega arith) c.loop-page.invariant.filled c.loop-page.invariant.lists).parted
