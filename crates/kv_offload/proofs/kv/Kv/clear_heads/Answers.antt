use Rattle.std.proofs.Common.{arith, ◌∙◌}
use Rattle.kv_offload.proofs.StepLemmas.{head_cleared, count_cleared, count_links}
use Rattle.kv_offload.proofs.kv.Kv.clear_heads.Goals as goal

pub loop-head-preserved : goal.loop-head-preserved
loop-head-preserved g c = record {
  links = head_cleared c.args.self.now.records c.loop-head.head _ _ c.loop-head-test.true c.set_link.ensures.says c.loop-head.invariant.links;
  pages = c.set_link.ensures.pages;
  rest = c.set_link.ensures.rest ∙ c.loop-head.invariant.rest;
  honest = c.set_link.ensures.honest;
}

pub returns-clause-links : goal.returns-clause-links
returns-clause-links g c =
    count_links c.args.self.now.records _ _ c.set_count.ensures.says (λ node less. c.loop-head.invariant.links node (omega (arith, less, c.loop-head-test.false)))

pub returns-clause-count : goal.returns-clause-count
returns-clause-count g c = count_cleared c.args.self.now.records _ _ c.set_count.ensures.says
