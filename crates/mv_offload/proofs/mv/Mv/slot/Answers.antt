use Rattle.std.proofs.Common.{List, ℕ, ◌-◌, ap, arith, ◌∙◌}
use Rattle.mv_offload.specs.Layout.{link_of}
use Rattle.mv_offload.proofs.CallLemmas.{back_start, back_node, back_next, back_ends}
use Rattle.mv_offload.proofs.mv.Mv.slot.Goals as goal

pub loop-behind-init : goal.loop-behind-init
loop-behind-init g c = record {
  back = back_start c.args.index c.args.version c.args.behind c.last-node.result c.requires.store c.requires.index c.requires.behind c.last-node.ensures.number;
  contents = c.last-node.ensures.contents;
  rest = c.last-node.ensures.rest;
  honest = c.last-node.ensures.honest;
}

pub overflow_sub-node : goal.overflow_sub-node
overflow_sub-node g c = back_node c.loop-behind.invariant.back c.requires.version

pub loop-behind-preserved : goal.loop-behind-preserved
loop-behind-preserved g c = record {
  back = back_next c.requires.store c.loop-behind.invariant.back c.requires.version c.link-node.result (c.loop-behind.behind - 1)
      (c.link-node.ensures.number ∙ ap (λ (m : List ℕ). link_of m (c.loop-behind.node - 1)) c.loop-behind.invariant.contents)
      (omega arith);
  contents = c.link-node.ensures.contents ∙ c.loop-behind.invariant.contents;
  rest = c.link-node.ensures.rest ∙ c.loop-behind.invariant.rest;
  honest = c.link-node.ensures.honest;
}

pub overflow_sub-result : goal.overflow_sub-result
overflow_sub-result g c = back_node c.loop-behind.invariant.back c.requires.version

pub returns-clause-version : goal.returns-clause-version
returns-clause-version g c = back_ends c.requires.store c.loop-behind.invariant.back c.requires.version (omega arith)
