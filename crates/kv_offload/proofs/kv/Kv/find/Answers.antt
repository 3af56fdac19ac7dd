use Rattle.std.proofs.Common.{List, ℕ, ◌-◌, length, sym, ap, arith, ◌∙◌}
use Rattle.kv_offload.specs.declared.layout.TheConstants.{HEADS}
use Rattle.kv_offload.specs.Layout.{key_of, value_size}
use Rattle.kv_offload.proofs.CallLemmas.{walk_node, walk_next, walk_found, walk_behind, walk_reads, walk_ends}
use Rattle.kv_offload.proofs.HeadLemmas.{key_some}
use Rattle.kv_offload.proofs.kv.Kv.find.Goals as goal

pub overflow_sub-node : goal.overflow_sub-node
overflow_sub-node g c =
    let some = key_some c.args.key.now c.requires.some in
    let walk = c.loop-node.invariant.walk in
    let home = walk_node c.requires.store some walk c.loop-node-test.true in
    home.above

pub visit-visit-requires-clause-slot : goal.visit-visit-requires-clause-slot
visit-visit-requires-clause-slot g c =
    let some = key_some c.args.key.now c.requires.some in
    let walk = c.loop-node.invariant.walk in
    let home = walk_node c.requires.store some walk c.loop-node-test.true in
    omega (arith, home.above, home.below)

pub returns-then-visit-clause-found : goal.returns-then-visit-clause-found
returns-then-visit-clause-found g c =
    let some = key_some c.args.key.now c.requires.some in
    let walk = c.loop-node.invariant.walk in
    let home = walk_node c.requires.store some walk c.loop-node-test.true in
    walk_found c.requires.store some walk c.visit-visit.result.next c.visit-visit.result.value_len c.loop-node-test.true c.visit-visit.ensures.below
    (ap (λ (bytes : List ℕ). key_of bytes (c.loop-node.node - HEADS)) (sym c.loop-node.invariant.contents) ∙ c.visit-visit.ensures.key.0 c.if-visit.true)
    (walk_reads c.requires.store some walk _ c.visit-visit.result.next c.loop-node.invariant.contents home.above c.visit-visit.ensures.next)
    (c.visit-visit.ensures.value_len ∙ ap (λ (bytes : List ℕ). value_size bytes (c.loop-node.node - HEADS)) c.loop-node.invariant.contents)

pub loop-node-smaller : goal.loop-node-smaller
loop-node-smaller g c =
    let some = key_some c.args.key.now c.requires.some in
    let walk = c.loop-node.invariant.walk in
    let fewer = ap length (walk_behind c.requires.store some walk c.loop-node-test.true) in
    omega (arith, fewer)

pub loop-node-preserved : goal.loop-node-preserved
loop-node-preserved g c =
    let some = key_some c.args.key.now c.requires.some in
    let walk = c.loop-node.invariant.walk in
    let home = walk_node c.requires.store some walk c.loop-node-test.true in
    let other = c.if-visit.false in
    record {
      walk = walk_next c.requires.store some walk c.visit-visit.result.next c.loop-node-test.true
          (walk_reads c.requires.store some walk _ c.visit-visit.result.next c.loop-node.invariant.contents home.above c.visit-visit.ensures.next)
          (λ same. let has = c.visit-visit.ensures.key.1 (ap (λ (bytes : List ℕ). key_of bytes (c.loop-node.node - HEADS)) c.loop-node.invariant.contents ∙ same) in absurd cc);
      contents = c.visit-visit.ensures.contents ∙ c.loop-node.invariant.contents;
      rest = c.visit-visit.ensures.rest ∙ c.loop-node.invariant.rest;
      honest = c.visit-visit.ensures.honest;
    }

pub returns-clause-absent : goal.returns-clause-absent
returns-clause-absent g c =
    let some = key_some c.args.key.now c.requires.some in
    let walk = c.loop-node.invariant.walk in
    walk_ends c.requires.store some walk c.loop-node-test.false
