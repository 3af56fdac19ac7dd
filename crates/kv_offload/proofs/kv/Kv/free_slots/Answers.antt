use Rattle.std.proofs.Common.{◌≡◌, subst, arith, ◌∙◌}
use Rattle.kv_offload.proofs.EmptyLemmas.{AreFree, free_store, free_pairs}
use Rattle.kv_offload.proofs.StepLemmas.{more_free}
use Rattle.kv_offload.proofs.kv.Kv.free_slots.Goals as goal

pub loop-slot-preserved : goal.loop-slot-preserved
loop-slot-preserved g c = record {
  free = more_free c.args.self.now.records c.loop-slot.slot c.next_free.result _ _ c.loop-slot-test.true c.next_free.ensures.node c.clear.ensures.says c.loop-slot.invariant.free;
  pages = c.clear.ensures.pages;
  rest = c.clear.ensures.rest ∙ c.loop-slot.invariant.rest;
  honest = c.clear.ensures.honest;
}

pub returns-clause-store : goal.returns-clause-store
returns-clause-store g c =
    let all : c.loop-slot.slot ≡ c.args.self.now.records = omega (arith, c.loop-slot-test.false, c.loop-slot.auto.slot-end) in
    free_store c.loop-slot.invariant.pages (subst (λ done. AreFree c.args.self.now.records done (g.P.Space.contents c.loop-slot.space)) all c.loop-slot.invariant.free)

pub returns-clause-empty : goal.returns-clause-empty
returns-clause-empty g c =
    let all : c.loop-slot.slot ≡ c.args.self.now.records = omega (arith, c.loop-slot-test.false, c.loop-slot.auto.slot-end) in
    free_pairs c.loop-slot.invariant.pages (subst (λ done. AreFree c.args.self.now.records done (g.P.Space.contents c.loop-slot.space)) all c.loop-slot.invariant.free)
