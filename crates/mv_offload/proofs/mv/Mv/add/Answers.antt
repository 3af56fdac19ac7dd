use Rattle.std.proofs.Common.{arith}
use Rattle.mv_offload.proofs.CallLemmas.{number_below}
use Rattle.mv_offload.proofs.EffectLemmas.{appended}
use Rattle.mv_offload.proofs.mv.Mv.add.Goals as goal

pub overflow_add-number : goal.overflow_add-number
overflow_add-number g c = let few = number_below c.args.index c.args.number c.requires.store c.requires.index c.requires.number in omega (arith, few, c.requires.slot, c.requires.room, c.requires.store.pages.few_versions)

pub set_head-requires-clause-number : goal.set_head-requires-clause-number
set_head-requires-clause-number g c = let few = number_below c.args.index c.args.number c.requires.store c.requires.index c.requires.number in omega (arith, few, c.requires.slot, c.requires.room, c.requires.store.pages.few_versions)

pub returns-clause-held : goal.returns-clause-held
returns-clause-held g c =
    let few = number_below c.args.index c.args.number c.requires.store c.requires.index c.requires.number in
    let done = appended c.args.index c.args.slot c.args.number c.last-before.result c.args.bytes.now (g.P.Space.contents c.args.space.now) _ _ _ _ c.requires.store c.last-before.ensures.contents
    c.set_record.ensures.contents c.set_head.ensures.contents c.set_versions.ensures.contents c.requires.index c.requires.slot c.requires.room c.requires.number c.last-before.ensures.number
    (omega (arith, few, c.requires.slot, c.requires.room, c.requires.store.pages.few_versions)) c.last-before.ensures.below c.requires.bytes in
    done.held

pub returns-clause-store : goal.returns-clause-store
returns-clause-store g c =
    let few = number_below c.args.index c.args.number c.requires.store c.requires.index c.requires.number in
    let done = appended c.args.index c.args.slot c.args.number c.last-before.result c.args.bytes.now (g.P.Space.contents c.args.space.now) _ _ _ _ c.requires.store c.last-before.ensures.contents
    c.set_record.ensures.contents c.set_head.ensures.contents c.set_versions.ensures.contents c.requires.index c.requires.slot c.requires.room c.requires.number c.last-before.ensures.number
    (omega (arith, few, c.requires.slot, c.requires.room, c.requires.store.pages.few_versions)) c.last-before.ensures.below c.requires.bytes in
    done.store
