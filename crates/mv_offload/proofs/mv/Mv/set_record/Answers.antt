use Rattle.std.proofs.Common.{arith, length}
use Rattle.cl_types.specs.Spaces.{IsInOnePage}
use Rattle.mv_offload.proofs.PlaceLemmas.{part_in, record_start_in, record_below, pages_put}
use Rattle.mv_offload.proofs.mv.Mv.set_record.Goals as goal

pub write_number-requires-clause-within : goal.write_number-requires-clause-within
write_number-requires-clause-within g c = rw c.record_place-place.ensures (record_start_in c.requires.pages c.args.slot 2 c.requires.slot (omega arith))

pub overflow_add-place : goal.overflow_add-place
overflow_add-place g c = let h = record_below c.args.slot (omega (arith, c.requires.pages.few_versions)) in omega (arith, h)

pub write_number-requires-2-clause-within : goal.write_number-requires-2-clause-within
write_number-requires-2-clause-within g c =
    let first : IsInOnePage c.record_place-place.result 2 (length (g.P.Space.contents c.args.space.now)) =
    rw c.record_place-place.ensures (record_start_in c.requires.pages c.args.slot 2 c.requires.slot (omega arith)) in
    let pages = pages_put _ c.requires.pages first c.write_number.ensures.contents in
    part_in pages c.args.slot 2 2 _ c.record_place-place.ensures c.requires.slot (omega arith) (omega arith)

pub overflow_add-place-2 : goal.overflow_add-place-2
overflow_add-place-2 g c = let h = record_below c.args.slot (omega (arith, c.requires.pages.few_versions)) in omega (arith, h)

pub write_at-requires-clause-within : goal.write_at-requires-clause-within
write_at-requires-clause-within g c =
    let first : IsInOnePage c.record_place-place.result 2 (length (g.P.Space.contents c.args.space.now)) =
    rw c.record_place-place.ensures (record_start_in c.requires.pages c.args.slot 2 c.requires.slot (omega arith)) in
    let pages = pages_put _ c.requires.pages first c.write_number.ensures.contents in
    let next = part_in pages c.args.slot 2 2 _ c.record_place-place.ensures c.requires.slot (omega arith) (omega arith) in
    let pages2 = pages_put _ pages next c.write_number-2.ensures.contents in
    part_in pages2 c.args.slot 4 _ _ c.record_place-place.ensures c.requires.slot (omega arith) (omega arith)
