use Rattle.std.proofs.Common.{◌∙◌, List, sym, subst, arith}
use Rattle.cl_types.specs.Places.{Place}
use Rattle.flat_model.specs.Rows.{AreFourAtMost}
use Rattle.flat_model.proofs.OpeningLemmas.{four_held, held_all, no_room, room_next}
use Rattle.flat_model.proofs.room.offload_without_room.Goals as goal

pub returns-then-not-has_room_for-clause-fault : goal.returns-then-not-has_room_for-clause-fault
returns-then-not-has_room_for-clause-fault c =
    sym (no_room c.args.config.now c.loop-k.k c.from.result (omega (arith, c.offload_count-count.ensures.value)) (c.from.ensures ∙ c.page_count.ensures.value)
    (sym c.has_room_for.ensures ∙ c.if-not-has_room_for.true) c.loop-k.invariant.room)

pub loop-k-preserved : goal.loop-k-preserved
loop-k-preserved c = record {
  four = four_held c.args.config.now _ c.requires (sym c.has_room_for.ensures ∙ c.if-not-has_room_for.false);
  room = room_next c.args.config.now c.loop-k.k (omega (arith, c.offload_count-count.ensures.value)) (sym c.has_room_for.ensures ∙ c.if-not-has_room_for.false) c.loop-k.invariant.room;
}

pub returns-clause-four : goal.returns-clause-four
returns-clause-four c =
    subst (λ (held : List Place). AreFourAtMost c.args.config.now.buckets held) (held_all c.args.config.now c.loop-k.k (omega (arith, c.offload_count-count.ensures.value))) c.loop-k.invariant.four
