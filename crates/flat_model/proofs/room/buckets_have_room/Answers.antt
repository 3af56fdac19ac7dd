use Rattle.std.proofs.Common.{◌+◌, ◌∙◌, sym}
use Rattle.flat_model.specs.Rows.{has_room_among}
use Rattle.flat_model.proofs.FitLemmas.{all_places_next, all_places_fail}
use Rattle.flat_model.proofs.OpeningLemmas.{same_pages}
use Rattle.flat_model.proofs.room.buckets_have_room.Goals as goal

pub loop-i-preserved : goal.loop-i-preserved
loop-i-preserved c =
    sym (all_places_next (has_room_among c.args.config.now (c.args.k + 1)) c.space_of-space.result 1 c.page_count-n.result c.loop-i.i c.loop-i-test.true
    (sym c.has_room_at.ensures ∙ c.if-not-has_room_at.false)) ∙ c.loop-i.invariant

pub returns-then-not-has_room_at : goal.returns-then-not-has_room_at
returns-then-not-has_room_at c =
    sym (sym (same_pages (has_room_among c.args.config.now (c.args.k + 1)) _ _ _ _ c.space_of-space.ensures c.page_count-n.ensures.value) ∙ sym c.loop-i.invariant
    ∙ all_places_fail (has_room_among c.args.config.now (c.args.k + 1)) c.space_of-space.result 1 c.page_count-n.result c.loop-i.i c.loop-i-test.true
    (sym c.has_room_at.ensures ∙ c.if-not-has_room_at.true))
