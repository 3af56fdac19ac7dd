use Rattle.std.proofs.Common.{◌∙◌}
use Rattle.flat_model.proofs.OpeningLemmas.{buckets_held, with_count}
use Rattle.flat_model.proofs.room.has_room_for.Goals as goal

pub returns-then-held_count-config : goal.returns-then-held_count-config
returns-then-held_count-config c =
    with_count _ _ _ _ _ c.held_count.ensures c.if-held_count-config.true (c.buckets_have_room.ensures ∙ buckets_held c.args.config.now c.args.k c.requires.good c.requires.within c.requires.four)
