use Rattle.std.proofs.Common.{ℕ, List, sym, subst}
use Rattle.cl_types.specs.Places.{Place}
use Rattle.flat_model.specs.Rows.{AreFourAtMost}
use Rattle.flat_model.proofs.opening.create.Goals as goal

pub empty-requires-clause-four : goal.empty-requires-clause-four
empty-requires-clause-four c =
    subst (λ (buckets : ℕ). AreFourAtMost buckets c.in_ok-held.held.items) (sym c.bucket_count.ensures.value)
    (subst (λ (held : List Place). AreFourAtMost c.args.config.now.buckets held) (sym c.in_ok-held.ensures) c.in_default-offload_without_room.ensures.four)
