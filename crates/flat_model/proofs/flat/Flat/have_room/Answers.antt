use Rattle.std.proofs.Common.{◌≡◌, ◌∙◌, true, subst}
use Rattle.cl_types.specs.Places.{is_bucket_count}
use Rattle.flat_model.specs.Rows.{AreFourAtMost}
use Rattle.flat_model.specs.State.{FlatState, places, places_of}
use Rattle.flat_model.proofs.FitLemmas.{buckets_of_pages}
use Rattle.flat_model.proofs.flat.Flat.have_room.Goals as goal

pub returns : goal.returns
returns c =
    c.has_room_for_each.ensures
    ∙ buckets_of_pages c.args.self.now (places_of c.args.pid c.args.start c.args.n) (subst (λ (s : FlatState). is_bucket_count s.buckets ≡ true) c.self.view_is c.self.invariant.homes)
    (subst (λ (s : FlatState). AreFourAtMost s.buckets (places s)) c.self.view_is c.self.invariant.four)
