use Rattle.flat_model.specs.State.{places_of}
use Rattle.flat_model.proofs.FitLemmas.{room_is}
use Rattle.flat_model.proofs.flat.Flat.has_room.Goals as goal

pub returns : goal.returns
returns c =
    room_is c.args.self.now (places_of c.args.pid c.args.start c.args.n) c.args.page _ _ _ _ _ c.home-bucket.ensures c.mapped_at.ensures c.held_at.ensures c.new_at.ensures
    c.fit_in_a_bucket.ensures
