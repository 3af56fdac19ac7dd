use Rattle.std.proofs.Common.{◌∙◌, sym}
use Rattle.flat_model.specs.Rows.{has_room_at}
use Rattle.flat_model.specs.State.{places_of}
use Rattle.flat_model.proofs.FitLemmas.{all_places_next, all_places_fail}
use Rattle.flat_model.proofs.flat.Flat.has_room_for_each.Goals as goal

pub returns-then-not-has_room : goal.returns-then-not-has_room
returns-then-not-has_room c =
    sym (sym c.loop-i.invariant
    ∙ all_places_fail (has_room_at c.args.self.now (places_of c.args.pid c.args.start c.args.n)) c.args.pid c.args.start c.args.n c.loop-i.i c.loop-i-test.true
    (sym c.has_room.ensures ∙ c.if-not-has_room.true))

pub loop-i-preserved : goal.loop-i-preserved
loop-i-preserved c =
    sym (all_places_next (has_room_at c.args.self.now (places_of c.args.pid c.args.start c.args.n)) c.args.pid c.args.start c.args.n c.loop-i.i c.loop-i-test.true
    (sym c.has_room.ensures ∙ c.if-not-has_room.false)) ∙ c.loop-i.invariant
