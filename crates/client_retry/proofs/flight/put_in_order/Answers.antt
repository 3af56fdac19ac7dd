-- The place comes right before the first part that is behind the new one.
use Rattle.std.proofs.Common.{ap, sym, ◌∙◌}
use Rattle.index_lists.specs.NodeLists.{list_at, with_list}
use Rattle.client_retry.specs.Walks.{wanted_at}
use Rattle.client_retry.specs.declared.walk.Wanted.TheVariants.{Behind}
use Rattle.client_retry.proofs.Places.{placed_first, placed_behind, place_within}
use Rattle.client_retry.proofs.flight.put_in_order.Goals as goal

pub insert_after-requires-clause-after_held : goal.insert_after-requires-clause-after_held
insert_after-requires-clause-after_held c =
    (0, (placed_behind (list_at c.args.places.now 0) _ c.in-Some.before c.args.place (c.requires.valid.distinct 0) (sym c.in-Some.is ∙ c.walk.ensures.before)).0)

pub returns-in-None-clause-places : goal.returns-in-None-clause-places
returns-in-None-clause-places c =
    c.push_front.ensures.lists
    ∙ ap (with_list c.args.places.now 0) (placed_first (list_at c.args.places.now 0) _ c.args.place (place_within (wanted_at c.args.slots.now (Behind c.args.part)) (list_at c.args.places.now 0)) (sym c.in-None.is ∙ c.walk.ensures.before))

pub returns-in-Some-clause-places : goal.returns-in-Some-clause-places
returns-in-Some-clause-places c =
    let behind = placed_behind (list_at c.args.places.now 0) _ c.in-Some.before c.args.place (c.requires.valid.distinct 0) (sym c.in-Some.is ∙ c.walk.ensures.before) in
    c.insert_after.ensures.lists 0 behind.0 ∙ ap (with_list c.args.places.now 0) behind.1
