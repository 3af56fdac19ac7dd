-- There is room for a part where a place has none, and then the place has it.
use Rattle.std.proofs.Common.{ap, ◌∙◌, set, Some}
use Rattle.client_retry.specs.Slots.{slot_at}
use Rattle.client_retry.proofs.SlotLemmas.{room_left, put_seen, put_kept}
use Rattle.client_retry.proofs.slots.Slots.put.Goals as goal

pub insert_reserved-key-requires : goal.insert_reserved-key-requires
insert_reserved-key-requires c =
    room_left c.self.inside.parts c.self.inside.keys c.self.invariant c.args.place c.requires.within (ap (λ v. slot_at v c.args.place) c.self.view_is ∙ c.requires.vacant)

pub invariant_of-self : goal.invariant_of-self
invariant_of-self c =
    put_kept c.self.inside.parts c.self.inside.keys c.self.invariant c.insert_reserved-key.new.self c.args.place c.insert_reserved-key.result c.args.part c.requires.within (ap (λ v. slot_at v c.args.place) c.self.view_is ∙ c.requires.vacant) c.insert_reserved-key.ensures.was_vacant c.insert_reserved-key.ensures.updates c.insert_reserved-key.ensures.len c.insert_reserved-key.ensures.capacity

pub returns : goal.returns
returns c =
    put_seen c.self.inside.parts c.self.inside.keys c.self.invariant c.insert_reserved-key.new.self c.args.place c.insert_reserved-key.result c.args.part c.requires.within (ap (λ v. slot_at v c.args.place) c.self.view_is ∙ c.requires.vacant) c.insert_reserved-key.ensures.was_vacant c.insert_reserved-key.ensures.updates
    ∙ ap (λ v. set v c.args.place (Some c.args.part)) c.self.view_is
