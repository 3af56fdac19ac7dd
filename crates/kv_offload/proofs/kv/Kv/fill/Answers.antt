use Rattle.std.proofs.Common.{◌+◌, length, refl, ap, arith, ℕ}
use Rattle.kv_offload.proofs.PlaceLemmas.{put_same, page_same, pages_left, slot_below}
use Rattle.kv_offload.proofs.SaysLemmas.{FilledSlot, says_filled, filled}
use Rattle.kv_offload.proofs.VisitLemmas.{slot_start_in, slot_part_in, slot_whole, written_pages}
use Rattle.kv_offload.proofs.kv.Kv.fill.Goals as goal

pub write_at-requires-clause-within : goal.write_at-requires-clause-within
write_at-requires-clause-within g c =
    page_same c.slot_place-place.result c.slot_place-place.result (length c.front_of.result) 5 _ refl (ap length c.front_of.ensures)
    (slot_start_in c.args.self.now.records c.args.slot _ 5 _ c.slot_place-place.ensures c.requires.pages c.requires.slot (omega arith))

pub overflow_add-place : goal.overflow_add-place
overflow_add-place g c = let h = slot_below c.args.slot (omega (arith, c.requires.pages.few)) in omega (arith, h)

pub write_at-requires-2-clause-within : goal.write_at-requires-2-clause-within
write_at-requires-2-clause-within g c =
    slot_part_in c.args.self.now.records c.args.slot c.slot_place-place.result 5 (length c.args.key.now) _ c.slot_place-place.ensures
    (written_pages c.args.self.now.records c.args.slot c.slot_place-place.result 0 c.front_of.result (g.P.Space.contents c.args.space.now) (g.P.Space.contents c.write_at.new.self) (omega (arith, c.slot_place-place.ensures)) c.requires.pages c.requires.slot (omega (arith, ap length c.front_of.ensures)) c.write_at.ensures.contents)
    c.requires.slot (omega arith) (omega (arith, c.requires.key))

pub overflow_add-place-2 : goal.overflow_add-place-2
overflow_add-place-2 g c = let h = slot_below c.args.slot (omega (arith, c.requires.pages.few)) in omega (arith, h)

pub write_at-requires-3-clause-within : goal.write_at-requires-3-clause-within
write_at-requires-3-clause-within g c =
    slot_part_in c.args.self.now.records c.args.slot c.slot_place-place.result 37 (length c.args.value.now) _ c.slot_place-place.ensures
    (written_pages c.args.self.now.records c.args.slot (c.slot_place-place.result + 5) 5 c.args.key.now (g.P.Space.contents c.write_at.new.self) (g.P.Space.contents c.write_at-2.new.self) (omega (arith, c.slot_place-place.ensures))
    (written_pages c.args.self.now.records c.args.slot c.slot_place-place.result 0 c.front_of.result (g.P.Space.contents c.args.space.now) (g.P.Space.contents c.write_at.new.self) (omega (arith, c.slot_place-place.ensures)) c.requires.pages c.requires.slot (omega (arith, ap length c.front_of.ensures)) c.write_at.ensures.contents)
    c.requires.slot (omega (arith, c.requires.key)) c.write_at-2.ensures.contents)
    c.requires.slot (omega arith) (omega (arith, c.requires.value))

pub returns-clause-says : goal.returns-clause-says
returns-clause-says g c view =
    let slot : FilledSlot c.args.slot c.args.next c.args.key.now c.args.value.now (g.P.Space.contents c.args.space.now) (g.P.Space.contents c.write_at-3.new.self) =
    filled c.args.slot c.args.next c.args.key.now c.args.value.now _ (g.P.Space.contents c.write_at.new.self) (g.P.Space.contents c.write_at-2.new.self) _
    (slot_whole c.args.self.now.records c.args.slot _ c.requires.pages c.requires.slot) c.requires.next c.requires.key c.requires.value
    (put_same _ _ _ _ _ _ c.slot_place-place.ensures c.front_of.ensures c.write_at.ensures.contents)
    (put_same _ _ _ _ _ _ (ap (λ (at : ℕ). at + 5) c.slot_place-place.ensures) refl c.write_at-2.ensures.contents)
    (put_same _ _ _ _ _ _ (ap (λ (at : ℕ). at + 37) c.slot_place-place.ensures) refl c.write_at-3.ensures.contents) in
    says_filled slot c.args.self.now.records view

pub returns-clause-pages : goal.returns-clause-pages
returns-clause-pages g c =
    let slot : FilledSlot c.args.slot c.args.next c.args.key.now c.args.value.now (g.P.Space.contents c.args.space.now) (g.P.Space.contents c.write_at-3.new.self) =
    filled c.args.slot c.args.next c.args.key.now c.args.value.now _ (g.P.Space.contents c.write_at.new.self) (g.P.Space.contents c.write_at-2.new.self) _
    (slot_whole c.args.self.now.records c.args.slot _ c.requires.pages c.requires.slot) c.requires.next c.requires.key c.requires.value
    (put_same _ _ _ _ _ _ c.slot_place-place.ensures c.front_of.ensures c.write_at.ensures.contents)
    (put_same _ _ _ _ _ _ (ap (λ (at : ℕ). at + 5) c.slot_place-place.ensures) refl c.write_at-2.ensures.contents)
    (put_same _ _ _ _ _ _ (ap (λ (at : ℕ). at + 37) c.slot_place-place.ensures) refl c.write_at-3.ensures.contents) in
    pages_left slot.leaves c.requires.pages
