use Rattle.std.proofs.Common.{[], length, refl, ap, arith}
use Rattle.kv_offload.proofs.PlaceLemmas.{put_same, page_same, pages_left}
use Rattle.kv_offload.proofs.SaysLemmas.{FilledSlot, says_filled, cleared}
use Rattle.kv_offload.proofs.VisitLemmas.{slot_start_in, slot_whole}
use Rattle.kv_offload.proofs.kv.Kv.clear.Goals as goal

pub write_at-requires-clause-within : goal.write_at-requires-clause-within
write_at-requires-clause-within g c =
    page_same c.slot_place.result c.slot_place.result (length c.front_of.result) 5 _ refl (ap length c.front_of.ensures)
    (slot_start_in c.args.self.now.records c.args.slot _ 5 _ c.slot_place.ensures c.requires.pages c.requires.slot (omega arith))

pub returns-clause-says : goal.returns-clause-says
returns-clause-says g c view =
    let slot : FilledSlot c.args.slot c.args.next [] [] (g.P.Space.contents c.args.space.now) (g.P.Space.contents c.write_at.new.self) =
    cleared c.args.slot c.args.next _ _ (slot_whole c.args.self.now.records c.args.slot _ c.requires.pages c.requires.slot) c.requires.next
    (put_same _ _ _ _ _ _ c.slot_place.ensures c.front_of.ensures c.write_at.ensures.contents) in
    says_filled slot c.args.self.now.records view

pub returns-clause-pages : goal.returns-clause-pages
returns-clause-pages g c =
    let slot : FilledSlot c.args.slot c.args.next [] [] (g.P.Space.contents c.args.space.now) (g.P.Space.contents c.write_at.new.self) =
    cleared c.args.slot c.args.next _ _ (slot_whole c.args.self.now.records c.args.slot _ c.requires.pages c.requires.slot) c.requires.next
    (put_same _ _ _ _ _ _ c.slot_place.ensures c.front_of.ensures c.write_at.ensures.contents) in
    pages_left slot.leaves c.requires.pages
