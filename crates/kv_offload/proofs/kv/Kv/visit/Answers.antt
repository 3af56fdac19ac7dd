use Rattle.std.proofs.Common.{arith, ◌∙◌}
use Rattle.kv_offload.proofs.VisitLemmas.{slot_start_in, slot_whole, has_key_is, next_is, value_len_is}
use Rattle.kv_offload.proofs.kv.Kv.visit.Goals as goal

pub read_at-requires-clause-within : goal.read_at-requires-clause-within
read_at-requires-clause-within g c = slot_start_in c.args.self.now.records c.args.slot _ 37 _ c.slot_place.ensures c.requires.pages c.requires.slot (omega arith)

pub returns-clause-key : goal.returns-clause-key
returns-clause-key g c =
    has_key_is (g.P.Space.contents c.args.space.now) c.read_at.new.out c.slot_place.result c.args.slot c.slot_place.ensures c.read_at.ensures.read
    c.begins_key.result c.args.key.now c.requires.key c.begins_key.ensures.byte (slot_whole c.args.self.now.records c.args.slot _ c.requires.pages c.requires.slot) c.begins_key.ensures.test

pub returns-clause-next : goal.returns-clause-next
returns-clause-next g c =
    c.number_in.ensures.number ∙ next_is (g.P.Space.contents c.args.space.now) c.read_at.new.out c.slot_place.result c.args.slot c.slot_place.ensures c.read_at.ensures.read

pub returns-clause-value_len : goal.returns-clause-value_len
returns-clause-value_len g c =
    c.number_in-2.ensures.number ∙ value_len_is (g.P.Space.contents c.args.space.now) c.read_at.new.out c.slot_place.result c.args.slot c.slot_place.ensures c.read_at.ensures.read
