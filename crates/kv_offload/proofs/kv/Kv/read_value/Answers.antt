use Rattle.std.proofs.Common.{arith, ◌∙◌}
use Rattle.kv_offload.proofs.PlaceLemmas.{slot_below}
use Rattle.kv_offload.proofs.VisitLemmas.{slot_part_in, value_read}
use Rattle.kv_offload.proofs.kv.Kv.read_value.Goals as goal

pub overflow_add-slot_place : goal.overflow_add-slot_place
overflow_add-slot_place g c = let h = slot_below c.args.slot (omega (arith, c.requires.pages.few)) in omega (arith, h)

pub read_at-requires-clause-within : goal.read_at-requires-clause-within
read_at-requires-clause-within g c = slot_part_in c.args.self.now.records c.args.slot _ 37 _ _ c.slot_place.ensures c.requires.pages c.requires.slot (omega arith) (omega arith)

pub returns-clause-value : goal.returns-clause-value
returns-clause-value g c = c.read_at.ensures.read ∙ value_read _ _ c.args.slot _ c.slot_place.ensures c.requires.whole c.requires.short
