use Rattle.kv_offload.proofs.StepLemmas.{free_begins, count_stays}
use Rattle.kv_offload.proofs.kv.Kv.init.Goals as goal

pub free_slots-requires-clause-links : goal.free_slots-requires-clause-links
free_slots-requires-clause-links g c = free_begins c.args.self.now.records _ _ c.set_link.ensures.says c.clear_heads.ensures.links

pub free_slots-requires-clause-count : goal.free_slots-requires-clause-count
free_slots-requires-clause-count g c = count_stays c.args.self.now.records _ _ c.set_link.ensures.says c.clear_heads.ensures.count
