use Rattle.std.proofs.Common.{◌∙◌}
use Rattle.kv_offload.proofs.kv.Kv.count.Goals as goal

pub returns-clause-count : goal.returns-clause-count
returns-clause-count g c = c.counted.ensures.count ∙ c.requires.store.sound.counted
