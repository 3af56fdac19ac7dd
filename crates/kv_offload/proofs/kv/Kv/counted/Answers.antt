use Rattle.kv_offload.specs.Layout.{count_of}
use Rattle.kv_offload.proofs.kv.Kv.counted.Goals as goal

pub returns-clause-count : goal.returns-clause-count
unfolding count_of
returns-clause-count g c = c.read_number.ensures.number
