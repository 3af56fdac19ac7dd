use Rattle.std.proofs.Common.{arith}
use Rattle.mv_offload.proofs.PlaceLemmas.{record_start_in}
use Rattle.mv_offload.proofs.mv.Mv.link.Goals as goal

pub read_number-requires-clause-within : goal.read_number-requires-clause-within
read_number-requires-clause-within g c = rw c.record_place.ensures (record_start_in c.requires.pages c.args.slot 2 c.requires.slot (omega arith))
