use Rattle.std.proofs.Common.{arith}
use Rattle.mv_offload.proofs.PlaceLemmas.{first_in}
use Rattle.mv_offload.proofs.mv.Mv.number.Goals as goal

pub read_number-requires-clause-within : goal.read_number-requires-clause-within
read_number-requires-clause-within g c = first_in c.requires.pages _ 2 (omega arith) (omega arith)
