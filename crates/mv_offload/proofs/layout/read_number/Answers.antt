use Rattle.std.proofs.Common.{rules}
use Rattle.mv_offload.specs.Layout.{number_at}
use Rattle.mv_offload.proofs.layout.read_number.Goals as goal

pub returns-clause-number : goal.returns-clause-number
unfolding number_at
returns-clause-number g c = search rules
