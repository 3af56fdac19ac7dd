use Rattle.std.proofs.Common.{arith}
use Rattle.part_times.proofs.SpaceLemmas.{enough_where_made}
use Rattle.part_times.proofs.versions.new_space.Goals as goal

pub returns : goal.returns
returns c = enough_where_made 275 c.create.result (omega arith) c.create.ensures
