use Rattle.std.proofs.Common.{arith}
use Rattle.cl_outside.proofs.FrontLemmas.{front_off}
use Rattle.cl_outside.proofs.memory.source.MemorySourceSource.read.Goals as goal

pub returns-clause-bytes : goal.returns-clause-bytes
returns-clause-bytes c = grind (arith, front_off)
