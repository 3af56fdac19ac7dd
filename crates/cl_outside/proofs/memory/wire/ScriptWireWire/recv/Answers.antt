use Rattle.std.proofs.Common.{arith}
use Rattle.std.proofs.lemmas.Grind.{common_steps}
use Rattle.cl_outside.proofs.memory.wire.ScriptWireWire.recv.Goals as goal

pub returns-clause-coming : goal.returns-clause-coming
returns-clause-coming c = grind (arith, common_steps)
