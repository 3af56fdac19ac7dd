use Rattle.node_laws.proofs.LocksKept.{law_of_locks}
use Rattle.node_laws.proofs.laws.law_of_locks.Goals as goal

pub returns : goal.returns
returns c = law_of_locks
