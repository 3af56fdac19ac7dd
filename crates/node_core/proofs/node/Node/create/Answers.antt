-- A node that opens has no fault.
use Rattle.std.proofs.lemmas.Option.{MatchOption-from_none}
use Rattle.flat_model.specs.Opening.{open_fault}
use Rattle.node_core.proofs.Opened.{opens}
use Rattle.node_core.proofs.node.Node.create.Goals as goal

pub returns-clause-fault : goal.returns-clause-fault
returns-clause-fault c = MatchOption-from_none (open_fault c.args.config.now) _ (opens _ c.in_ok-memory.memory (open_fault c.args.config.now) c.in_ok-memory.ensures.fault)
