use Rattle.trace_laws.proofs.NodeLines.{nodes_follow}
use Rattle.trace_laws.proofs.laws.node_follows_its_machine.Goals as goal

pub returns : goal.returns
returns c = nodes_follow
