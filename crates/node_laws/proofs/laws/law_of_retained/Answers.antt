use Rattle.node_laws.proofs.Retained.{law_of_retained}
use Rattle.node_laws.proofs.laws.law_of_retained.Goals as goal

pub returns : goal.returns
returns c = law_of_retained
