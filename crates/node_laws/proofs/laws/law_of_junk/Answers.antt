use Rattle.node_laws.proofs.JunkDropped.{law_of_junk}
use Rattle.node_laws.proofs.laws.law_of_junk.Goals as goal

pub returns : goal.returns
returns c = law_of_junk
