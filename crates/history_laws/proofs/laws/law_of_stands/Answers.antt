use Rattle.history_laws.proofs.StandsKept.{law_of_stands}
use Rattle.history_laws.proofs.laws.law_of_stands.Goals as goal

pub returns : goal.returns
returns c = law_of_stands
