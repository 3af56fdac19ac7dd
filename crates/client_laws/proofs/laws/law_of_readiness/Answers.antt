use Rattle.client_laws.proofs.Readiness.{ready_law}
use Rattle.client_laws.proofs.laws.law_of_readiness.Goals as goal

pub returns : goal.returns
returns c = ready_law
