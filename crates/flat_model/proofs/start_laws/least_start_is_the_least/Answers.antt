use Rattle.flat_model.proofs.LeastLemmas.{least_start_is_the_least}
use Rattle.flat_model.proofs.start_laws.least_start_is_the_least.Goals as goal

pub returns : goal.returns
returns c = least_start_is_the_least
