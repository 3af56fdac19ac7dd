use Rattle.storm_gen.proofs.SuitLemmas.{generated_suit}
use Rattle.storm_gen.proofs.laws.generated_schedules_suit_worlds.Goals as goal

pub returns : goal.returns
returns c = generated_suit
