use Rattle.history_laws.proofs.Ends.{calls_add_up}
use Rattle.history_laws.proofs.laws.calls_add_up.Goals as goal

pub returns : goal.returns
returns c = calls_add_up
