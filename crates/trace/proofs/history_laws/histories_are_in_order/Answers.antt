use Rattle.trace.proofs.HistoryLemmas.{histories_are_in_order}
use Rattle.trace.proofs.history_laws.histories_are_in_order.Goals as goal

pub returns : goal.returns
returns c = histories_are_in_order
