use Rattle.history_laws.proofs.OrderKept.{law_of_order}
use Rattle.history_laws.proofs.laws.law_of_order.Goals as goal

pub returns : goal.returns
returns c = law_of_order
