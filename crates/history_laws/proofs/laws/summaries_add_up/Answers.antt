use Rattle.history_laws.proofs.AddsUp.{summaries_add_up}
use Rattle.history_laws.proofs.laws.summaries_add_up.Goals as goal

pub returns : goal.returns
returns c = summaries_add_up
