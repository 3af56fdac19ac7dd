use Rattle.client_laws.proofs.ReadyCalls.{ready_in_accounts}
use Rattle.client_laws.proofs.laws.ready_calls_depend_on_none.Goals as goal

pub returns : goal.returns
returns c = ready_in_accounts
