use Rattle.trace_laws.proofs.WindowKept.{one_account}
use Rattle.trace_laws.proofs.laws.one_account_for_the_other.Goals as goal

pub returns : goal.returns
returns c = one_account
