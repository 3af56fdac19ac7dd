use Rattle.client_laws.proofs.Following.{accounts_tell}
use Rattle.client_laws.proofs.laws.accounts_tell_endings.Goals as goal

pub returns : goal.returns
returns c = accounts_tell
