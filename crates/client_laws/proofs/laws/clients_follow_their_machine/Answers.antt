use Rattle.client_laws.proofs.Following.{clients_follow}
use Rattle.client_laws.proofs.laws.clients_follow_their_machine.Goals as goal

pub returns : goal.returns
returns c = clients_follow
