use Rattle.node_laws.proofs.SoundStates.{replies_fit}
use Rattle.node_laws.proofs.laws.replies_fit_their_requests.Goals as goal

pub returns : goal.returns
returns c = replies_fit
