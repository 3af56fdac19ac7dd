-- The law is the lemma of its name.
use Rattle.frame_model.proofs.RequestFrameLemmas.{requests_are_read_again}
use Rattle.frame_model.proofs.frame_laws.requests_are_read_again.Goals as goal

pub returns : goal.returns
returns c = requests_are_read_again
