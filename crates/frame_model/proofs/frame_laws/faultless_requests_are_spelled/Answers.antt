-- The law is the lemma of its name.
use Rattle.frame_model.proofs.FaultlessRequestLemmas.{faultless_requests_are_spelled}
use Rattle.frame_model.proofs.frame_laws.faultless_requests_are_spelled.Goals as goal

pub returns : goal.returns
returns c = faultless_requests_are_spelled
