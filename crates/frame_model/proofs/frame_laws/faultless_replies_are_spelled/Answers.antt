-- The law is the lemma of its name.
use Rattle.frame_model.proofs.FaultlessReplyLemmas.{faultless_replies_are_spelled}
use Rattle.frame_model.proofs.frame_laws.faultless_replies_are_spelled.Goals as goal

pub returns : goal.returns
returns c = faultless_replies_are_spelled
