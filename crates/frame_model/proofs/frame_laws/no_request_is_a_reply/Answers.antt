-- The law is the lemma of its name.
use Rattle.frame_model.proofs.FrameKindLemmas.{no_request_is_a_reply}
use Rattle.frame_model.proofs.frame_laws.no_request_is_a_reply.Goals as goal

pub returns : goal.returns
returns c = no_request_is_a_reply
