-- The law is the lemma of its name.
use Rattle.frame_model.proofs.ReplyFrameLemmas.{replies_are_read_again}
use Rattle.frame_model.proofs.frame_laws.replies_are_read_again.Goals as goal

pub returns : goal.returns
returns c = replies_are_read_again
