-- The law is the lemma of its name.
use Rattle.frame_model.proofs.ItemFrameLemmas.{frames_are_read_again}
use Rattle.frame_model.proofs.frame_laws.frames_are_read_again.Goals as goal

pub returns : goal.returns
returns c = frames_are_read_again
