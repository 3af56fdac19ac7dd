-- The law is the lemma of its name.
use Rattle.frame_model.proofs.ItemFrameLemmas.{faultless_frames_are_spelled}
use Rattle.frame_model.proofs.frame_laws.faultless_frames_are_spelled.Goals as goal

pub returns : goal.returns
returns c = faultless_frames_are_spelled
