-- The law is the lemma of its name.
use Rattle.frame_model.proofs.RequestFrameLemmas.{bytes_spell_one_request}
use Rattle.frame_model.proofs.frame_laws.bytes_spell_one_request.Goals as goal

pub returns : goal.returns
returns c = bytes_spell_one_request
