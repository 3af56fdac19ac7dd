-- The law is the lemma of its name.
use Rattle.frame_model.proofs.ReplyFrameLemmas.{bytes_spell_one_reply}
use Rattle.frame_model.proofs.frame_laws.bytes_spell_one_reply.Goals as goal

pub returns : goal.returns
returns c = bytes_spell_one_reply
