use Rattle.trace_laws.proofs.Spelled.{frames_are_spelled}
use Rattle.trace_laws.proofs.frame_laws.frames_spell_what_they_carry.Goals as goal

pub returns : goal.returns
returns c = frames_are_spelled
