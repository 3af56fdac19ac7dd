use Rattle.mv_offload.proofs.LawLemmas.{reads_give_what_was_appended}
use Rattle.mv_offload.proofs.laws.reads_give_what_was_appended.Goals as goal

pub returns : goal.returns
returns c = reads_give_what_was_appended
