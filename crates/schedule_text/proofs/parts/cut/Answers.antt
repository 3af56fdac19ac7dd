use Rattle.schedule_text.proofs.PartLemmas.{split_none}
use Rattle.schedule_text.proofs.parts.cut.Goals as goal

pub returns-in-None-clause-parts : goal.returns-in-None-clause-parts
returns-in-None-clause-parts c = split_none c.args.separator c.args.bytes.now c.in-None.ensures
