use Rattle.trace_texts.proofs.ReadSchedules.{schedules_are_good}
use Rattle.trace_texts.proofs.laws.schedules_read_are_good.Goals as goal

pub returns : goal.returns
returns c = schedules_are_good
