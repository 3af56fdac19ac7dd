use Rattle.std.proofs.Common.{rules}
use Rattle.schedule_text.proofs.said.call_of_nobody.Goals as goal

pub returns : goal.returns
returns c = search rules
