use Rattle.std.proofs.Common.{rules}
use Rattle.schedule_text.proofs.garbage.is_reply.Goals as goal

pub returns : goal.returns
returns c = search rules
