use Rattle.std.proofs.Common.{rules}
use Rattle.world.proofs.listen.took.Goals as goal

pub returns-clause-listened : goal.returns-clause-listened
returns-clause-listened c = search rules
