use Rattle.std.proofs.Common.{rules}
use Rattle.flat_model.proofs.check.check_free.Goals as goal

pub returns-then-not-is_nothing : goal.returns-then-not-is_nothing
returns-then-not-is_nothing c = search rules
