use Rattle.std.proofs.Common.{◌<◌, length, subst}
use Rattle.client_core.proofs.row.CallRow.part.Goals as goal
use Rattle.client_model.proofs.Buffers.{cut_emptied}

pub part-requires-clause-there : goal.part-requires-clause-there
part-requires-clause-there c = subst (λ rs. c.args.i < length rs) (cut_emptied c.self.inside.call) (rw (← c.self.view_is) at c.requires)
