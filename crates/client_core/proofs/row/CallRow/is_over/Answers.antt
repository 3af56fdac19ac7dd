use Rattle.std.proofs.Common.{◌∙◌, ap, sym}
use Rattle.client_core.proofs.RowLemmas.{over_row}
use Rattle.client_core.proofs.row.CallRow.is_over.Goals as goal

pub returns : goal.returns
returns c = rw (← c.self.view_is) (over_row c.self.invariant)
