use Rattle.dep_order.proofs.Fits.{free_fit}
use Rattle.dep_order.proofs.row.row_of.Goals as goal

pub touching-requires : goal.touching-requires
touching-requires c = free_fit c.in-Free.addr c.in-Free.pages (rw c.in-Free.is at c.requires)
