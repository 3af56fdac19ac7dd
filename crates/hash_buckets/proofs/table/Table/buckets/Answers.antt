use Rattle.hash_buckets.proofs.Calls.{valid_done}
use Rattle.hash_buckets.proofs.table.Table.buckets.Goals as goal

pub returns-clause-valid : goal.returns-clause-valid
returns-clause-valid c = valid_done c.self.invariant _ c.self.view_is
