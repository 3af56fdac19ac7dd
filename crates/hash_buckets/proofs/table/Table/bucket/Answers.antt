use Rattle.hash_buckets.proofs.Calls.{looks}
use Rattle.hash_buckets.proofs.table.Table.bucket.Goals as goal

pub returns : goal.returns
returns c = looks c.self.invariant _ c.self.view_is _ c.home.ensures.below _ c.bucket.ensures _ c.home.ensures.value
