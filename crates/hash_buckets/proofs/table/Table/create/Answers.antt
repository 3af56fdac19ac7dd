use Rattle.hash_buckets.proofs.Calls.{empty_map, empty_valid}
use Rattle.hash_buckets.proofs.table.Table.create.Goals as goal

pub returns-clause-empty : goal.returns-clause-empty
returns-clause-empty c = empty_map _ _ c.in_ok-create.ensures

pub returns-clause-valid : goal.returns-clause-valid
returns-clause-valid c = empty_valid _ _ c.in_ok-create.ensures c.requires
