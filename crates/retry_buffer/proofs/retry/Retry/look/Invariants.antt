use Rattle.std.proofs.Common.{length}
use Rattle.index_lists.specs.NodeLists.{list_at}
use Rattle.index_lists.proofs.Walks.{rest_from}
use Rattle.retry_buffer.proofs.Looks.{IsPassed}
use Rattle.retry_buffer.proofs.retry.Retry.look.Given as goal

-- the records of the places that the walk has passed have other names
abbrev pub invariant-loop-at : goal.invariant-loop-at
invariant-loop-at l = IsPassed l.self-inside.slots.items (record { client = l.client; kind = l.kind; orig = l.orig }) (list_at l.self-inside.chains l.chain) l.at

abbrev pub decreases-loop-at : goal.decreases-loop-at
decreases-loop-at l = length (rest_from l.at (list_at l.self-inside.chains l.chain))
