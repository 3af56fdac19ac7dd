-- So far no place on the way had the wanted part.
use Rattle.index_lists.specs.NodeLists.{list_at}
use Rattle.client_retry.specs.Walks.{wanted_at}
use Rattle.client_retry.proofs.WalkLemmas.{HasCome}
use Rattle.client_retry.proofs.walk.walk.Given as goal

abbrev pub invariant-loop-k : goal.invariant-loop-k
invariant-loop-k l = HasCome (list_at l.places l.list) (wanted_at l.slots l.wanted) l._k l.place l.before
