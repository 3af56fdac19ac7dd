-- The next place is in no list yet.
use Rattle.std.proofs.Common.{subst, sym}
use Rattle.index_lists.specs.NodeLists.{IsFree}
use Rattle.index_lists.proofs.Free.{next_free, free_more}
use Rattle.client_retry.proofs.flight.all_free.Goals as goal

pub push_back-requires-clause-free : goal.push_back-requires-clause-free
push_back-requires-clause-free c = subst (λ v. IsFree v c.loop-place.place) (sym c.loop-place.invariant.free) (next_free 64 c.loop-place.place)

pub loop-place-preserved : goal.loop-place-preserved
loop-place-preserved c = record {
  free = free_more 64 c.loop-place.places c.loop-place.place c.push_back.new.self c.loop-place.invariant.free c.push_back.ensures.lists;
  valid = c.push_back.ensures.valid;
}
