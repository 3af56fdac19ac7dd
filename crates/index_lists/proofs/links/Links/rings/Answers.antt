use Rattle.index_lists.proofs.Changes.{range_more}
use Rattle.index_lists.proofs.links.Links.rings.Goals as goal

pub loop-place-preserved : goal.loop-place-preserved
loop-place-preserved c = record {
  next = rw (range_more, ← c.loop-place.invariant.next) c.in_ok-push.ensures.items;
  prev = rw (range_more, ← c.loop-place.invariant.prev) c.in_ok-push-2.ensures.items;
}
