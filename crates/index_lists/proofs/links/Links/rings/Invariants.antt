use Rattle.std.proofs.Common.{◌≡◌}
use Rattle.std.specs.List.{range_with_len}
use Rattle.index_lists.proofs.links.Links.rings.Given as goal

abbrev pub invariant-loop-place : goal.invariant-loop-place
invariant-loop-place l = record {
  next : l.next.items ≡ range_with_len 0 l.place;
  prev : l.prev.items ≡ range_with_len 0 l.place;
}
