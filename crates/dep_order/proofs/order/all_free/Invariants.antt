use Rattle.std.proofs.Common.{◌≡◌}
use Rattle.index_lists.specs.NodeLists.{IsValid}
use Rattle.index_lists.proofs.Free.{with_free}
use Rattle.dep_order.proofs.order.all_free.Given as goal

abbrev pub invariant-loop-place : goal.invariant-loop-place
invariant-loop-place l = record { free : l.places ≡ with_free 256 l.place; valid : IsValid l.places }
