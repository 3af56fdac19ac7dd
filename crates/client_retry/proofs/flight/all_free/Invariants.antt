-- The places so far are free, in their order.
use Rattle.std.proofs.Common.{◌≡◌}
use Rattle.index_lists.specs.NodeLists.{IsValid}
use Rattle.index_lists.proofs.Free.{with_free}
use Rattle.client_retry.proofs.flight.all_free.Given as goal

abbrev pub invariant-loop-place : goal.invariant-loop-place
invariant-loop-place l = record { free : l.places ≡ with_free 64 l.place; valid : IsValid l.places }
