-- A new slab has room for a part at each place.
use Rattle.client_retry.proofs.SlotLemmas.{none_kept}
use Rattle.client_retry.proofs.slots.Slots.create.Goals as goal

pub invariant_of-result : goal.invariant_of-result
invariant_of-result c = none_kept _ c.in_ok-with_capacity.ensures.empty c.in_ok-with_capacity.ensures.capacity
