-- All places are free, and all chains are empty.
use Rattle.client_retry.proofs.Made.{made_sound}
use Rattle.client_retry.proofs.flight.Flight.create.Goals as goal

pub invariant_of-result : goal.invariant_of-result
invariant_of-result c = made_sound _ _ _ c.in_ok-create.ensures c.in_ok-all_free.ensures.free c.in_ok-all_free.ensures.valid c.in-Ok.ensures.empty c.in-Ok.ensures.valid
