use Rattle.client_core.proofs.Edits.{kept_after}
use Rattle.client_core.proofs.calls.Calls.end_fence.Goals as goal

pub invariant_of-self : goal.invariant_of-self
invariant_of-self c =
    let going = rw (← c.self.view_is) at c.requires.going in
    kept_after 0 going.last c.remove.result c.self.invariant going.rising c.remove.ensures.row c.no-no.result.0 c.no-no.ensures c.end.ensures c.remove.ensures.rows c.push_back_reserved.ensures.capacity
