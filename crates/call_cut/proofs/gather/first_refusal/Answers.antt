-- The first refusal that is met is the least part's.
use Rattle.call_cut.specs.Ends.{refusal_among}
use Rattle.call_cut.proofs.Endings.{found_here}
use Rattle.call_cut.proofs.gather.first_refusal.Goals as goal

pub returns-in-Refused : goal.returns-in-Refused
returns-in-Refused c = found_here refusal_among _ _ _ _ c.loop-outcome-test.true c.in-Refused.is c.loop-outcome.invariant
