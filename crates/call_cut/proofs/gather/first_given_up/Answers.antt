-- The first part that is met is the least that was given up.
use Rattle.call_cut.specs.Ends.{given_up_among}
use Rattle.call_cut.proofs.Endings.{found_here}
use Rattle.call_cut.proofs.gather.first_given_up.Goals as goal

pub returns-in-GivenUp : goal.returns-in-GivenUp
returns-in-GivenUp c = found_here given_up_among _ _ _ _ c.loop-outcome-test.true c.in-GivenUp.is c.loop-outcome.invariant
