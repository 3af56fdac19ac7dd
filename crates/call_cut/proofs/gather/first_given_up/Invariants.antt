-- No part so far was given up.
use Rattle.std.proofs.Common.{◌≡◌, drop}
use Rattle.call_cut.specs.Ends.{given_up_among}
use Rattle.call_cut.proofs.gather.first_given_up.Given as goal

abbrev pub invariant-loop-outcome : goal.invariant-loop-outcome
invariant-loop-outcome l = given_up_among (drop l.outcome-index l.outcomes) ≡ given_up_among l.outcomes
