-- No outcome so far was a refusal.
use Rattle.std.proofs.Common.{◌≡◌, drop}
use Rattle.call_cut.specs.Ends.{refusal_among}
use Rattle.call_cut.proofs.gather.first_refusal.Given as goal

abbrev pub invariant-loop-outcome : goal.invariant-loop-outcome
invariant-loop-outcome l = refusal_among (drop l.outcome-index l.outcomes) ≡ refusal_among l.outcomes
