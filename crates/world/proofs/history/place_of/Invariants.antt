-- The place is at most the one that was reached.
use Rattle.std.proofs.Common.{◌≤◌, length, not}
use Rattle.std.specs.List.{position_or_len}
use Rattle.trace.specs.Account.{is_before}
use Rattle.world.proofs.history.place_of.Given as goal

abbrev pub invariant-loop-at : goal.invariant-loop-at
invariant-loop-at l = (l.at ≤ length l.history) × (position_or_len (λ e. not (is_before l.fn.entry.line l.fn.entry.position e)) l.history ≤ l.at)

abbrev pub decreases-loop-at : goal.decreases-loop-at
decreases-loop-at l = l.at
