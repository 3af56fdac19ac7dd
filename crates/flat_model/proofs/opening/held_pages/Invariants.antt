use Rattle.std.proofs.Common.{◌≡◌}
use Rattle.flat_model.specs.Opening.{held_by}
use Rattle.flat_model.proofs.opening.held_pages.Given as goal

abbrev pub invariant-loop-k : goal.invariant-loop-k
invariant-loop-k l = l.held.items ≡ held_by l.config l.k
