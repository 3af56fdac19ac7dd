use Rattle.std.proofs.Common.{◌≡◌, ◌++◌}
use Rattle.flat_model.specs.State.{places_of}
use Rattle.flat_model.proofs.opening.add_pages.Given as goal

abbrev pub invariant-loop-i : goal.invariant-loop-i
invariant-loop-i l = l.held.items ≡ l.initial.held.items ++ places_of l.space 1 l.i
