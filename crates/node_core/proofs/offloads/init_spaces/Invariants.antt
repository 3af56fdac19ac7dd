-- The spaces so far hold their objects.
use Rattle.node_core.proofs.Begun.{IsBegun}
use Rattle.node_core.proofs.offloads.init_spaces.Given as goal

abbrev pub invariant-loop-no : goal.invariant-loop-no
invariant-loop-no l = IsBegun l.fn.store l.store l.host l.no
