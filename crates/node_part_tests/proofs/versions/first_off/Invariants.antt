use Rattle.mv_offload.specs.Stored.{IsStore}
use Rattle.node_part_tests.proofs.versions.first_off.Given as goal

-- the space holds objects at each step
abbrev pub invariant-loop-at : goal.invariant-loop-at
invariant-loop-at l = IsStore 2 3 l.space
