use Rattle.df_offload.specs.Stored.{IsStore}
use Rattle.node_part_tests.proofs.rows.first_answered_otherwise.Given as goal

-- the space holds a data frame at each step
abbrev pub invariant-loop-at : goal.invariant-loop-at
invariant-loop-at l = IsStore 2 3 l.space
