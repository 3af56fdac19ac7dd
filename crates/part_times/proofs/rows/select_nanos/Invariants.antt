use Rattle.df_offload.specs.Stored.{IsStore}
use Rattle.part_times.proofs.rows.select_nanos.Given as goal

-- the space holds a data frame at each turn
abbrev pub invariant-loop-turn : goal.invariant-loop-turn
invariant-loop-turn l = IsStore 2 1000 l.space
