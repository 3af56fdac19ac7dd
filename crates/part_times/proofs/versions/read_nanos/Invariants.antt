use Rattle.mv_offload.specs.Stored.{IsStore}
use Rattle.part_times.proofs.versions.read_nanos.Given as goal

-- the space holds objects at each turn
abbrev pub invariant-loop-turn : goal.invariant-loop-turn
invariant-loop-turn l = IsStore 256 4096 l.space
