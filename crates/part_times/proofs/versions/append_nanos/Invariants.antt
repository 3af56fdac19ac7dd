use Rattle.mv_offload.specs.Stored.{IsStore}
use Rattle.part_times.proofs.versions.append_nanos.Given as goal

-- the space holds objects at each turn
abbrev pub invariant-loop : goal.invariant-loop
invariant-loop l = IsStore 256 4096 l.space
