use Rattle.std.proofs.Common.{◌≡◌, drop}
use Rattle.cl_types.specs.Config.{first_bad, judged_offloads}
use Rattle.cl_types.proofs.config.bad_record_count.Given as goal

-- the offloads so far are good
abbrev pub invariant-loop-offload : goal.invariant-loop-offload
invariant-loop-offload l = first_bad (judged_offloads l.offloads) ≡ first_bad (judged_offloads (drop l.offload-index l.offloads))
