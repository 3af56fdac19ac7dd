use Rattle.std.proofs.Common.{◌≡◌, ◌≤◌, ◌+◌, ◌-◌, length}
use Rattle.cl_outside.specs.Told.{Took}
use Rattle.cl_outside.proofs.loops.read_input.Given as goal
use Rattle.cl_types.specs.declared.limits.TheConstants.{INPUT_BYTES}

-- what was read so far was taken off the front of what was left, and no read has failed
abbrev pub invariant-loop-source : goal.invariant-loop-source
invariant-loop-source g l =
    Took l.bytes.items (g.S.Source.left l.fn.source) (g.S.Source.left l.source)
    × ((g.S.Source.faults l.source).count ≡ (g.S.Source.faults l.fn.source).count)
    × (length l.bytes.items ≤ INPUT_BYTES + 1)

abbrev pub decreases-loop-source : goal.decreases-loop-source
decreases-loop-source g l = INPUT_BYTES + 1 - length l.bytes.items
