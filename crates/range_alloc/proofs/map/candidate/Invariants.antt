use Rattle.std.proofs.Common.{◌-◌, ◌≤◌}
use Rattle.range_alloc.specs.Joins.{SkipsTo}
use Rattle.range_alloc.proofs.map.candidate.Given as goal

-- nothing fits at a start that was passed over
abbrev pub invariant-loop-start : goal.invariant-loop-start
invariant-loop-start l = record {
  skips : SkipsTo l.fn.table l.space.0 l.pages l.fn.first l.start;
  ahead : l.start ≤ l.looked;
}

-- each step passes over a start
abbrev pub decreases-loop-start : goal.decreases-loop-start
decreases-loop-start l = 65536 - l.start
