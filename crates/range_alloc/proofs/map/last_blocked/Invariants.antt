use Rattle.std.proofs.Common.{◌-◌, ◌≤◌}
use Rattle.range_alloc.proofs.map.last_blocked.Given as goal

-- the pages behind can join
abbrev pub invariant-loop-page : goal.invariant-loop-page
invariant-loop-page l = l.page ≤ l.end

abbrev pub decreases-loop-page : goal.decreases-loop-page
decreases-loop-page l = l.page - l.first
