use Rattle.std.proofs.Common.{◌≡◌, ◌+◌, ◌-◌, ◌≤◌}
use Rattle.flat_model.specs.Rows.{keys}
use Rattle.flat_model.specs.State.{least, least_from}
use Rattle.range_alloc.proofs.Window.{IsWindow}
use Rattle.range_alloc.proofs.map.map_range.Given as goal

-- no range that begins before the pages that have joined fits
abbrev pub invariant-loop-start : goal.invariant-loop-start
invariant-loop-start l = record {
  window : IsWindow l.fn.table l.table l.space.0 l.perm l.start l.joined;
  search : least l.fn.table.buckets (keys l.fn.table.entries) l.space.0 l.pages
      ≡ least_from l.fn.table.buckets (keys l.fn.table.entries) l.space.0 l.pages l.start (65536 - l.start);
  low : 1 ≤ l.start;
  few : l.joined ≤ l.pages;
  high : l.start + l.joined ≤ 65536;
}

-- in each step a page joins, or the first one leaves
abbrev pub decreases-loop-start : goal.decreases-loop-start
decreases-loop-start l = (65536 - l.start) + (65536 - (l.start + l.joined))
