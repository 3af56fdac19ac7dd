use Rattle.std.proofs.Common.{◌≡◌}
use Rattle.hash_buckets.specs.PageMap.{IsValid}
use Rattle.range_alloc.specs.Ranges.{AreTaken, frames_of, without_range}
use Rattle.range_alloc.proofs.Frames.{with_dirty}
use Rattle.range_alloc.proofs.unmap.unmap_range.Given as goal

-- so many pages have left
abbrev pub invariant-loop-i : goal.invariant-loop-i
invariant-loop-i l = record {
  gone : l.table ≡ without_range l.fn.table l.space.0 l.start.0 l.i;
  dirty : l.pool ≡ with_dirty l.fn.pool (frames_of l.fn.table l.space.0 l.start.0 l.i);
  taken : AreTaken l.table l.pool;
  valid : IsValid l.table;
}
