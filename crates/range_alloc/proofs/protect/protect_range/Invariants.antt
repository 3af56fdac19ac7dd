use Rattle.std.proofs.Common.{◌≡◌}
use Rattle.hash_buckets.specs.PageMap.{IsValid}
use Rattle.range_alloc.specs.Ranges.{with_perms}
use Rattle.range_alloc.proofs.protect.protect_range.Given as goal

-- so many pages have the permission
abbrev pub invariant-loop-i : goal.invariant-loop-i
invariant-loop-i l = record {
  perms : l.table ≡ with_perms l.fn.table l.space.0 l.start.0 l.i l.perm;
  valid : IsValid l.table;
}
