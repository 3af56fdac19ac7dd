use Rattle.std.proofs.Common.{◌≡◌, ◌-◌, min, [], ◌∷◌}
use Rattle.std.specs.List.{range_with_len}
use Rattle.circular_buffer.specs.Buffer.{buffer}
use Rattle.page_pool.proofs.pool.Pool.create.Given as goal

abbrev pub invariant-loop-page : goal.invariant-loop-page
invariant-loop-page l = record {
  filled : l.filled ≡ buffer (range_with_len 0 (min l.page l.ring)) l.ring;
  lists : l.lists ≡ record { nodes = l.pages; lists = range_with_len (min l.page l.ring) (l.page - l.ring) ∷ [] ∷ [] };
}
