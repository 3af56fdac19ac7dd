use Rattle.std.proofs.Common.{◌≡◌, ◌+◌, ◌++◌, length}
use Rattle.flat_model.specs.State.{places_of}
use Rattle.data_path.specs.Laying.{rows_from, rows_of, spanned, IsLaid}
use Rattle.data_path.proofs.store.PageStore.add_offload.Given as goal

-- the pages so far are mapped, behind those of the other offloads
abbrev pub invariant-loop-i : goal.invariant-loop-i
invariant-loop-i l = record {
  laid : IsLaid l.self;
  rows : rows_of l.self.table.entries ≡ rows_from 0 l.fn.self.spaces ++ spanned l.pages (places_of l.space.0 1 l.i);
  there : l.space.0 ≡ 65280 + length l.fn.self.spaces;
  buckets : l.self.table.buckets ≡ l.fn.self.table.buckets;
  pages : l.self.pool.pages ≡ l.fn.self.pool.pages;
  capacity : l.self.pool.capacity ≡ l.fn.self.pool.capacity;
  spaces : l.self.spaces ≡ l.fn.self.spaces;
}
