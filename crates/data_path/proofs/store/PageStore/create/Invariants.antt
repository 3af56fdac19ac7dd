use Rattle.std.proofs.Common.{◌≡◌, map, take}
use Rattle.cl_types.specs.Config.{offload_pages}
use Rattle.data_path.specs.Laying.{rows_from, rows_of, IsLaid}
use Rattle.data_path.proofs.store.PageStore.create.Given as goal

-- the pages of the offloads so far are mapped
abbrev pub invariant-loop-offload : goal.invariant-loop-offload
invariant-loop-offload l = record {
  laid : IsLaid l.store;
  rows : rows_of l.store.table.entries ≡ rows_from 0 l.store.spaces;
  spaces : l.store.spaces ≡ map offload_pages (take l.offload-index l.config.offloads);
  buckets : l.store.table.buckets ≡ l.config.buckets;
  pages : l.store.pool.pages ≡ l.config.pages;
  ring : l.store.pool.capacity ≡ l.config.ring;
}
