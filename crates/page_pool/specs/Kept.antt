-- How a `Pool` keeps its pages. No public clause cites this module.
use Rattle.std.specs.Prelude.{◌≡◌, ℕ, ◌<◌, ◌≤◌, length}
use Rattle.circular_buffer.specs.Buffer.{Buffer}
use Rattle.index_lists.specs.NodeLists.{NodeLists, list_at}
use Rattle.page_pool.specs.PoolPages.{PoolPages, free_pages, IsPartition}

-- what contracts see: list 0 has the clean pages and list 1 the dirty ones
abbrev pub pool_pages : Buffer ℕ → NodeLists → PoolPages
pool_pages ring lists = record {
  pages = lists.nodes;
  capacity = ring.capacity;
  ring = ring.items;
  clean = list_at lists 0;
  dirty = list_at lists 1;
}

-- what holds of the fields at every moment
pub record IsSound (ring : Buffer ℕ) (lists : NodeLists) (free : ℕ) : Type 0 where
  pub two : length lists.lists ≡ 2
  -- so the count of free pages fits
  pub few : lists.nodes ≤ 65536
  pub fits : length ring.items ≤ ring.capacity
  pub some : 0 < ring.capacity
  pub counted : free ≡ free_pages (pool_pages ring lists)
  pub parted : IsPartition (pool_pages ring lists)
