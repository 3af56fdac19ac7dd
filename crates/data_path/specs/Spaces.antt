-- The space of an offload over a store.
use Rattle.std.specs.Prelude.{ℕ, ◌+◌, ◌*◌, ◌<◌, ◌==◌, not, List, [], length, Option, Some, None, slice_index_or, flat_map}
use Rattle.std.specs.FinMap.Entries.{where_key}
use Rattle.std.specs.List.{range_with_len}
use Rattle.std.specs.Borrow.{MutBor}
use base.Fml.{GName}
use Rattle.cl_types.specs.declared.limits.TheConstants.{PAGE_BYTES}
use Rattle.cl_types.specs.Bytes.{over, zeros}
use Rattle.cl_types.specs.Places.{Place, place_cmp, space_no}
use Rattle.hash_buckets.specs.PageMap.{PageMap}
use Rattle.range_alloc.specs.RangeSets.{RangeSets}
use Rattle.page_pool.specs.PoolPages.{PoolPages, IsReady}
use Rattle.translate_cache.specs.Cached.{Cached}
use Rattle.flat_model.specs.State.{FlatState, Page, bytes_of, page_at}
use Rattle.data_path.specs.declared.store.PageStore.{PageStore}
use Rattle.data_path.specs.Store.{IsWhole, memory_of}

-- the bytes of a page that is mapped
abbrev pub bytes_or_none : Option Page → List ℕ
bytes_or_none None = []
bytes_or_none (Some page) = bytes_of page

-- the bytes of n pages of a space from a page on, one behind the other
abbrev pub bytes_from : FlatState → ℕ → ℕ → ℕ → List ℕ
bytes_from memory space start n = flat_map (λ page. bytes_or_none (page_at memory space page)) (range_with_len start n)

-- how many pages an offload has
abbrev pub page_count : PageStore → ℕ → ℕ
page_count s k = slice_index_or s.spaces k 0

-- the bytes of an offload's pages, one behind the other; so many as its pages have, also where the store isn't whole
abbrev pub contents_of : ℕ → PageStore → List ℕ
contents_of k s = over (zeros (page_count s k * PAGE_BYTES)) (bytes_from (memory_of s) (space_no k) 1 (page_count s k))

-- the store is whole and ready, and the offload is one of its
pub record IsHonest (s : PageStore) (k : ℕ) : Type 0 where
  pub whole : IsWhole s
  pub ready : IsReady s.pool
  pub exists : k < length s.spaces

-- what a space keeps: which store it stands for, the offload, and all of the store but the bytes of the offload's pages
-- and of the free ones
pub record RestOf : Type 0 where
  pub reference : GName
  pub offload : ℕ
  pub spaces : List ℕ
  pub table : PageMap
  pub cache : Cached
  pub pool : PoolPages
  pub ranges : RangeSets
  pub others : List (Place × Page)

-- the rest of an offload's space over a lent store
abbrev pub rest_of : ℕ → MutBor PageStore → RestOf
rest_of k r = let s = r.now in record {
  reference = r.ghost_name;
  offload = k;
  spaces = s.spaces;
  table = s.table;
  cache = s.cache;
  pool = s.pool;
  ranges = s.ranges;
  others = where_key place_cmp (λ place. not (place.0 == space_no k)) (memory_of s).map;
}
