-- What a page store means: a flat state over all pages, those of the offloads among them. And when its parts fit.
use Rattle.std.specs.Prelude.{◌≡◌, ℕ, ◌+◌, ◌==◌, false, not, List, [], ◌∷◌, ◌++◌, length, Some, option_map, is_some, if◌then◌else◌, IsTrue}
use Rattle.std.specs.FinMap.Entries.{where_key}
use Rattle.cl_types.specs.declared.limits.TheConstants.{PAGE_BYTES}
use Rattle.cl_types.specs.declared.page.Pte.{Pte}
use Rattle.cl_types.specs.Places.{Place, place_cmp, is_process, space_no}
use Rattle.hash_buckets.specs.PageMap.{PageMap, entry_of, IsValid}
use Rattle.page_arena.specs.Arena.{page_at as arena_page}
use Rattle.page_pool.specs.PoolPages.{free_pages, AreZero}
use Rattle.range_alloc.specs.Ranges.{AreRanges, AreTaken, frame_at}
use Rattle.translate_cache.specs.Cached.{Cached, IsFirst}
use Rattle.translate_cache.specs.Cached.{entry_of as cached_entry}
use Rattle.flat_model.specs.Objects.{Object}
use Rattle.flat_model.specs.Rows.{keys}
use Rattle.flat_model.specs.State.{FlatState, Page, places_of}
use Rattle.data_path.specs.declared.create.TheConstants.{CACHED_ENTRIES}
use Rattle.data_path.specs.declared.store.PageStore.{PageStore}
use Rattle.data_path.specs.Listing.{AreListed}

-- ---- what a store means
-- a page by its entry: with the bytes of its frame, and fresh where it has none
abbrev pub page_in : List (List ℕ) → Pte → Page
page_in arena pte = record { perm = pte.perm; bytes = option_map (λ frame. arena_page arena frame.0) pte.frame }

-- the mapped pages by their entries
abbrev pub pages_in : List (List ℕ) → List (Place × Pte) → List (Place × Page)
pages_in arena [] = []
pages_in arena (entry ∷ entries) = (entry.0, page_in arena entry.1) ∷ pages_in arena entries

-- how many pages each range has, by its first page
abbrev pub spans_in : List (Place × Pte) → List (Place × ℕ)
spans_in [] = []
spans_in (entry ∷ entries) = if entry.1.span == 0 then spans_in entries else (entry.0, entry.1.span) ∷ spans_in entries

-- the store as a flat state, in which the pages of the offloads are pages of their spaces
abbrev pub memory_of : PageStore → FlatState
memory_of s = record {
  map = pages_in s.arena s.table.entries;
  ranges = spans_in s.table.entries;
  objects = [];
  held = [];
  pages = s.pool.pages;
  buckets = s.table.buckets;
}

-- the flat state of a node with such a memory, and with these objects in the pages of the offloads
abbrev pub flat_of : List Object → FlatState → FlatState
flat_of objects memory = record {
  map = where_key place_cmp (λ place. is_process place.0) memory.map;
  ranges = where_key place_cmp (λ place. is_process place.0) memory.ranges;
  objects = objects;
  held = keys (where_key place_cmp (λ place. not (is_process place.0)) memory.map);
  pages = memory.pages;
  buckets = memory.buckets;
}

-- the cache of a store at its opening: no entries, and room for so many
abbrev pub no_entries : Cached
no_entries = record { entries = []; capacity = CACHED_ENTRIES }

-- ---- when the parts of a store fit
-- how many of the entries have a frame
abbrev pub backed : List (Place × Pte) → ℕ
backed [] = 0
backed (entry ∷ entries) = (if is_some entry.1.frame then 1 else 0) + backed entries

-- the pages of offload k, and of those behind it, which have so many
abbrev pub held_places : ℕ → List ℕ → List Place
held_places k [] = []
held_places k (pages ∷ spaces) = places_of (space_no k) 1 pages ++ held_places (k + 1) spaces

-- each entry of the cache is the table's
abbrev pub IsCached : Cached → PageMap → Type 0
IsCached cache table = (place : Place) (pte : Pte) → cached_entry cache place ≡ Some pte → entry_of table place ≡ Some pte

-- the page's entry is the latest used one of the cache, or isn't there
abbrev pub IsLatest : Cached → Place → Type 0
IsLatest cache place = (pte : Pte) → cached_entry cache place ≡ Some pte → IsFirst cache place pte

-- the table, the pool, the arena and the cache fit one another
pub record IsFit (s : PageStore) : Type 0 where
  pub valid : IsValid s.table
  pub ranges : AreRanges s.table
  -- a frame that the table names is a taken page, and is named once
  pub taken : AreTaken s.table s.pool
  -- as many frames are named as pages are taken, so each taken page is named
  pub named : backed s.table.entries + free_pages s.pool ≡ s.pool.pages
  pub arena : length s.arena ≡ s.pool.pages
  pub sized : (place : Place) (frame : ℕ) → frame_at s.table place ≡ Some frame → length (arena_page s.arena frame) ≡ PAGE_BYTES
  -- the free pages that are ready or clean are zero
  pub zero : AreZero s.arena (s.pool.ring ++ s.pool.clean)
  pub cached : IsCached s.cache s.table

-- the store is whole: its parts fit, the offloads have their pages, and the lists name the ranges of the processes
pub record IsWhole (s : PageStore) : Type 0 where
  pub fit : IsFit s
  -- a page is a process's, or it is one of the offloads' pages
  pub keys : keys (where_key place_cmp (λ place. not (is_process place.0)) s.table.entries) ≡ held_places 0 s.spaces
  -- and then it has a frame
  pub held : (place : Place) (pte : Pte) → is_process place.0 ≡ false → entry_of s.table place ≡ Some pte → IsTrue (is_some pte.frame)
  pub listed : AreListed s.ranges (spans_in s.table.entries) s.table.buckets
