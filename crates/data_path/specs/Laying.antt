-- How the pages of the offloads are mapped, one behind the other. No public clause cites this module.
use Rattle.std.specs.Prelude.{◌≡◌, ℕ, ◌+◌, ◌-◌, ◌<◌, ◌≤◌, List, [], ◌∷◌, ◌++◌, length, map, Some, IsSome}
use Rattle.std.specs.List.{range_with_len}
use Rattle.std.specs.declared.cmp.Ordering.TheVariants.{Greater}
use Rattle.cl_types.specs.declared.call.Perm.TheVariants.{ReadWrite}
use Rattle.cl_types.specs.declared.limits.TheConstants.{SPACE_PAGES}
use Rattle.cl_types.specs.declared.page.Pte.{Pte}
use Rattle.cl_types.specs.Bytes.{fresh_bytes}
use Rattle.cl_types.specs.Places.{Place, place_cmp, space_no}
use Rattle.hash_buckets.specs.PageMap.{entry_of, IsValid}
use Rattle.page_arena.specs.Arena.{page_at}
use Rattle.page_pool.specs.PoolPages.{free_list, AreZero, IsReady}
use Rattle.flat_model.specs.State.{places_of}
use Rattle.data_path.specs.declared.store.PageStore.{PageStore}
use Rattle.data_path.specs.Listing.{AreListed}
use Rattle.data_path.specs.Store.{no_entries}

-- a page, and the number of pages of the range that begins there, 0 where none does
abbrev pub SpannedPage : Type 0
SpannedPage = Place × ℕ

-- the rows of entries
abbrev pub rows_of : List (Place × Pte) → List SpannedPage
rows_of entries = map (λ entry. (entry.0, entry.1.span)) entries

-- the rows of a range: its first page has the span
abbrev pub spanned : ℕ → List Place → List SpannedPage
spanned span [] = []
spanned span (place ∷ places) = (place, span) ∷ spanned 0 places

-- the rows of offload k, and of those behind it, which have so many pages
abbrev pub rows_from : ℕ → List ℕ → List SpannedPage
rows_from k [] = []
rows_from k (pages ∷ spaces) = spanned pages (places_of (space_no k) 1 pages) ++ rows_from (k + 1) spaces

-- the entries of rows whose pages may be read and written, and have the frames from this one on
abbrev pub numbered : ℕ → List SpannedPage → List (Place × Pte)
numbered frame [] = []
numbered frame (row ∷ rows) =
    (row.0, record { frame = Some (record { 0 = frame }); perm = ReadWrite; span = row.1 }) ∷ numbered (frame + 1) rows

-- the page lies behind these
abbrev pub IsBehind : Place → List Place → Type 0
IsBehind place [] = Unit {0}
IsBehind place (other ∷ others) = (place_cmp place other ≡ Greater) × IsBehind place others

-- the pages that are mapped have the first frames, in order, and these are zero; all else is as it was made
pub record IsLaid (s : PageStore) : Type 0 where
  pub valid : IsValid s.table
  pub entries : s.table.entries ≡ numbered 0 (rows_of s.table.entries)
  pub enough : length s.table.entries ≤ s.pool.pages
  pub free : free_list s.pool ≡ range_with_len (length s.table.entries) (s.pool.pages - length s.table.entries)
  pub ready : IsReady s.pool
  pub arena : length s.arena ≡ s.pool.pages
  pub zero : AreZero s.arena (s.pool.ring ++ s.pool.clean)
  pub zeroed : (frame : ℕ) → frame < length s.table.entries → page_at s.arena frame ≡ fresh_bytes
  pub within : (place : Place) → IsSome (entry_of s.table place) → place.1 < SPACE_PAGES
  pub uncached : s.cache ≡ no_entries
  pub unlisted : AreListed s.ranges [] s.table.buckets
