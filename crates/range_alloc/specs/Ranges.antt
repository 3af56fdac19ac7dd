-- The ranges of a page table: what the contracts say of them.
use Rattle.std.specs.Prelude.{◌≡◌, ℕ, ◌+◌, ◌<◌, ◌≤◌, true, false, not, map, List, [], ◌∷◌, Option, Some, None, option_map, IsSome}
use Rattle.std.specs.List.{filter_map}
use Rattle.std.specs.FinMap.Entries.{put, where_key}
use Rattle.cl_types.specs.declared.call.Perm.{Perm}
use Rattle.cl_types.specs.declared.limits.TheConstants.{SPACE_PAGES}
use Rattle.cl_types.specs.declared.page.Pte.{Pte}
use Rattle.cl_types.specs.Places.{Place, place_cmp}
use Rattle.hash_buckets.specs.PageMap.{PageMap, entry_of}
use Rattle.page_pool.specs.PoolPages.{PoolPages, IsTaken}
use Rattle.flat_model.specs.State.{places_of}
use Rattle.flat_model.specs.Step.{is_among}

-- ---- what a table says of a page
-- how many pages the range has that begins here, and 0 where none does
abbrev pub span_at : PageMap → Place → ℕ
span_at table place = elim (entry_of table place) [ None ↦ 0 | Some pte ↦ pte.span ]

-- the number of the page's frame, where it is mapped and has one
abbrev pub frame_at : PageMap → Place → Option ℕ
frame_at table place = elim (entry_of table place) [ None ↦ None | Some pte ↦ option_map (λ frame. frame.0) pte.frame ]

-- ---- what a call leaves
-- a new page: it has no frame
abbrev pub new_page : Perm → ℕ → Pte
new_page perm span = record { frame = None; perm = perm; span = span }

-- new pages join the entries, and the first has the span
abbrev pub with_pages : Perm → ℕ → List Place → List (Place × Pte) → List (Place × Pte)
with_pages perm span [] entries = entries
with_pages perm span (place ∷ places) entries = put place_cmp place (new_page perm span) (with_pages perm 0 places entries)

-- the table with a range of n new pages from start on
abbrev pub with_range : PageMap → ℕ → ℕ → ℕ → Perm → PageMap
with_range table space start n perm = record table { entries = with_pages perm n (places_of space start n) table.entries }

-- the table without the n pages from start on
abbrev pub without_range : PageMap → ℕ → ℕ → ℕ → PageMap
without_range table space start n =
    record table { entries = where_key place_cmp (λ place. not (is_among space start n place)) table.entries }

-- the entry of a page, with this permission where it is one of these pages
abbrev pub permitted : ℕ → ℕ → ℕ → Perm → Place → Pte → Pte
permitted space start n perm place pte = elim (is_among space start n place) [ true ↦ record pte { perm = perm } | false ↦ pte ]

-- the table in which the n pages from start on have a permission; their frames and spans and all other entries stay
abbrev pub with_perms : PageMap → ℕ → ℕ → ℕ → Perm → PageMap
with_perms table space start n perm =
    record table { entries = map (λ entry. (entry.0, permitted space start n perm entry.0 entry.1)) table.entries }

-- the frames of the n pages from start on, in the order of the pages
abbrev pub frames_of : PageMap → ℕ → ℕ → ℕ → List ℕ
frames_of table space start n = filter_map (frame_at table) (places_of space start n)

-- ---- what holds before and after
-- the page lies in the range that begins at start
abbrev pub IsIn : PageMap → ℕ → ℕ → ℕ → Type 0
IsIn table space start page = (start ≤ page) × (page < start + span_at table (space, start))

-- each mapped page lies in exactly one range, and each page of a range is mapped
pub record AreRanges (table : PageMap) : Type 0 where
  -- a mapped page lies in a range
  pub covered : (space page : ℕ) → IsSome (entry_of table (space, page)) → ∥ ((start : ℕ) × IsIn table space start page) ∥₁
  -- and in no other
  pub once : (space a b page : ℕ) → IsIn table space a page → IsIn table space b page → a ≡ b
  pub mapped : (space start page : ℕ) → IsIn table space start page → IsSome (entry_of table (space, page))
  -- a mapped page is one of its space
  pub within : (space page : ℕ) → IsSome (entry_of table (space, page)) → page < SPACE_PAGES

-- each frame that the table names is a page that was taken from the pool, and is named once
pub record AreTaken (table : PageMap) (pool : PoolPages) : Type 0 where
  pub taken : (place : Place) (frame : ℕ) → frame_at table place ≡ Some frame → IsTaken pool frame
  pub once : (p q : Place) (frame : ℕ) → frame_at table p ≡ Some frame → frame_at table q ≡ Some frame → p ≡ q
