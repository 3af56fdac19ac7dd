-- What the plain lists of a flat state stand for. No public clause cites this module.
use Rattle.std.specs.Prelude.{ℕ, ◌+◌, ◌≤◌, leb, ◌++◌, map, Bool, List, Option, Some, None, slice_get, IsTrue}
use Rattle.std.specs.List.{list_all, range_with_len}
use Rattle.std.specs.Ordering.{eq_by_cmp}
use Rattle.std.specs.FinMap.Entries.{is_sorted, put}
use Rattle.cl_types.specs.declared.limits.TheConstants.{BUCKET_PAGES}
use Rattle.cl_types.specs.Places.{Place, place_cmp, home_of, homes_at, is_bucket_count}
use Rattle.cl_types.specs.declared.call.Perm.{Perm}
use Rattle.flat_model.specs.declared.need.Need.{Need}
use Rattle.flat_model.specs.declared.need.Need.TheVariants.{Write, Change}
use Rattle.cl_types.specs.declared.config.NodeConfig.{NodeConfig}
use Rattle.flat_model.specs.Opening.{held_by}
use Rattle.flat_model.specs.Step.{may_write, may_change}
use Rattle.flat_model.specs.State.{FlatState, Page, bytes_of, load}
use Rattle.cl_types.specs.Bytes.{with_bytes}

-- the entry is that of this place
abbrev pub is_at : {V : Type 0} → Place → Place × V → Bool
is_at place entry = eq_by_cmp place_cmp place entry.0

-- the places of entries
abbrev pub keys : {V : Type 0} → List (Place × V) → List Place
keys entries = map (λ entry. entry.0) entries

-- no bucket has more than four of these pages
abbrev pub AreFourAtMost : ℕ → List Place → Type 0
AreFourAtMost buckets places = (home : ℕ) → homes_at buckets home places ≤ BUCKET_PAGES

-- the bucket of a page has room for these pages
abbrev pub has_room_at : FlatState → List Place → Place → Bool
has_room_at s pages page = leb (load s (home_of s.buckets page) + homes_at s.buckets (home_of s.buckets page) pages) BUCKET_PAGES

-- each bucket has room for these pages
abbrev pub has_room_everywhere : FlatState → List Place → Bool
has_room_everywhere s pages =
    list_all (λ home. leb (load s home + homes_at s.buckets home pages) BUCKET_PAGES) (range_with_len 0 s.buckets)

-- the bucket of a page has room for the pages of the first k offloads
abbrev pub has_room_among : NodeConfig → ℕ → Place → Bool
has_room_among c k page = leb (homes_at c.buckets (home_of c.buckets page) (held_by c k)) BUCKET_PAGES

-- the permission is enough for what is to be done
abbrev pub allows : Need → Perm → Bool
allows Write perm = may_write perm
allows Change perm = may_change perm

-- what holds of the lists at every moment
pub record AreInOrder (pages : List (Place × Page)) (ranges : List (Place × ℕ)) (held : List Place) (buckets : ℕ) : Type 0 where
  pub mapped : IsTrue (is_sorted place_cmp pages)
  pub allocated : IsTrue (is_sorted place_cmp ranges)
  -- so each page has a home
  pub homes : IsTrue (is_bucket_count buckets)
  -- so only the buckets of new pages can come to hold more
  pub four : AreFourAtMost buckets (keys pages ++ held)

-- the page with bytes put in at a place
abbrev pub with_put : ℕ → List ℕ → Page → Page
with_put at bytes page = record page { bytes = Some (with_bytes at bytes (bytes_of page)) }

-- the pages with one changed
abbrev pub with_changed : (Page → Page) → Option (Place × Page) → List (Place × Page) → List (Place × Page)
with_changed change None pages = pages
with_changed change (Some entry) pages = put place_cmp entry.0 (change entry.1) pages

-- bytes put into the page of the i-th entry
abbrev pub put_bytes : FlatState → ℕ → ℕ → List ℕ → FlatState
put_bytes s i at bytes = record s { map = with_changed (with_put at bytes) (slice_get s.map i) s.map }
