-- The flat machine's state: what the node's memory means, with no bucket, page frame or cache.
use Rattle.std.specs.Prelude.{ℕ, zero, suc, ◌+◌, Bool, true, false, ◌&&◌, leb, List, [], ◌∷◌, ◌++◌, length, map, Option, Some, None, is_some, not, count_by}
use Rattle.std.specs.List.{list_all, list_any, range_with_len}
use Rattle.std.specs.Ordering.{eq_by_cmp}
use Rattle.std.specs.FinMap.Entries.{find}
use Rattle.cl_types.specs.declared.limits.TheConstants.{BUCKET_PAGES, SPACE_PAGES}
use Rattle.cl_types.specs.Bytes.{fresh_bytes}
use Rattle.cl_types.specs.Config.{offload_pages}
use Rattle.cl_types.specs.Places.{Place, place_cmp, homes_at, space_no}
use Rattle.cl_types.specs.declared.call.Perm.{Perm}
use Rattle.cl_types.specs.declared.config.NodeConfig.{NodeConfig}
use Rattle.cl_types.specs.declared.config.OffloadConfig.{OffloadConfig}
use Rattle.flat_model.specs.Objects.{Object, empty_object}

-- a mapped page: what may be done with it, and its 4,096 bytes, or none where it is fresh
pub record Page : Type 0 where
  pub perm : Perm
  pub bytes : Option (List ℕ)

-- the state: the mapped pages, the allocated ranges, the objects, and what the opening fixed
pub record FlatState : Type 0 where
  -- the mapped pages of all processes, in the order of their places
  pub map : List (Place × Page)
  -- how many pages each allocated range has, by the place of its first page, in the order of the places
  pub ranges : List (Place × ℕ)
  pub objects : List Object
  -- the pages of the offloads, in a space for each; these and the two numbers below never change
  pub held : List Place
  pub pages : ℕ
  pub buckets : ℕ

-- ---- the opening
-- the pages of offload k and of those behind it
abbrev pub held_from : ℕ → List OffloadConfig → List Place
held_from k [] = []
held_from k (offload ∷ offloads) =
    map (λ page. (space_no k, page)) (range_with_len 1 (offload_pages offload)) ++ held_from (k + 1) offloads

-- the state at the opening: no page is mapped, and the objects are empty
abbrev pub opening : NodeConfig → FlatState
opening c = record {
  map = [];
  ranges = [];
  objects = map empty_object c.offloads;
  held = held_from 0 c.offloads;
  pages = c.pages;
  buckets = c.buckets;
}

-- ---- what is read off a state
-- the page of this number that is mapped for the process, where one is
abbrev pub page_at : FlatState → ℕ → ℕ → Option Page
page_at s pid page = find place_cmp (pid, page) s.map

-- a page's bytes, zeros where it is fresh
abbrev pub bytes_of : Page → List ℕ
bytes_of page = elim page.bytes [ None ↦ fresh_bytes | Some bytes ↦ bytes ]

-- the places of all pages: the mapped ones and those of the offloads
abbrev pub places : FlatState → List Place
places s = map (λ entry. entry.0) s.map ++ s.held

-- how many of all pages have this home
abbrev pub load : FlatState → ℕ → ℕ
load s home = homes_at s.buckets home (places s)

-- how many physical pages are taken: the mapped pages that have bytes, and the offloads' pages
abbrev pub used : FlatState → ℕ
used s = count_by (λ entry. is_some entry.1.bytes) s.map + length s.held

-- ---- where a range fits
-- the places of a range: n pages of a process from start on
abbrev pub places_of : ℕ → ℕ → ℕ → List Place
places_of pid start n = map (λ page. (pid, page)) (range_with_len start n)

-- the place is one of these
abbrev pub is_mapped : List Place → Place → Bool
is_mapped places place = list_any (eq_by_cmp place_cmp place) places

-- Beside these places n pages from start on fit: they are pages of a process, none is there yet, and no bucket would
-- hold more than four.
abbrev pub fits : ℕ → List Place → ℕ → ℕ → ℕ → Bool
fits buckets places pid start n =
    leb 1 start && leb (start + n) SPACE_PAGES
    && list_all (λ place. not (is_mapped places place)) (places_of pid start n)
    && list_all (λ home. leb (homes_at buckets home places + homes_at buckets home (places_of pid start n)) BUCKET_PAGES) (range_with_len 0 buckets)

-- the least start that fits, of so many from this one on
abbrev pub least_from : ℕ → List Place → ℕ → ℕ → ℕ → ℕ → Option ℕ
least_from buckets places pid n start zero = None
least_from buckets places pid n start (suc left) =
    elim (fits buckets places pid start n) [ true ↦ Some start | false ↦ least_from buckets places pid n (start + 1) left ]

-- the least start that fits; it is opened by its laws alone
unfoldable pub least : ℕ → List Place → ℕ → ℕ → Option ℕ
least buckets places pid n = least_from buckets places pid n 1 65535
