-- What a contract sees of a `Cache`: its entries, the latest used first.
use Rattle.std.specs.Prelude.{◌≡◌, ℕ, ◌-◌, ◌<◌, ◌≤◌, Bool, ◌==◌, ◌&&◌, List, ◌∷◌, length, take, Option, Some, slice_get}
use Rattle.std.specs.List.{IsDistinct}
use Rattle.std.specs.Map.{keys_of, lookup, remove_entry}
use Rattle.std.specs.Option.{option_map_or}
use Rattle.cl_types.specs.declared.page.Pte.{Pte}
use Rattle.cl_types.specs.Places.{Place}

-- what is said of pages, the latest used first, and how many entries there may be
pub record Cached : Type 0 where
  pub entries : List (Place × Pte)
  pub capacity : ℕ

-- whether two pages are one
abbrev pub is_place : Place → Place → Bool
is_place a b = (a.0 == b.0) && (a.1 == b.1)

-- what the cache has at a page
abbrev pub entry_of : Cached → Place → Option Pte
entry_of cache place = lookup (is_place place) cache.entries

-- the page's entry is the latest used
abbrev pub IsFirst : Cached → Place → Pte → Type 0
IsFirst cache place pte = slice_get cache.entries 0 ≡ Some (place, pte)

-- the cache without a page's entry
abbrev pub forgotten : Cached → Place → Cached
forgotten cache place = record cache { entries = remove_entry (is_place place) cache.entries }

-- the entry goes before those of the other pages, as many of them as there is room for
abbrev pub noted : Cached → Place → Pte → Cached
noted cache place pte = record cache {
  entries = (place, pte) ∷ take (cache.capacity - 1) (forgotten cache place).entries;
}

-- the page's entry goes before the others, where the cache has one
abbrev pub used : Cached → Place → Cached
used cache place = option_map_or (noted cache place) (entry_of cache place) cache

-- no page has two entries, and there are no more than there may be
pub record IsValid (cache : Cached) : Type 0 where
  pub some : 0 < cache.capacity
  pub within : length cache.entries ≤ cache.capacity
  pub distinct : IsDistinct is_place (keys_of cache.entries)
