-- How a `Table` keeps its pages in slots. No public clause cites this module.
use Rattle.std.specs.Prelude.{◌≡◌, ℕ, ◌^◌, ◌<◌, true, List, [], ◌∷◌, ◌++◌, length, Option, Some, None, option_map, slice_index_or}
use Rattle.std.specs.FinMap.Entries.{find, put}
use Rattle.cl_types.specs.declared.page.Pte.{Pte}
use Rattle.cl_types.specs.Places.{Place, place_cmp, home_of, is_bucket_count}
use Rattle.hash_buckets.specs.declared.buckets.Slot.{Slot}
use Rattle.hash_buckets.specs.PageMap.{PageMap}

-- a bucket whose slots are all free
abbrev pub no_slots : List (Option Slot)
no_slots = None ∷ None ∷ None ∷ None ∷ []

-- the page of a slot
abbrev pub place_of : Slot → Place
place_of slot = (slot.space.0, slot.vpn.0)

-- the entries in a bucket's slots
abbrev pub slot_entries : List (Option Slot) → List (Place × Pte)
slot_entries [] = []
slot_entries (None ∷ slots) = slot_entries slots
slot_entries (Some slot ∷ slots) = (place_of slot, slot.pte) ∷ slot_entries slots

-- what a bucket has at a page
abbrev pub look : List (Option Slot) → Place → Option Pte
look slots place = find place_cmp place (slot_entries slots)

-- the page in a slot of a bucket
abbrev pub place_at : List (Option Slot) → ℕ → Option Place
place_at slots at = option_map place_of (slice_index_or slots at None)

-- the entries in all buckets
abbrev pub all_entries : List (List (Option Slot)) → List (Place × Pte)
all_entries [] = []
all_entries (slots ∷ buckets) = slot_entries slots ++ all_entries buckets

-- each page of the bucket has this home
abbrev pub IsHome : ℕ → ℕ → List (Option Slot) → Type 0
IsHome buckets home [] = Unit {0}
IsHome buckets home (None ∷ slots) = IsHome buckets home slots
IsHome buckets home (Some slot ∷ slots) =
    (home_of buckets (place_of slot) ≡ home) × IsHome buckets home slots

-- no page stands twice in the bucket
abbrev pub IsApart : List (Option Slot) → Type 0
IsApart [] = Unit {0}
IsApart (None ∷ slots) = IsApart slots
IsApart (Some slot ∷ slots) = (look slots (place_of slot) ≡ None) × IsApart slots

-- the slots of the bucket of this number
abbrev pub bucket_at : List (List (Option Slot)) → ℕ → List (Option Slot)
bucket_at buckets home = slice_index_or buckets home []

-- each page is in one slot of its home's bucket
pub record IsSound (buckets : List (List (Option Slot))) : Type 0 where
  pub counted : is_bucket_count (length buckets) ≡ true
  -- so the number of buckets has a type of 32 bits
  pub few : length buckets < 2 ^ 32
  pub slots : (home : ℕ) → home < length buckets → length (bucket_at buckets home) ≡ 4
  pub homes : (home : ℕ)
      → home < length buckets → IsHome (length buckets) home (bucket_at buckets home)
  pub apart : (home : ℕ) → home < length buckets → IsApart (bucket_at buckets home)

-- the entries in the order of the pages
abbrev pub in_order : List (Place × Pte) → List (Place × Pte)
in_order [] = []
in_order (entry ∷ entries) = put place_cmp entry.0 entry.1 (in_order entries)

-- what contracts see
abbrev pub page_map : List (List (Option Slot)) → PageMap
page_map buckets = record { buckets = length buckets; entries = in_order (all_entries buckets) }
