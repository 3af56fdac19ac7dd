-- What a contract sees of a `Table`: a finite map from pages to what is said of them.
use Rattle.std.specs.Prelude.{ℕ, ◌≤◌, IsTrue, not, List, map, Option}
use Rattle.std.specs.FinMap.Entries.{find, put, where_key, is_sorted}
use Rattle.std.specs.Ordering.{eq_by_cmp}
use Rattle.cl_types.specs.declared.page.Pte.{Pte}
use Rattle.cl_types.specs.Places.{Place, place_cmp, homes_at, is_bucket_count}

-- how many buckets there are, and what is mapped, in the order of the pages
pub record PageMap : Type 0 where
  pub buckets : ℕ
  pub entries : List (Place × Pte)

-- what is said of a page
abbrev pub entry_of : PageMap → Place → Option Pte
entry_of table place = find place_cmp place table.entries

-- how many pages have this home
abbrev pub load : PageMap → ℕ → ℕ
load table home = homes_at table.buckets home (map (λ entry. entry.0) table.entries)

-- the table with this said of a page
abbrev pub with_entry : PageMap → Place → Pte → PageMap
with_entry table place pte = record table { entries = put place_cmp place pte table.entries }

-- the entries but that of a page
abbrev pub without_page : Place → List (Place × Pte) → List (Place × Pte)
without_page place entries =
    where_key place_cmp (λ other. not (eq_by_cmp place_cmp place other)) entries

-- the table with a page unmapped
abbrev pub without_entry : PageMap → Place → PageMap
without_entry table place = record table { entries = without_page place table.entries }

-- each page has a home, the entries stand in order, and no home has more than four
pub record IsValid (table : PageMap) : Type 0 where
  pub counted : IsTrue (is_bucket_count table.buckets)
  pub sorted : IsTrue (is_sorted place_cmp table.entries)
  pub four : (home : ℕ) → load table home ≤ 4
