-- Which page can join a table. No public clause cites this module.
use Rattle.std.specs.Prelude.{◌≡◌, ◌≤◌, ◌-◌, ℕ, Bool, ◌&&◌, nat_lt, is_none}
use Rattle.cl_types.specs.declared.limits.TheConstants.{BUCKET_PAGES, SPACE_PAGES}
use Rattle.cl_types.specs.Places.{home_of}
use Rattle.hash_buckets.specs.PageMap.{PageMap, entry_of, load}
use Rattle.flat_model.specs.Rows.{keys}
use Rattle.flat_model.specs.State.{least_from}

-- it is a page of the space, it isn't mapped, and its home has room
abbrev pub can_join : PageMap → ℕ → ℕ → Bool
can_join table space page =
    nat_lt page SPACE_PAGES && is_none (entry_of table (space, page)) && nat_lt (load table (home_of table.buckets (space, page))) BUCKET_PAGES

-- a search for n pages from the first start on finds what it finds from the other on
pub record SkipsTo (table : PageMap) (space n first other : ℕ) : Type 0 where
  pub onward : first ≤ other
  pub inside : other ≤ SPACE_PAGES
  pub same : least_from table.buckets (keys table.entries) space n first (SPACE_PAGES - first)
      ≡ least_from table.buckets (keys table.entries) space n other (SPACE_PAGES - other)
