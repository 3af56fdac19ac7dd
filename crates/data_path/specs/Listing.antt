-- The lists of a store: they name the ranges of the processes.
use Rattle.std.specs.Prelude.{◌≡◌, ℕ, ◌*◌, ◌≤◌, ◌==◌, false, true, List, [], ◌∷◌, length, Option, Some, None, if◌then◌else◌, IsTrue}
use Rattle.std.specs.FinMap.Entries.{find}
use Rattle.cl_types.specs.Places.{Place, place_cmp, is_process}
use Rattle.cl_types.specs.Ranges.{is_page_count}
use Rattle.range_alloc.specs.RangeSets.{RangeSets, has_start, ranges_in}

-- how many pages the range has that begins here, where one of these does
abbrev pub pages_listed : ℕ → List (ℕ × ℕ) → Option ℕ
pages_listed start [] = None
pages_listed start (range ∷ ranges) = if range.0 == start then Some range.1 else pages_listed start ranges

-- no two begin at one page, and each has 1 to 1,024 pages
abbrev pub AreApart : List (ℕ × ℕ) → Type 0
AreApart [] = Unit {0}
AreApart (range ∷ ranges) = (has_start range.0 ranges ≡ false) × IsTrue (is_page_count range.1) × AreApart ranges

-- the lists name exactly these ranges, as far as they are those of processes, and have room for all of so many buckets
pub record AreListed (lists : RangeSets) (ranges : List (Place × ℕ)) (buckets : ℕ) : Type 0 where
  pub named : (space start : ℕ) → is_process space ≡ true → pages_listed start (ranges_in lists space) ≡ find place_cmp (space, start) ranges
  pub apart : (space : ℕ) → is_process space ≡ true → AreApart (ranges_in lists space)
  -- so a range that joins finds room, since a table has four pages a bucket
  pub few : lists.count ≤ length ranges
  pub nodes : lists.nodes ≡ 4 * buckets
