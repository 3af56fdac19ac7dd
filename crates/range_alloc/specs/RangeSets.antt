-- What a contract sees of a `RangeLists`.
use Rattle.std.specs.Prelude.{ℕ, ◌==◌, ◌||◌, Bool, false, List, [], ◌∷◌, if◌then◌else◌, slice_index_or}

-- how many ranges have room and how many stand, and the ranges of each space, by start and number of pages
pub record RangeSets : Type 0 where
  pub nodes : ℕ
  pub count : ℕ
  pub spaces : List (List (ℕ × ℕ))

-- the ranges of a space
abbrev pub ranges_in : RangeSets → ℕ → List (ℕ × ℕ)
ranges_in s space = slice_index_or s.spaces space []

-- whether one of the ranges begins here
abbrev pub has_start : ℕ → List (ℕ × ℕ) → Bool
has_start start [] = false
has_start start (range ∷ ranges) = (range.0 == start) || has_start start ranges

-- the ranges without the first that begins here
abbrev pub drop_start : ℕ → List (ℕ × ℕ) → List (ℕ × ℕ)
drop_start start [] = []
drop_start start (range ∷ ranges) = if range.0 == start then ranges else range ∷ drop_start start ranges
