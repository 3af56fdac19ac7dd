-- Laws of the least start of a range.
use Rattle.std.specs.Prelude.{ℕ, ◌≡◌, ◌≤◌, ◌↔◌, List, Some, None, IsTrue}
use Rattle.cl_types.specs.Places.{Place}
use Rattle.flat_model.specs.State.{fits, least}

-- pages fit at this start, and at no smaller one
pub record IsLeastStart (buckets : ℕ) (places : List Place) (pid n start : ℕ) : Type 0 where
  pub fitting : IsTrue (fits buckets places pid start n)
  pub none_below : (other : ℕ) → IsTrue (fits buckets places pid other n) → start ≤ other

-- what is found as the least start is the least at which the pages fit
abbrev pub LeastStartIsTheLeast : Type 0
LeastStartIsTheLeast =
    (buckets : ℕ) (places : List Place) (pid n start : ℕ) → least buckets places pid n ≡ Some start → IsLeastStart buckets places pid n start

-- the pages, of which there is at least one, fit nowhere
abbrev pub FitsNowhere : ℕ → List Place → ℕ → ℕ → Type 0
FitsNowhere buckets places pid n = (start : ℕ) → IsTrue (fits buckets places pid start n) → ⊥

-- there is no least start exactly where at least one page fits nowhere
abbrev pub NoStartFitsWhereThereIsNone : Type 0
NoStartFitsWhereThereIsNone =
    (buckets : ℕ) (places : List Place) (pid n : ℕ) → 1 ≤ n → (least buckets places pid n ≡ None) ↔ FitsNowhere buckets places pid n
