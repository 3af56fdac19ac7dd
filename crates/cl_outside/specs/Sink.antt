-- What one write does to what was written, and to the count of faults.
use Rattle.std.specs.Prelude.{◌≡◌, ℕ, ◌<◌, ◌≤◌, List, length, take}
use Rattle.std.specs.declared.option.Option.{Option}
use Rattle.cl_outside.specs.Counts.{LastFailed, after_good}
use Rattle.cl_outside.specs.Told.{Added}
use Rattle.cl_outside.specs.declared.faults.Faults.{Faults}
use Rattle.cl_outside.specs.declared.sink.Wrote.{Wrote}
use Rattle.cl_outside.specs.declared.sink.Wrote.TheVariants.{Put, Failed}

-- with what was written before and after: what a write of the piece gave
abbrev pub Writes : Option (List ℕ) → Option (List ℕ) → List ℕ → Wrote → Type 0
Writes before after piece (Put n) = (0 < n) × (n ≤ length piece) × Added (take n piece) before after
Writes before after piece Failed = after ≡ before

-- the write counts as one that failed, or as one that did not
abbrev pub CountsWrite : Faults → Faults → Wrote → Type 0
CountsWrite before now (Put n) = now ≡ after_good before
CountsWrite before now Failed = LastFailed before now
