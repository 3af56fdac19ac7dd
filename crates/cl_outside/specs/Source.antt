-- What one read does to what a source has left, to the buffer, and to the count of faults.
use Rattle.std.specs.Prelude.{◌≡◌, ℕ, ◌<◌, ◌≤◌, List, [], length, take, IfSome}
use Rattle.std.specs.declared.option.Option.{Option}
use Rattle.cl_outside.specs.Counts.{LastFailed, after_good}
use Rattle.cl_outside.specs.Told.{Took}
use Rattle.cl_outside.specs.declared.faults.Faults.{Faults}
use Rattle.cl_outside.specs.declared.source.Read.{Read}
use Rattle.cl_outside.specs.declared.source.Read.TheVariants.{Got, End, Failed}

-- with what was left before and after, and the buffer after: what a read gave
abbrev pub Reads : Option (List ℕ) → Option (List ℕ) → List ℕ → Read → Type 0
-- the bytes at the front of the buffer were taken off what was left
Reads before after buf (Got n) = (0 < n) × (n ≤ length buf) × Took (take n buf) before after
-- nothing is left
Reads before after buf End = (after ≡ before) × IfSome before (λ bytes. bytes ≡ [])
Reads before after buf Failed = after ≡ before

-- the read counts as one that failed, or as one that did not
abbrev pub CountsRead : Faults → Faults → Read → Type 0
CountsRead before now (Got n) = now ≡ after_good before
CountsRead before now End = now ≡ after_good before
CountsRead before now Failed = LastFailed before now
