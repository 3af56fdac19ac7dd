-- What one bind does to the count of faults.
use Rattle.std.specs.Prelude.{◌≡◌, ℕ}
use Rattle.cl_outside.specs.Counts.{LastFailed, after_good}
use Rattle.cl_outside.specs.declared.faults.Faults.{Faults}
use Rattle.cl_outside.specs.declared.wire.Bound.{Bound}
use Rattle.cl_outside.specs.declared.wire.Bound.TheVariants.{Port, Failed}

-- the bind counts as one that failed, or as one that did not
abbrev pub CountsBind : Faults → Faults → Bound → Type 0
CountsBind before now (Port n) = now ≡ after_good before
CountsBind before now Failed = LastFailed before now
