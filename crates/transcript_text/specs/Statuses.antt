-- What a caller promises of what an event did.
use Rattle.std.specs.Prelude.{◌≤◌}
use Rattle.cl_types.specs.declared.line.Did.{Did}
use Rattle.cl_types.specs.declared.line.Did.TheVariants.{Handled}

-- the status of a handled frame, where it tells one, is that of a reply
abbrev pub HasGoodStatus : Did → Type 0
HasGoodStatus (Handled frame client part how status reply) = status ≤ 8
HasGoodStatus other = Unit {0}
