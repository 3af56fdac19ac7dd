-- Checks in their order.
use Rattle.std.specs.Prelude.{Bool, List, [], ◌∷◌, Option, Some, None, if◌then◌else◌}

-- the first fault of a list of checks, each whether it fails and with what
abbrev pub first_fault : {F : Type 0} → List (Bool × F) → Option F
first_fault [] = None
first_fault (check ∷ checks) = if check.0 then Some check.1 else first_fault checks
