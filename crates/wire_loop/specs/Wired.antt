-- What shows of a command over a wire.
use Rattle.std.specs.Prelude.{ℕ, List, [], ◌∷◌, Option, codes}
use Rattle.cl_outside.specs.Wire.{Binding}
use Rattle.cl_outside.specs.declared.faults.Faults.{Faults}
use Rattle.texts.specs.Text.{Text, line_of}
use Rattle.wire_loop.specs.Serves.{Told}

-- what wire, clock and sink tell, and which calls of wire and sink failed
pub record Wired : Type 0 where
  -- what is to come and was sent, and what the clock is to answer
  pub told : Told
  pub last_bind : Option (Option Binding)
  pub wire_faults : Faults
  pub written : Option (List ℕ)
  pub write_faults : Faults

-- the same, of these
abbrev pub wired : Told → Option (Option Binding) → Faults → Option (List ℕ) → Faults → Wired
wired told last_bind wire_faults written write_faults = record {
  told = told;
  last_bind = last_bind;
  wire_faults = wire_faults;
  written = written;
  write_faults = write_faults;
}

-- the line of a bind, a receive or a send that failed
abbrev pub wire_fault_line : Text
wire_fault_line = line_of (codes "wire fault" ∷ [])
