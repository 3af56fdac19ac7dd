-- What source and sink show of a command, and what the source gave.
use Rattle.std.specs.Prelude.{◌≡◌, ◌⊎◌, ℕ, ◌+◌, List, [], length, IfSome}
use Rattle.std.specs.declared.option.Option.{Option}
use Rattle.cl_outside.specs.Told.{Took}
use Rattle.cl_outside.specs.declared.faults.Faults.{Faults}
use Rattle.cl_types.specs.declared.limits.TheConstants.{INPUT_BYTES}

-- ---- what shows
-- what the source has left and the sink was given, where they tell, and which of their calls failed
pub record Streams : Type 0 where
  pub left : Option (List ℕ)
  pub read_faults : Faults
  pub written : Option (List ℕ)
  pub write_faults : Faults

-- the same, of these
abbrev pub streams : Option (List ℕ) → Faults → Option (List ℕ) → Faults → Streams
streams left read_faults written write_faults = record {
  left = left;
  read_faults = read_faults;
  written = written;
  write_faults = write_faults;
}

-- ---- the input
-- these are all bytes of the source, which was read to its end
pub record IsInput (bytes : List ℕ) (before after : Option (List ℕ)) : Type 0 where
  pub whole : IfSome before (λ left. bytes ≡ left)
  pub ended : IfSome after (λ left. left ≡ [])

-- these were taken off the source, and are one more than an input may have
pub record IsTooMany (bytes : List ℕ) (before after : Option (List ℕ)) : Type 0 where
  pub count : length bytes ≡ INPUT_BYTES + 1
  pub taken : Took bytes before after

-- what the source gave: all that it had, or one byte more than an input may have
abbrev pub Gave : List ℕ → Option (List ℕ) → Option (List ℕ) → Type 0
Gave bytes before after = IsInput bytes before after ⊎ IsTooMany bytes before after

-- the source was not touched
pub record IsUnread (before after : Streams) : Type 0 where
  pub left : after.left ≡ before.left
  pub faults : after.read_faults ≡ before.read_faults
