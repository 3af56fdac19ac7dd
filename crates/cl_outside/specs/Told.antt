-- What becomes of a list that an object tells, or does not tell.
use Rattle.std.specs.Prelude.{◌≡◌, List, ◌++◌}
use Rattle.std.specs.Option.{option_map}
use Rattle.std.specs.declared.option.Option.{Option}

-- these were taken off the front
abbrev pub Took : {A : Type 0} → List A → Option (List A) → Option (List A) → Type 0
Took items before after = before ≡ option_map (λ rest. items ++ rest) after

-- these were added at the end
abbrev pub Added : {A : Type 0} → List A → Option (List A) → Option (List A) → Type 0
Added items before after = after ≡ option_map (λ old. old ++ items) before
