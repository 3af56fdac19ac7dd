-- An Exit, as the flat machine will have it: all that a process has leaves the state.
use Rattle.std.specs.Prelude.{ℕ, ◌==◌, not}
use Rattle.std.specs.FinMap.Entries.{where_key}
use Rattle.cl_types.specs.declared.reply.Reply.TheVariants.{Nothing}
use Rattle.cl_types.specs.Places.{place_cmp}
use Rattle.flat_model.specs.State.{FlatState}
use Rattle.flat_model.specs.Step.{Transition}

-- all ranges and all pages of a process leave the state
abbrev pub exited : FlatState → ℕ → FlatState
exited s pid = record s {
  map = where_key place_cmp (λ place. not (place.0 == pid)) s.map;
  ranges = where_key place_cmp (λ place. not (place.0 == pid)) s.ranges;
}

-- an Exit takes out all that the process has
abbrev pub exit : FlatState → ℕ → Transition
exit s pid = record { reply = Nothing; state = exited s pid }
