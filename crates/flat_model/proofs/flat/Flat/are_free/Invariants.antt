use Rattle.std.proofs.Common.{◌≡◌, ◌+◌, ◌-◌, not}
use Rattle.std.specs.List.{list_all}
use Rattle.flat_model.specs.State.{is_mapped, places, places_of}
use Rattle.flat_model.proofs.flat.Flat.are_free.Given as goal

-- the pages so far are free
abbrev pub invariant-loop-i : goal.invariant-loop-i
invariant-loop-i l =
    list_all (λ place. not (is_mapped (places l.self) place)) (places_of l.pid (l.start + l.i) (l.n - l.i))
    ≡ list_all (λ place. not (is_mapped (places l.self) place)) (places_of l.pid l.start l.n)
