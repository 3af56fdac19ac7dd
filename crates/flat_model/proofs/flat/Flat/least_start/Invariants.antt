use Rattle.std.proofs.Common.{◌≡◌, ◌-◌}
use Rattle.flat_model.specs.State.{least, least_from, places}
use Rattle.flat_model.proofs.flat.Flat.least_start.Given as goal

abbrev pub invariant-loop-start : goal.invariant-loop-start
invariant-loop-start l = least l.self.buckets (places l.self) l.pid l.n ≡ least_from l.self.buckets (places l.self) l.pid l.n l.start (65536 - l.start)
