use Rattle.std.proofs.Common.{◌≡◌, drop}
use Rattle.std.specs.Prelude.{find}
use Rattle.client_core.specs.Held.{may_send}
use Rattle.client_core.proofs.calls.first_to_send.Given as goal

abbrev pub invariant-loop-i : goal.invariant-loop-i
invariant-loop-i l = find (may_send l.order) (drop l.i l.rows) ≡ find (may_send l.order) l.rows
