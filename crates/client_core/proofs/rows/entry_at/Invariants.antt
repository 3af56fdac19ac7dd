use Rattle.std.proofs.Common.{◌≡◌, drop}
use Rattle.std.specs.Prelude.{◌==◌, find}
use Rattle.client_core.specs.declared.rows.Entry.{Entry}
use Rattle.client_core.proofs.rows.entry_at.Given as goal

abbrev pub invariant-loop-i : goal.invariant-loop-i
invariant-loop-i l = find (λ (e : Entry). e.no.0 == l.no.0) (drop l.i l.entries) ≡ find (λ (e : Entry). e.no.0 == l.no.0) l.entries
