use Rattle.std.proofs.Common.{◌∙◌}
use Rattle.std.specs.Prelude.{◌==◌}
use Rattle.std.proofs.lemmas.Bool.{eq-eqb}
use Rattle.client_core.specs.declared.rows.Entry.{Entry}
use Rattle.client_core.proofs.CallLemmas.{found_here}
use Rattle.client_core.proofs.EntryLemmas.{entry_read}
use Rattle.client_core.proofs.rows.entry_at.Goals as goal

pub returns-then-entry-no-clause-there : goal.returns-then-entry-no-clause-there
returns-then-entry-no-clause-there c =
    let there = entry_read c.args.entries.now c.loop-i.i (record { no = record { 0 = 0 }; key = 0 }) c.loop-i-test.true in
    there ∙ found_here (λ (e : Entry). e.no.0 == c.args.no.0) c.args.entries.now c.loop-i.i _ c.loop-i.invariant there (eq-eqb _ _ c.if-entry-no.true)
