use Rattle.std.proofs.Common.{ap, refl}
use Rattle.client_core.specs.Held.{Held, with_one_sent}
use Rattle.client_core.proofs.EntryLemmas.{written, written_kept, within_unsent}
use Rattle.client_core.proofs.rows.Rows.note_sent.Goals as goal

pub invariant_of-self : goal.invariant_of-self
invariant_of-self c =
    written_kept c.self.invariant c.args.at c.index.result.now c.index_mut-row.result.now c.note_sent.new.self c.args.self.now c.self.view_is (within_unsent c.args.self.now c.args.at c.requires) c.index.ensures c.index_mut-row.ensures.value (ap (λ (h : Held). h.number) c.note_sent.ensures)

pub returns : goal.returns
returns c =
    written c.self.invariant c.args.at c.index.result.now c.index_mut-row.result.now c.note_sent.new.self c.args.self.now c.self.view_is (within_unsent c.args.self.now c.args.at c.requires) c.index.ensures c.index_mut-row.ensures.value (with_one_sent) c.note_sent.ensures (λ h. refl)
