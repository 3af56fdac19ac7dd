use Rattle.std.proofs.Common.{ap, refl}
use Rattle.cl_types.specs.Requests.{reply_of}
use Rattle.client_model.specs.Cut.{Replied}
use Rattle.client_core.specs.Held.{Held, with_came}
use Rattle.client_core.proofs.EntryLemmas.{written, written_kept}
use Rattle.client_core.proofs.rows.Rows.take.Goals as goal

pub invariant_of-self : goal.invariant_of-self
invariant_of-self c =
    written_kept c.self.invariant c.args.at c.index.result.now c.index_mut-row.result.now c.take.new.self c.args.self.now c.self.view_is c.requires.within c.index.ensures c.index_mut-row.ensures.value (ap (λ (h : Held). h.number) c.take.ensures)

pub returns : goal.returns
returns c =
    written c.self.invariant c.args.at c.index.result.now c.index_mut-row.result.now c.take.new.self c.args.self.now c.self.view_is c.requires.within c.index.ensures c.index_mut-row.ensures.value (with_came c.args.i (Replied (reply_of c.args.reply.now))) c.take.ensures (λ h. refl)
