use Rattle.std.proofs.Common.{◌∙◌, ap, sym}
use Rattle.std.specs.Prelude.{◌==◌}
use Rattle.std.specs.List.{list_any}
use Rattle.client_core.specs.declared.rows.Entry.{Entry}
use Rattle.client_core.specs.Held.{Held}
use Rattle.client_core.proofs.EntryLemmas.{any_entry}
use Rattle.client_core.proofs.rows.Rows.has.Goals as goal

pub returns : goal.returns
returns c =
    c.has_entry.ensures ∙ ap (list_any (λ (e : Entry). e.no.0 == c.args.no.0)) c.deref.ensures.value
    ∙ sym (any_entry c.self.inside.slab c.args.no.0 c.self.inside.entries.items c.self.invariant.stand) ∙ ap (list_any (λ (h : Held). h.number == c.args.no.0)) c.self.view_is
