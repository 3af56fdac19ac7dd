use Rattle.std.proofs.Common.{◌∙◌, ap, sym, arith, length}
use Rattle.std.specs.Prelude.{◌==◌, find, is_some, slice_get}
use Rattle.std.proofs.lemmas.List.{length-map}
use Rattle.client_core.specs.declared.rows.Entry.{Entry}
use Rattle.client_core.specs.Entries.{held_under}
use Rattle.client_core.specs.Held.{Held, held_at}
use Rattle.client_core.proofs.EntryLemmas.{entry_there, place_there}
use Rattle.client_core.proofs.rows.Rows.place.Goals as goal

pub entry_at-requires : goal.entry_at-requires
entry_at-requires c =
    ap (λ es. is_some (find (λ (e : Entry). e.no.0 == c.args.no.0) es)) c.deref.ensures.value
    ∙ entry_there c.self.inside.slab c.args.no.0 c.self.inside.entries.items c.self.invariant.stand (ap (λ hs. is_some (held_at c.args.no.0 hs)) c.self.view_is ∙ c.requires)

pub returns-clause-within : goal.returns-clause-within
returns-clause-within c =
    omega (arith, c.entry_at.ensures.within, ap (length {A = Entry}) c.deref.ensures.value, length-map c.self.inside.entries.items (held_under c.self.inside.slab), ap (length {A = Held}) c.self.view_is)

pub returns-clause-there : goal.returns-clause-there
returns-clause-there c =
    ap (λ hs. slice_get hs c.entry_at.result) (sym c.self.view_is)
    ∙ place_there c.self.inside.slab c.args.no.0 c.self.inside.entries.items c.entry_at.result c.self.invariant.stand
    (ap (λ es. slice_get es c.entry_at.result) (sym c.deref.ensures.value) ∙ c.entry_at.ensures.there ∙ ap (find (λ (e : Entry). e.no.0 == c.args.no.0)) c.deref.ensures.value)
    ∙ ap (held_at c.args.no.0) c.self.view_is
