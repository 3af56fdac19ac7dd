use Rattle.std.proofs.Common.{◌∙◌, ap, sym, map}
use Rattle.std.specs.Prelude.{slice_get}
use Rattle.std.specs.List.{remove}
use Rattle.client_core.specs.Entries.{held_under}
use Rattle.client_core.proofs.EntryLemmas.{left_in, left_kept, row_there, within_view}
use Rattle.client_core.proofs.rows.Rows.remove.Goals as goal

pub invariant_of-self : goal.invariant_of-self
invariant_of-self c =
    left_kept c.self.invariant c.remove.new.self c.args.at c.remove-entry.result (within_view c.self.inside.slab c.self.inside.entries.items c.args.at c.args.self.now c.self.view_is c.requires) c.remove-entry.ensures.value c.remove.ensures.updates
    c.remove-entry.new.self.items _ c.remove-entry.ensures.items c.remove-entry.ensures.capacity c.remove.ensures.len c.remove.ensures.capacity

pub returns-clause-row : goal.returns-clause-row
returns-clause-row c =
    ap (λ hs. slice_get hs c.args.at) (sym c.self.view_is)
    ∙ row_there c.self.invariant c.args.at c.remove-entry.result c.remove.result (within_view c.self.inside.slab c.self.inside.entries.items c.args.at c.args.self.now c.self.view_is c.requires) c.remove-entry.ensures.value c.remove.ensures.value

pub returns-clause-rows : goal.returns-clause-rows
returns-clause-rows c =
    ap (map (held_under c.remove.new.self)) c.remove-entry.ensures.items
    ∙ left_in c.self.invariant c.remove.new.self c.args.at c.remove-entry.result (within_view c.self.inside.slab c.self.inside.entries.items c.args.at c.args.self.now c.self.view_is c.requires) c.remove-entry.ensures.value c.remove.ensures.updates
    ∙ ap (λ hs. remove hs c.args.at) c.self.view_is
