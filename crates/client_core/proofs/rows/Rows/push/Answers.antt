use Rattle.std.proofs.Common.{◌∙◌, ◌++◌, ◌∷◌, [], ap, sym, map}
use Rattle.client_core.specs.declared.rows.Entry.{Entry}
use Rattle.client_core.specs.Entries.{held_under}
use Rattle.client_core.proofs.EntryLemmas.{few_entries, kept_as, pushed, pushed_kept}
use Rattle.client_core.proofs.rows.Rows.push.Goals as goal

pub invariant_of-self : goal.invariant_of-self
invariant_of-self c =
    let e : Entry = record { no = c.no-no.result; key = c.insert_reserved-key.result } in
    kept_as (pushed_kept c.self.invariant c.insert_reserved-key.new.self e c.args.row c.insert_reserved-key.ensures.was_vacant c.insert_reserved-key.ensures.updates (sym c.no-no.ensures) (few_entries c.self.inside.slab c.self.inside.entries.items c.args.self.now c.self.view_is c.requires.few) c.insert_reserved-key.ensures.len c.insert_reserved-key.ensures.capacity) c.push_reserved.ensures.items c.push_reserved.ensures.capacity

pub returns : goal.returns
returns c =
    let e : Entry = record { no = c.no-no.result; key = c.insert_reserved-key.result } in
    ap (map (held_under c.insert_reserved-key.new.self)) c.push_reserved.ensures.items
    ∙ pushed c.self.invariant c.insert_reserved-key.new.self e c.args.row c.insert_reserved-key.ensures.was_vacant c.insert_reserved-key.ensures.updates (sym c.no-no.ensures)
    ∙ ap (λ hs. hs ++ c.args.row ∷ []) c.self.view_is
