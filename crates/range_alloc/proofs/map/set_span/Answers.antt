use Rattle.std.proofs.Common.{ap, ◌∙◌}
use Rattle.hash_buckets.specs.PageMap.{PageMap, entry_of, with_entry}
use Rattle.range_alloc.proofs.Entries.{entry-gone, room-gone, with-again}
use Rattle.range_alloc.proofs.map.set_span.Goals as goal

pub insert-requires-clause-unmapped : goal.insert-requires-clause-unmapped
insert-requires-clause-unmapped c = ap (λ (t : PageMap). entry_of t (c.args.space.0, c.args.start.0)) c.remove.ensures.entries ∙ entry-gone c.args.table.now (c.args.space.0, c.args.start.0)

pub insert-requires-clause-room : goal.insert-requires-clause-room
insert-requires-clause-room c = rw c.remove.ensures.entries (room-gone c.args.table.now (c.args.space.0, c.args.start.0) c.requires.valid c.requires.mapped)

pub returns-clause-spanned : goal.returns-clause-spanned
returns-clause-spanned c =
    with-again c.args.table.now c.remove.new.self c.insert.new.self (c.args.space.0, c.args.start.0) c.new_page.result c.requires.valid c.insert.ensures.valid c.remove.ensures.entries c.insert.ensures.entries
    ∙ ap (with_entry c.args.table.now (c.args.space.0, c.args.start.0)) c.new_page.ensures
