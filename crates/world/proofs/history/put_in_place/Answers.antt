use Rattle.std.proofs.Common.{List, ap, not, ◌∙◌}
use Rattle.std.specs.List.{insert, position_or_len}
use Rattle.cl_types.specs.declared.line.Entry.{Entry}
use Rattle.trace.specs.Account.{is_before}
use Rattle.world.proofs.HistoryLemmas.{inserted}
use Rattle.world.proofs.history.put_in_place.Goals as goal

pub returns : goal.returns
returns c =
    c.in_ok-insert_at.ensures
    ∙ ap (λ place. insert c.args.history.now.items place c.args.entry)
    (c.place_of-place.ensures.place ∙ ap (λ (h : List Entry). position_or_len (λ e. not (is_before c.args.entry.line c.args.entry.position e)) h) c.deref.ensures.value)
    ∙ inserted c.args.entry c.args.history.now.items
