use Rattle.std.proofs.Common.{ap, sym, ◌∙◌}
use Rattle.std.specs.Prelude.{◌==◌}
use Rattle.std.specs.List.{list_any}
use Rattle.client_core.specs.Held.{Holding}
use Rattle.client_core.proofs.CallLemmas.{has_number}
use Rattle.client_core.proofs.Edits.{ends_one, kept_after, stays_so, there_within}
use Rattle.client_core.proofs.calls.Calls.end_where_over.Goals as goal

pub row-requires : goal.row-requires
row-requires c = there_within c.self.inside.rows c.args.at (rw (← c.self.view_is) at c.requires.there)

pub returns-then-not-is_over-clause-calls : goal.returns-then-not-is_over-clause-calls
returns-then-not-is_over-clause-calls c =
    stays_so c.args.self.now c.self.inside.rows c.args.at c.row.result.now (ap (λ (z : Holding). z.held) c.self.view_is) c.requires.there c.row.ensures (sym c.is_over.ensures ∙ c.if-not-is_over.true) c.requires.others

pub remove-row-requires : goal.remove-row-requires
remove-row-requires c = there_within c.self.inside.rows c.args.at (rw (← c.self.view_is) at c.requires.there)

pub end-requires : goal.end-requires
end-requires c =
    ap (λ n. list_any (λ k. k.0 == n) c.self.inside.order) c.no.ensures
    ∙ has_number c.self.inside.rows c.self.inside.order c.args.at c.remove-row.result c.self.invariant.ordered c.remove-row.ensures.row

pub invariant_of-self : goal.invariant_of-self
invariant_of-self c =
    let apart = rw (← c.self.view_is) at c.requires.apart in
    kept_after c.args.at apart.0 c.remove-row.result c.self.invariant apart.1 c.remove-row.ensures.row c.no.result.0 c.no.ensures c.end.ensures c.remove-row.ensures.rows c.push_back_reserved.ensures.capacity

pub returns-clause-calls : goal.returns-clause-calls
returns-clause-calls c =
    ends_one c.args.self.now c.self.inside.rows c.remove-row.new.self c.self.inside.ended.items c.push_back_reserved.new.self.items c.end-2.result c.args.at c.row.result.now c.remove-row.result c.self.view_is c.requires.there
    c.row.ensures (sym c.is_over.ensures ∙ c.if-not-is_over.false) c.remove-row.ensures.row c.requires.others c.end-2.ensures c.remove-row.ensures.rows c.push_back_reserved.ensures.items
