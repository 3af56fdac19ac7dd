use Rattle.std.proofs.Common.{sym, subst, ◌∙◌, arith, inl, inr}
use Rattle.std.proofs.lemmas.Bool.{cases_eq}
use Rattle.index_lists.specs.NodeLists.{list_at, IsIn}
use Rattle.dep_order.specs.WaitLists.{place_of, wanted_at}
use Rattle.dep_order.specs.declared.walk.Wanted.TheVariants.{AwaitedBy}
use Rattle.dep_order.proofs.Mapped.{some_sought, none_sought}
use Rattle.dep_order.proofs.walk.waits_in.Goals as goal
use Rattle.index_lists.proofs.Members.{find_none}

pub returns-then-is_some-clause-some : goal.returns-then-is_some-clause-some
returns-then-is_some-clause-some c = λ t.
    let there =
    some_sought place_of (wanted_at c.args.rows.now (AwaitedBy c.args.row.now)) (list_at c.args.lists.now c.loop-list.list) c.first_wanted.result c.first_wanted.ensures
    (sym c.is_some.ensures ∙ c.if-is_some.true) in
    (c.loop-list.list, there.0, there.1)

pub loop-list-preserved : goal.loop-list-preserved
loop-list-preserved c = λ list node low high there.
    elim (cases_eq list c.loop-list.list) [
      | inr ne ↦ c.loop-list.invariant list node low (omega arith) there
      | inl e ↦
          let none =
          none_sought place_of (wanted_at c.args.rows.now (AwaitedBy c.args.row.now)) (list_at c.args.lists.now c.loop-list.list) c.first_wanted.result c.first_wanted.ensures
          (sym c.is_some.ensures ∙ c.if-is_some.false) in
          find_none (wanted_at c.args.rows.now (AwaitedBy c.args.row.now)) (list_at c.args.lists.now c.loop-list.list) none node (subst (λ l. IsIn c.args.lists.now l node) e there)
    ]
