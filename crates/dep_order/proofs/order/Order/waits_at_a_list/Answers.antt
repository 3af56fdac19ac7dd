use Rattle.std.proofs.Common.{inl, inr, sym, ap, ◌∙◌, arith}
use Rattle.std.proofs.lemmas.Bool.{cases_Bool}
use Rattle.dep_order.specs.WaitLists.{wanted_at}
use Rattle.dep_order.specs.declared.walk.Wanted.TheVariants.{AwaitedBy}
use Rattle.dep_order.proofs.Going.{some_awaited, none_awaited, waits_for_none}
use Rattle.dep_order.proofs.order.Order.waits_at_a_list.Goals as goal

pub returns-then-waits_in : goal.returns-then-waits_in
returns-then-waits_in c =
    let there = c.waits_in.ensures.some c.if-waits_in.true in
    some_awaited c.self.invariant c.deref.result.now c.deref.ensures.value c.self.view_is c.args.row.now there.0 there.1 there.2.0 there.2.1

pub returns-then-waits_in-2 : goal.returns-then-waits_in-2
returns-then-waits_in-2 c =
    let there = c.waits_in-2.ensures.some c.if-waits_in-2.true in
    some_awaited c.self.invariant c.deref-2.result.now c.deref-2.ensures.value c.self.view_is c.args.row.now there.0 there.1 there.2.0 there.2.1

pub returns : goal.returns
returns c = elim (cases_Bool c.waits_in-3.result) [
  | inl t ↦
      let there = c.waits_in-3.ensures.some t in
      t ∙ some_awaited c.self.invariant c.deref-3.result.now c.deref-3.ensures.value c.self.view_is c.args.row.now there.0 there.1 there.2.0 there.2.1
  | inr f ↦
      f
      ∙ none_awaited c.self.invariant c.self.view_is c.args.row.now (
      waits_for_none c.self.invariant c.args.row.now
      (λ list node there is.
      ap (λ rs. wanted_at rs (AwaitedBy c.args.row.now) node) (sym c.deref.ensures.value)
      ∙ c.waits_in.ensures.none c.if-waits_in.false list node (omega arith) (omega arith) there)
      (λ number odd node is there.
      let of = c.offload_lists.ensures.there number odd is in
      ap (λ rs. wanted_at rs (AwaitedBy c.args.row.now) node) (sym c.deref-2.ensures.value)
      ∙ c.waits_in-2.ensures.none c.if-waits_in-2.false _ node (omega (arith, of.0)) (omega (arith, of.0, of.1)) there)
      (λ page node low high there.
      let at = c.page_lists.ensures.there page low high in
      ap (λ rs. wanted_at rs (AwaitedBy c.args.row.now) node) (sym c.deref-3.ensures.value)
      ∙ c.waits_in-3.ensures.none f _ node at.0 at.1 there)
      c.requires.no_fence)
]
