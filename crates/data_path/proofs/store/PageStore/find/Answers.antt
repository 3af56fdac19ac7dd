use Rattle.std.proofs.Common.{sym, ◌∙◌}
use Rattle.data_path.specs.Access.{allows}
use Rattle.data_path.proofs.Accesses.{not_mapped, not_allowed, is_found}
use Rattle.data_path.proofs.store.PageStore.find.Goals as goal

pub returns-in_default-clause-denied : goal.returns-in_default-clause-denied
returns-in_default-clause-denied g c =
    not_mapped c.args.self.now c.args.space.0 c.args.addr (allows c.args.need) c.page_of.result.0 c.page_of.ensures (sym c.in_default.is ∙ c.translate.ensures.entry)

pub returns-then-not-is_allowed-clause-denied : goal.returns-then-not-is_allowed-clause-denied
returns-then-not-is_allowed-clause-denied g c =
    not_allowed c.args.self.now c.args.space.0 c.args.addr (allows c.args.need) c.page_of.result.0 c.page_of.ensures c.in-Some.pte c.in-Some.ensures.entry (sym c.is_allowed.ensures ∙ c.if-not-is_allowed.true)

pub returns-clause-found : goal.returns-clause-found
returns-clause-found g c =
    is_found c.args.self.now c.args.space.0 c.args.addr (allows c.args.need) c.page_of.result.0 c.page_of.ensures c.in-Some.pte c.in-Some.ensures.entry (sym c.is_allowed.ensures ∙ c.if-not-is_allowed.false)
