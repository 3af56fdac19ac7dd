use Rattle.std.proofs.Common.{sym, subst}
use Rattle.data_path.specs.declared.store.PageStore.{PageStore}
use Rattle.data_path.specs.Store.{IsWhole}
use Rattle.data_path.specs.Access.{allows, IsFramed}
use Rattle.data_path.proofs.Accesses.{is_open, whole_cached}
use Rattle.data_path.proofs.store.PageStore.open.Goals as goal

pub returns-in-Some-clause-opened : goal.returns-in-Some-clause-opened
returns-in-Some-clause-opened g c =
    let framed = subst (λ (s : PageStore). IsFramed s c.frame_of.new.self (c.args.space.0, c.page_of.result.0) c.in_ok-pte.pte c.in-Some.frame) c.find.ensures.rest c.in-Some.ensures.framed in
    is_open c.args.self.now c.frame_of.new.self c.find.new.self.cache c.args.space.0 c.page_of.result.0 c.args.addr (allows c.args.need) c.in_ok-pte.pte c.in-Some.frame c.page_of.ensures c.in_ok-pte.ensures.found framed

pub returns-in-Some-clause-whole : goal.returns-in-Some-clause-whole
returns-in-Some-clause-whole g c =
    c.in-Some.ensures.whole (subst IsWhole (sym c.find.ensures.rest) (whole_cached c.args.self.now c.find.new.self.cache c.requires.whole c.find.ensures.cached))

pub returns-in-None-clause-whole : goal.returns-in-None-clause-whole
returns-in-None-clause-whole g c =
    c.in-None.ensures.whole (subst IsWhole (sym c.find.ensures.rest) (whole_cached c.args.self.now c.find.new.self.cache c.requires.whole c.find.ensures.cached))
