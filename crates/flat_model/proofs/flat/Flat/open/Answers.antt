use Rattle.std.proofs.Common.{sym, ap, ◌∙◌}
use Rattle.flat_model.specs.Rows.{allows}
use Rattle.flat_model.proofs.OpenLemmas.{opens_none, opens_denied, opens_last, opens_page}
use Rattle.flat_model.proofs.flat.Flat.open.Goals as goal

pub returns-in-None : goal.returns-in-None
returns-in-None c = opens_none _ _ _ _ (sym c.in-None.ensures)

pub returns-then-not-is_allowed : goal.returns-then-not-is_allowed
returns-then-not-is_allowed c = opens_denied _ _ _ _ (record {
  at = sym c.in-Some.ensures;
  value = c.nth-page.ensures;
  perm = ap (allows c.args.need) (sym c.perm.ensures) ∙ sym c.is_allowed.ensures ∙ c.if-not-is_allowed.true;
})

pub returns-then-is_out_of : goal.returns-then-is_out_of
returns-then-is_out_of c = opens_last _ _ _ _ (record {
  at = sym c.in-Some.ensures;
  value = c.nth-page.ensures;
  perm = ap (allows c.args.need) (sym c.perm.ensures) ∙ sym c.is_allowed.ensures ∙ c.if-not-is_allowed.false;
}) (sym c.is_out_of.ensures ∙ c.if-is_out_of.true)

pub returns-else-is_out_of : goal.returns-else-is_out_of
returns-else-is_out_of c = opens_page _ _ _ _ (record {
  at = sym c.in-Some.ensures;
  value = c.nth-page.ensures;
  perm = ap (allows c.args.need) (sym c.perm.ensures) ∙ sym c.is_allowed.ensures ∙ c.if-not-is_allowed.false;
}) (sym c.is_out_of.ensures ∙ c.if-is_out_of.false)
