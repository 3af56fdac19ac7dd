use Rattle.std.proofs.Common.{◌∙◌, ap, sym}
use Rattle.client_core.specs.Held.{Holding, part_to_send}
use Rattle.client_core.proofs.calls.Calls.part_to_send.Goals as goal

pub returns-then-self : goal.returns-then-self
returns-then-self c = sym (ap (λ (z : Holding). part_to_send z.held) (sym c.self.view_is) ∙ c.self.invariant.nothing_to_send c.if-self.true)
