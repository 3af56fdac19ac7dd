use Rattle.std.proofs.Common.{◌∙◌, ap}
use Rattle.client_core.specs.Held.{Holding, part_to_send}
use Rattle.client_core.proofs.Edits.{kept_quiet}
use Rattle.client_core.proofs.calls.Calls.note_quiet.Goals as goal

pub invariant_of-self : goal.invariant_of-self
invariant_of-self c = kept_quiet c.self.invariant (ap (λ (z : Holding). part_to_send z.held) c.self.view_is ∙ c.requires)
