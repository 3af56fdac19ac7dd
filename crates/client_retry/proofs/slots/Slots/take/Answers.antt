-- The key of the place is let go, and its part with it.
use Rattle.std.proofs.Common.{ap, ◌∙◌, set, None}
use Rattle.client_retry.proofs.SlotLemmas.{take_seen, take_kept}
use Rattle.client_retry.proofs.slots.Slots.take.Goals as goal

pub invariant_of-self : goal.invariant_of-self
invariant_of-self c =
    take_kept c.self.inside.parts c.self.inside.keys c.self.invariant c.remove.new.self c.args.place c.in-Some.key c.in-Some.is c.remove.ensures.updates c.remove.ensures.len c.remove.ensures.capacity

pub returns-clause-slots : goal.returns-clause-slots
returns-clause-slots c =
    take_seen c.self.inside.parts c.self.inside.keys c.self.invariant c.remove.new.self c.args.place c.in-Some.key c.in-Some.is c.remove.ensures.updates ∙ ap (λ v. set v c.args.place None) c.self.view_is
