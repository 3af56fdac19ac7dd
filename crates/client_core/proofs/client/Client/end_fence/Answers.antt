use Rattle.client_core.proofs.Doing.{fence_does, fence_there}
use Rattle.client_core.proofs.Issuing.{first_ends}
use Rattle.client_core.proofs.Sounds.{going}
use Rattle.client_core.proofs.client.Client.end_fence.Goals as goal

pub end_fence-no-requires-clause-going : goal.end_fence-no-requires-clause-going
end_fence-no-requires-clause-going c = going _ _ _ _ _ _ _ c.self.invariant

pub end_fence-no-requires-clause-fence : goal.end_fence-no-requires-clause-fence
end_fence-no-requires-clause-fence c = fence_there _ _ _ _ _ _ _ c.self.invariant c.args.self.now c.self.view_is c.requires.fence

pub invariant_of-self : goal.invariant_of-self
invariant_of-self c =
    (first_ends _ _ _ _ c.self.inside.flight _ c.end_fence-no.result c.end_fence-no.new.self c.self.inside.calls.ended c.end_fence-no.ensures.ended c.self.inside.calls.held c.self.invariant c.end_fence-no.ensures.number c.end_fence-no.ensures.held).sound'

pub returns-clause-does : goal.returns-clause-does
returns-clause-does c =
    fence_does _ _ _ _ _ _ _ c.self.invariant c.args.self.now c.self.view_is c.end_fence-no.result c.end_fence-no.ensures.number c.end_fence-no.new.self c.end_fence-no.ensures.held c.end_fence-no.ensures.ended

pub returns-clause-valid : goal.returns-clause-valid
returns-clause-valid c =
    (first_ends _ _ _ _ c.self.inside.flight _ c.end_fence-no.result c.end_fence-no.new.self c.self.inside.calls.ended c.end_fence-no.ensures.ended c.self.inside.calls.held c.self.invariant c.end_fence-no.ensures.number c.end_fence-no.ensures.held).sound'.valid
