use Rattle.std.proofs.Common.{◌∙◌, sym}
use Rattle.client_core.proofs.CallLemmas.{numbers_below}
use Rattle.client_core.proofs.Issuing.{issued_state, issued_step}
use Rattle.client_core.proofs.Sounds.{rising}
use Rattle.client_core.proofs.client.Client.issue.Goals as goal

pub push-requires-clause-later : goal.push-requires-clause-later
push-requires-clause-later c = (numbers_below 0 c.self.inside.issued c.self.inside.calls.held (rising _ _ _ _ _ _ _ c.self.invariant)).1

pub invariant_of-self : goal.invariant_of-self
invariant_of-self c =
    (issued_step _ _ _ _ _ _ _ c.self.invariant c.args.self.now c.self.view_is c.args.call (sym c.fault_of.ensures ∙ c.in_default.is) c.push.new.self c.push.ensures.held c.push.ensures.ended).sound'

pub returns-clause-state : goal.returns-clause-state
returns-clause-state c =
    issued_state _ _ _ _ _ _ _ c.self.invariant c.args.self.now c.self.view_is c.args.call c.fault_of.result c.in_default.is c.fault_of.ensures c.push.new.self c.push.ensures.held c.push.ensures.ended

pub returns-clause-valid : goal.returns-clause-valid
returns-clause-valid c =
    (issued_step _ _ _ _ _ _ _ c.self.invariant c.args.self.now c.self.view_is c.args.call (sym c.fault_of.ensures ∙ c.in_default.is) c.push.new.self c.push.ensures.held c.push.ensures.ended).sound'.valid
