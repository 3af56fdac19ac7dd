use Rattle.translate_cache.proofs.Calls.{Forgot, cached, forgotten_left}
use Rattle.translate_cache.proofs.cache.Cache.forget.Goals as goal

left : (c : goal.After-pop) → Forgot c.args.self.now (c.args.space.0, c.args.vpn.0) (cached c.pop.new.self)
left c = forgotten_left c.self.invariant c.self.view_is (c.args.space.0, c.args.vpn.0) c.pop.ensures.entries

pub invariant_of-self : goal.invariant_of-self
invariant_of-self c = (left c).valid

pub returns-clause-gone : goal.returns-clause-gone
returns-clause-gone c = (left c).gone

pub returns-clause-others : goal.returns-clause-others
returns-clause-others c = (left c).others

pub returns-clause-valid : goal.returns-clause-valid
returns-clause-valid c = (left c).valid
