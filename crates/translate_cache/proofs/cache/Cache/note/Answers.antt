use Rattle.translate_cache.proofs.Calls.{Noted, cached, noted_left}
use Rattle.translate_cache.proofs.cache.Cache.note.Goals as goal

left : (c : goal.After-put) → Noted c.args.self.now (c.args.space.0, c.args.vpn.0) c.args.pte (cached c.put.new.self)
left c = noted_left c.self.invariant c.self.view_is (c.args.space.0, c.args.vpn.0) c.args.pte c.put.result c.put.ensures.entries c.put.ensures.err c.put.ensures.succeeds

pub invariant_of-self : goal.invariant_of-self
invariant_of-self c = (left c).valid

pub returns-clause-noted : goal.returns-clause-noted
returns-clause-noted c = (left c).noted

pub returns-clause-known : goal.returns-clause-known
returns-clause-known c = (left c).known

pub returns-clause-first : goal.returns-clause-first
returns-clause-first c = (left c).first

pub returns-clause-here : goal.returns-clause-here
returns-clause-here c = (left c).here

pub returns-clause-others : goal.returns-clause-others
returns-clause-others c = (left c).others

pub returns-clause-valid : goal.returns-clause-valid
returns-clause-valid c = (left c).valid
