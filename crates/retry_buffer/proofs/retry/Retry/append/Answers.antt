use Rattle.std.proofs.Common.{rules, ◌≡◌, ◌≤◌, ◌++◌, ◌∷◌, [], length, vec_capacity}
use Rattle.retry_buffer.proofs.Noting.{sound-push}
use Rattle.retry_buffer.proofs.retry.Retry.append.Goals as goal

pub invariant_of-self : goal.invariant_of-self
invariant_of-self c =
    let place : c.len-unfilled.result ≡ length c.self.inside.slots.items = search rules in
    let added : c.push.new.self.items ≡ c.self.inside.slots.items ++ c.args.noted ∷ [] = search rules in
    let reserved : c.self.inside.capacity ≤ vec_capacity c.push.new.self = search rules in
    sound-push c.self.invariant c.args.noted _ c.chain_of-chain.result _ _ c.push_front.new.self
    (rw (← c.self.view_is) at c.requires.space) (rw (← c.self.view_is) at c.requires.later) (rw (← c.self.view_is) at c.requires.apart)
    reserved c.chain_of-chain.ensures.chain c.chain_of-chain.ensures.below place c.push_front.ensures.lists c.push_front.ensures.valid added

pub returns-clause-valid : goal.returns-clause-valid
returns-clause-valid c = (invariant_of-self c).valid
