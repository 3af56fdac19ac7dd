use Rattle.std.proofs.Common.{ap}
use Rattle.retry_buffer.proofs.Noting.{oldest_held, oldest_free, sound-set, turned_is}
use Rattle.retry_buffer.proofs.retry.Retry.replace_oldest.Goals as goal

pub remove-requires : goal.remove-requires
remove-requires c = oldest_held c.self.invariant (rw (← c.self.view_is) at c.requires.full)

pub push_front-requires-clause-free : goal.push_front-requires-clause-free
push_front-requires-clause-free c = oldest_free c.self.invariant (rw (← c.self.view_is) at c.requires.full) c.remove.ensures.lists

pub invariant_of-self : goal.invariant_of-self
invariant_of-self c =
    rw c.place_after-self-inside.ensures (sound-set c.self.invariant (rw (← c.self.view_is) at c.requires.full) c.remove.ensures.lists
    c.args.noted c.chain_of-chain.result c.push_front.new.self (rw (← c.self.view_is) at c.requires.later) (rw (← c.self.view_is) at c.requires.apart)
    c.chain_of-chain.ensures.chain c.chain_of-chain.ensures.below c.push_front.ensures.lists c.push_front.ensures.valid)

pub returns-clause-noted : goal.returns-clause-noted
returns-clause-noted c =
    rw (← c.self.view_is, c.place_after-self-inside.ensures) (ap (λ rs. record { capacity = c.self.inside.capacity; records = rs })
    (turned_is c.self.invariant (rw (← c.self.view_is) at c.requires.full) c.args.noted))

pub returns-clause-valid : goal.returns-clause-valid
returns-clause-valid c = (invariant_of-self c).valid
