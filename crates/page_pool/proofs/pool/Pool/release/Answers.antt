use Rattle.std.proofs.Common.{arith}
use Rattle.page_pool.proofs.Parts.{IsFree-taken, free_fits, released_sound}
use Rattle.page_pool.proofs.pool.Pool.release.Goals as goal

pub push_back-requires-clause-free : goal.push_back-requires-clause-free
push_back-requires-clause-free c = IsFree-taken _ _ _ c.self.invariant _ c.self.view_is c.args.page.0 c.requires

pub overflow_add-self : goal.overflow_add-self
overflow_add-self c = omega (arith, free_fits _ _ _ c.self.invariant _ c.self.view_is)

pub invariant_of-self : goal.invariant_of-self
invariant_of-self c = released_sound _ _ _ c.self.invariant _ c.self.view_is c.args.page.0 _ c.requires c.push_back.ensures.lists

pub returns-clause-parted : goal.returns-clause-parted
returns-clause-parted c = (released_sound _ _ _ c.self.invariant _ c.self.view_is c.args.page.0 _ c.requires c.push_back.ensures.lists).parted
