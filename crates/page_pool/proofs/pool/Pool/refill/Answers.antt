use Rattle.std.proofs.Common.{arith, ◌<◌, length, ap}
use Rattle.page_pool.specs.PoolPages.{PoolPages}
use Rattle.page_pool.proofs.Parts.{dirty_in_range}
use Rattle.page_pool.proofs.Zeros.{refill_zero}
use Rattle.page_pool.proofs.pool.Pool.refill.Goals as goal

pub zero-requires : goal.zero-requires
zero-requires c =
    let inside = dirty_in_range _ c.self.inside.lists c.pop_front.new.self c.self.inside.free c.in-Some-pop_front.page c.self.invariant c.pop_front.ensures.rest c.in-Some-pop_front.ensures.first in
    omega (arith, inside, c.requires.pages, ap (λ (w : PoolPages). w.pages) c.self.view_is)

pub returns-in-Some-pop_front-clause-zero : goal.returns-in-Some-pop_front-clause-zero
returns-in-Some-pop_front-clause-zero c =
    let inside = dirty_in_range _ c.self.inside.lists c.pop_front.new.self c.self.inside.free c.in-Some-pop_front.page c.self.invariant c.pop_front.ensures.rest c.in-Some-pop_front.ensures.first in
    let below : c.in-Some-pop_front.page < length c.args.arena.now = omega (arith, inside, c.requires.pages, ap (λ (w : PoolPages). w.pages) c.self.view_is) in
    let before = rw (← c.self.view_is) at c.requires.zero in
    λ p h. rw c.zero.ensures (refill_zero c.self.inside.ring _ c.self.inside.lists c.pop_front.new.self c.pop_front-in_default.new.self c.in-Some-pop_front.page c.args.arena.now _ c.push_back-in-Some-pop_front.ensures.items c.pop_front.ensures.rest c.pop_front-in_default.ensures.rest c.self.invariant.two below before p h)
