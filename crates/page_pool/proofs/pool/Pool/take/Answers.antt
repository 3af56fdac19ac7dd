use Rattle.std.proofs.Common.{sym, refl}
use Rattle.page_pool.proofs.Parts.{take_sound, took}
use Rattle.page_pool.proofs.pool.Pool.take.Goals as goal

pub invariant_of-self-2 : goal.invariant_of-self-2
invariant_of-self-2 g c = take_sound _ _ _ c.self.invariant _ c.self.view_is _ _ c.in_ok-page.ensures.value c.pop_front.ensures.items

pub returns-clause-taken : goal.returns-clause-taken
returns-clause-taken g c = took _ _ c.in_ok-page.page c.self.invariant.parted refl (sym c.in_ok-page.ensures.value) (rw c.pop_front.ensures.items refl)

pub returns-clause-parted : goal.returns-clause-parted
returns-clause-parted g c = (take_sound _ _ _ c.self.invariant _ c.self.view_is _ _ c.in_ok-page.ensures.value c.pop_front.ensures.items).parted
