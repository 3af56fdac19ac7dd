-- The place behind the number is the frame's, and its piece of the bytes is the frame's bytes.
use Rattle.std.proofs.Common.{arith}
use Rattle.link_sim.proofs.Frames.{found_expired, found_live}
use Rattle.link_sim.proofs.Link.get.Goals as goal

pub returns-then-saturating_sub-ge-LIFE : goal.returns-then-saturating_sub-ge-LIFE
returns-then-saturating_sub-ge-LIFE c =
    found_expired _ _ _ _ c.self.view_is _ _ _ (omega arith) (omega arith) c.index-at.ensures (omega arith)

pub returns : goal.returns
returns c = rw c.deref.ensures.value (found_live _ _ _ _ c.self.view_is _ _ _ (omega arith) (omega arith) c.index-at.ensures (omega arith))
