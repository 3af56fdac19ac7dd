use Rattle.std.proofs.Common.{sym, ◌∙◌}
use Rattle.kv_offload.proofs.PlaceLemmas.{link_head, link_slot}
use Rattle.kv_offload.proofs.layout.link_place.Goals as goal

pub returns-then-node-lt-HEADS : goal.returns-then-node-lt-HEADS
returns-then-node-lt-HEADS c = sym (link_head c.args.node c.if-node-lt-HEADS.true)

pub returns-else-node-lt-HEADS : goal.returns-else-node-lt-HEADS
returns-else-node-lt-HEADS c = c.slot_place.ensures ∙ sym (link_slot c.args.node c.if-node-lt-HEADS.false)
