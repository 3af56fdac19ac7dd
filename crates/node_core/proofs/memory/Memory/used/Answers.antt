-- A page is taken or free.
use Rattle.std.proofs.Common.{ap}
use Rattle.node_core.specs.Keeping.{KeptMemory}
use Rattle.node_core.proofs.Memories.{used_seen}
use Rattle.node_core.proofs.memory.Memory.used.Goals as goal

pub returns : goal.returns
returns c = used_seen c.self.inside.store c.self.inside.host c.args.self.now.flat c.self.inside.pages c.free_count.result (ap (λ (m : KeptMemory). m.flat) c.self.view_is) c.self.invariant.store.whole c.self.invariant.count c.free_count.ensures.count
