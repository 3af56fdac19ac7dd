-- The memory means what its store and its offloads do.
use Rattle.std.proofs.Common.{ap}
use Rattle.node_core.specs.Keeping.{KeptMemory}
use Rattle.node_core.proofs.Memories.{objects_seen, store_seen}
use Rattle.node_core.proofs.memory.Memory.store.Goals as goal

pub returns-clause-memory : goal.returns-clause-memory
returns-clause-memory c = store_seen c.self.inside.store c.self.inside.host c.args.self.now.flat (ap (λ (m : KeptMemory). m.flat) c.self.view_is)

pub returns-clause-objects : goal.returns-clause-objects
returns-clause-objects c = objects_seen c.self.inside.store c.self.inside.host c.args.self.now.flat (ap (λ (m : KeptMemory). m.flat) c.self.view_is)
