use Rattle.std.proofs.Common.{◌≡◌, length}
use Rattle.page_pool.specs.PoolPages.{IsReady}
use Rattle.data_path.specs.Exiting.{exited}
use Rattle.data_path.specs.Store.{memory_of, IsWhole}
use Rattle.data_path.proofs.store.PageStore.exit_space.Given as goal

-- an Exit leaves what it leaves, whichever ranges of the process have left already
abbrev pub invariant-loop-first : goal.invariant-loop-first
invariant-loop-first l = record {
  memory : exited (memory_of l.self) l.space.0 ≡ exited (memory_of l.fn.self) l.space.0;
  whole : IsWhole l.self;
  ready : IsReady l.self.pool;
  spaces : l.self.spaces ≡ l.fn.self.spaces;
}

abbrev pub decreases-loop-first : goal.decreases-loop-first
decreases-loop-first l = length (memory_of l.self).ranges
