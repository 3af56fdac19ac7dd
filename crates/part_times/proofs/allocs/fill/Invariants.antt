use Rattle.data_path.specs.Store.{IsWhole}
use Rattle.page_pool.specs.PoolPages.{IsReady}
use Rattle.part_times.proofs.allocs.fill.Given as goal

-- the store is whole and ready at each turn
abbrev pub invariant-loop : goal.invariant-loop
invariant-loop l = IsWhole l.store × IsReady l.store.pool
