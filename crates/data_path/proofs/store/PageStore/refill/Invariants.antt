use Rattle.std.proofs.Common.{◌≡◌, ◌<◌, ◌++◌, ℕ, length, false}
use Rattle.index_lists.specs.NodeLists.{has}
use Rattle.page_arena.specs.Arena.{page_at}
use Rattle.page_pool.specs.PoolPages.{free_list, AreZero, IsReady}
use Rattle.data_path.specs.declared.store.PageStore.{PageStore}
use Rattle.data_path.proofs.store.PageStore.refill.Given as goal

-- the same pages are free, and their bytes alone may change
abbrev pub invariant-loop-i : goal.invariant-loop-i
invariant-loop-i l = record {
  rest : l.self ≡ (let s : PageStore = record l.fn.self { pool = l.self.pool; arena = l.self.arena } in s);
  free : free_list l.self.pool ≡ free_list l.fn.self.pool;
  kept : l.self.pool.pages ≡ l.fn.self.pool.pages;
  arena : length l.self.arena ≡ length l.fn.self.arena;
  zero : AreZero l.self.arena (l.self.pool.ring ++ l.self.pool.clean);
  taken : (page : ℕ) → has (free_list l.fn.self.pool) page ≡ false → page_at l.self.arena page ≡ page_at l.fn.self.arena page;
  ready : 0 < l._i → IsReady l.self.pool;
}
