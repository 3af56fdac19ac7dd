use Rattle.std.proofs.Common.{◌∙◌, ap}
use Rattle.index_lists.specs.NodeLists.{has}
use Rattle.page_pool.specs.PoolPages.{PoolPages}
use Rattle.data_path.proofs.Framing.{not_dirty, ring_first}
use Rattle.data_path.proofs.Laying.{capacity_stays}
use Rattle.data_path.proofs.store.PageStore.take_frame.Goals as goal

pub returns-clause-capacity : goal.returns-clause-capacity
returns-clause-capacity g c =
    ap (λ (v : PoolPages). v.capacity) c.refill.ensures.moves ∙ capacity_stays c.take.new.self ∙ ap (λ (v : PoolPages). v.capacity) c.take.ensures.rest

pub returns-clause-zeros : goal.returns-clause-zeros
returns-clause-zeros g c =
    let s = c.args.self.now in
    c.refill.ensures.others c.in-Some.frame.0 (not_dirty c.take.new.self c.in-Some.frame.0 c.in-Some.ensures.taken.not_free)
    ∙ c.requires.zero c.in-Some.frame.0 (ring_first s.pool.ring s.pool.clean c.in-Some.frame.0 c.in-Some.ensures.page)

pub returns-clause-others : goal.returns-clause-others
returns-clause-others g c page isnt =
    let s = c.args.self.now in
    c.refill.ensures.others page (ap (λ (v : PoolPages). has v.dirty page) c.take.ensures.rest ∙ not_dirty s.pool page isnt)
