use Rattle.std.proofs.Common.{◌∙◌, ap}
use Rattle.index_lists.specs.NodeLists.{has}
use Rattle.data_path.proofs.Framing.{not_dirty}
use Rattle.data_path.proofs.store.PageStore.refill.Goals as goal

pub loop-i-preserved : goal.loop-i-preserved
loop-i-preserved c =
    let before = c.loop-i.invariant in
    record {
      rest = λ i. record (before.rest i) { pool = c.refill.new.self; arena = c.refill.new.arena };
      free = c.refill.ensures.free ∙ before.free;
      kept = c.refill.ensures.kept ∙ before.kept;
      arena = c.refill.ensures.pages ∙ before.arena;
      zero = c.refill.ensures.zero;
      taken = λ page isnt. c.refill.ensures.others page (not_dirty c.loop-i.self.pool page (ap (λ l. has l page) before.free ∙ isnt)) ∙ before.taken page isnt;
      ready = λ some. c.refill.ensures.ready;
    }
