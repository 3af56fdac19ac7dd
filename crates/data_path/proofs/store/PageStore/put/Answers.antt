use Rattle.std.proofs.Common.{◌≡◌, IfSome, sym, subst}
use Rattle.cl_types.specs.Bytes.{with_bytes}
use Rattle.flat_model.specs.State.{page_at, bytes_of}
use Rattle.flat_model.specs.Step.{written}
use Rattle.data_path.specs.declared.store.PageStore.{PageStore}
use Rattle.data_path.specs.Store.{memory_of, IsWhole}
use Rattle.data_path.proofs.Framing.{wrote_named, whole_wrote}
use Rattle.data_path.proofs.store.PageStore.put.Goals as goal

pub returns-clause-memory : goal.returns-clause-memory
returns-clause-memory c place named =
    subst (λ (new : PageStore). IfSome (page_at (memory_of c.args.self.now) place.0 place.1) (λ page. memory_of new ≡ written (memory_of c.args.self.now) place.0 place.1 page (with_bytes c.args.at c.args.bytes.now (bytes_of page))))
    (sym c.set_bytes.ensures.bytes) (wrote_named c.args.self.now c.args.frame c.args.at c.args.bytes.now place c.requires.whole.fit named)

pub returns-clause-whole : goal.returns-clause-whole
returns-clause-whole c =
    subst IsWhole (sym c.set_bytes.ensures.bytes) (whole_wrote c.args.self.now c.args.frame c.args.at c.args.bytes.now c.requires.whole c.requires.taken c.set_bytes.ensures.size c.requires.within)
