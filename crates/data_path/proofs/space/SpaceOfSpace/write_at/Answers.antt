use Rattle.std.proofs.Common.{ap}
use Rattle.data_path.specs.declared.store.PageStore.{PageStore}
use Rattle.data_path.specs.Spaces.{rest_of}
use Rattle.data_path.proofs.Offloads.{write_contents, other_pages}
use Rattle.data_path.proofs.space.SpaceOfSpace.write_at.Goals as goal

pub put-requires-clause-taken : goal.put-requires-clause-taken
put-requires-clause-taken c = c.requires.honest.whole.fit.taken.taken _ _ c.offload_frame-frame.ensures

pub returns-clause-contents : goal.returns-clause-contents
returns-clause-contents c =
    write_contents c.args.self.now.store.now c.put.new.self c.args.self.now.offload c.args.at c.args.bytes.now c.requires.honest c.requires.within c.put.ensures.rest
    (c.put.ensures.memory _ c.offload_frame-frame.ensures) c.put.ensures.whole

pub returns-clause-rest : goal.returns-clause-rest
returns-clause-rest c =
    let s = c.args.self.now.store.now in
    let t = c.put.new.self in
    let rest = c.put.ensures.rest in
    let others = other_pages s t c.args.self.now.offload c.args.at c.args.bytes.now c.requires.honest c.requires.within rest (c.put.ensures.memory _ c.offload_frame-frame.ensures) in
    λ i. record (rest_of c.args.self.now.offload c.args.self.now.store) {
      spaces = ap (λ (x : PageStore). x.spaces) rest i;
      table = ap (λ (x : PageStore). x.table) rest i;
      cache = ap (λ (x : PageStore). x.cache) rest i;
      pool = ap (λ (x : PageStore). x.pool) rest i;
      ranges = ap (λ (x : PageStore). x.ranges) rest i;
      others = others i;
    }
