use Rattle.std.proofs.Common.{◌≡◌, arith, ◌∙◌}
use Rattle.kv_offload.specs.Layout.{count_of}
use Rattle.kv_offload.proofs.HeadLemmas.{key_some}
use Rattle.kv_offload.proofs.StoreLemmas.{Deletes, removed_store, removed_given, removed_count, found_counted, counted_below}
use Rattle.kv_offload.proofs.kv.Kv.remove.Goals as goal

pub overflow_sub-count : goal.overflow_sub-count
overflow_sub-count g c =
    let some = key_some c.args.key.now c.requires.some in
    let kept : c.counted-count.result ≡ count_of (g.P.Space.contents c.args.space.now) =
    c.counted-count.ensures.count ∙ removed_count c.requires.found c.link-first_free.result (g.P.Space.contents c.link-first_free.new.space) (g.P.Space.contents c.set_link.new.space) (g.P.Space.contents c.clear.new.space)
    (g.P.Space.contents c.set_link-2.new.space) c.link-first_free.ensures.contents c.set_link.ensures.says c.clear.ensures.says c.set_link-2.ensures.says in
    let one = found_counted c.requires.found c.requires.store some in omega (arith, kept, one)

pub set_count-requires-clause-count : goal.set_count-requires-clause-count
set_count-requires-clause-count g c =
    let some = key_some c.args.key.now c.requires.some in
    let kept : c.counted-count.result ≡ count_of (g.P.Space.contents c.args.space.now) =
    c.counted-count.ensures.count ∙ removed_count c.requires.found c.link-first_free.result (g.P.Space.contents c.link-first_free.new.space) (g.P.Space.contents c.set_link.new.space) (g.P.Space.contents c.clear.new.space)
    (g.P.Space.contents c.set_link-2.new.space) c.link-first_free.ensures.contents c.set_link.ensures.says c.clear.ensures.says c.set_link-2.ensures.says in
    let low = counted_below c.requires.store in omega (arith, kept, low)

pub returns-clause-given : goal.returns-clause-given
returns-clause-given g c =
    let some = key_some c.args.key.now c.requires.some in
    let deletes : Deletes c.args.self.now.records (g.P.Space.contents c.args.space.now) (g.P.Space.contents c.set_count.new.space) c.args.key.now =
    removed_store c.requires.found c.link-first_free.result c.counted-count.result
    (g.P.Space.contents c.link-first_free.new.space) (g.P.Space.contents c.set_link.new.space) (g.P.Space.contents c.clear.new.space)
    (g.P.Space.contents c.set_link-2.new.space) (g.P.Space.contents c.counted-count.new.space) (g.P.Space.contents c.set_count.new.space) c.requires.store some
    c.link-first_free.ensures.contents c.set_link.ensures.says c.clear.ensures.says c.set_link-2.ensures.says c.counted-count.ensures.contents c.set_count.ensures.says
    c.link-first_free.ensures.link c.counted-count.ensures.count c.set_count.ensures.pages in
    removed_given c.requires.found (g.P.Space.contents c.set_count.new.space) c.requires.store some deletes

pub returns-clause-store : goal.returns-clause-store
returns-clause-store g c =
    let some = key_some c.args.key.now c.requires.some in
    let deletes : Deletes c.args.self.now.records (g.P.Space.contents c.args.space.now) (g.P.Space.contents c.set_count.new.space) c.args.key.now =
    removed_store c.requires.found c.link-first_free.result c.counted-count.result
    (g.P.Space.contents c.link-first_free.new.space) (g.P.Space.contents c.set_link.new.space) (g.P.Space.contents c.clear.new.space)
    (g.P.Space.contents c.set_link-2.new.space) (g.P.Space.contents c.counted-count.new.space) (g.P.Space.contents c.set_count.new.space) c.requires.store some
    c.link-first_free.ensures.contents c.set_link.ensures.says c.clear.ensures.says c.set_link-2.ensures.says c.counted-count.ensures.contents c.set_count.ensures.says
    c.link-first_free.ensures.link c.counted-count.ensures.count c.set_count.ensures.pages in
    deletes.store
