use Rattle.std.proofs.Common.{ℕ, List, ◌≡◌, ap, arith, ◌∙◌}
use Rattle.kv_offload.specs.Layout.{count_of, link_of}
use Rattle.kv_offload.proofs.HeadLemmas.{key_some}
use Rattle.kv_offload.proofs.SoundLemmas.{free_home}
use Rattle.kv_offload.proofs.StoreLemmas.{Puts, added_store, added_given, counted_below, added_count}
use Rattle.kv_offload.proofs.kv.Kv.add.Goals as goal

pub link-next_free-requires-clause-node : goal.link-next_free-requires-clause-node
link-next_free-requires-clause-node g c =
    let home = free_home c.requires.store.sound c.args.node c.requires.free c.requires.held in
    home.below

pub overflow_sub-node : goal.overflow_sub-node
overflow_sub-node g c =
    let home = free_home c.requires.store.sound c.args.node c.requires.free c.requires.held in
    home.above

pub fill-requires-clause-slot : goal.fill-requires-clause-slot
fill-requires-clause-slot g c =
    let home = free_home c.requires.store.sound c.args.node c.requires.free c.requires.held in
    omega (arith, home.above, home.below)

pub set_link-requires-2-clause-to : goal.set_link-requires-2-clause-to
set_link-requires-2-clause-to g c =
    let home = free_home c.requires.store.sound c.args.node c.requires.free c.requires.held in
    let few = c.requires.store.pages.few in omega (arith, few, home.below)

pub overflow_add-count : goal.overflow_add-count
overflow_add-count g c =
    let kept : c.counted-count.result ≡ count_of (g.P.Space.contents c.args.space.now) =
    c.counted-count.ensures.count ∙ added_count c.args.self.now.records c.args.node c.head_of-head.result c.link-next_free.result c.link-first.result c.args.key.now c.args.value.now
    (g.P.Space.contents c.args.space.now) (g.P.Space.contents c.link-first.new.space) (g.P.Space.contents c.set_link.new.space) (g.P.Space.contents c.fill.new.space) (g.P.Space.contents c.set_link-2.new.space)
    (c.link-first.ensures.contents ∙ c.link-next_free.ensures.contents) c.set_link.ensures.says c.fill.ensures.says c.set_link-2.ensures.says in
    let low = counted_below c.requires.store in omega (arith, kept, low)

pub set_count-requires-clause-count : goal.set_count-requires-clause-count
set_count-requires-clause-count g c =
    let kept : c.counted-count.result ≡ count_of (g.P.Space.contents c.args.space.now) =
    c.counted-count.ensures.count ∙ added_count c.args.self.now.records c.args.node c.head_of-head.result c.link-next_free.result c.link-first.result c.args.key.now c.args.value.now
    (g.P.Space.contents c.args.space.now) (g.P.Space.contents c.link-first.new.space) (g.P.Space.contents c.set_link.new.space) (g.P.Space.contents c.fill.new.space) (g.P.Space.contents c.set_link-2.new.space)
    (c.link-first.ensures.contents ∙ c.link-next_free.ensures.contents) c.set_link.ensures.says c.fill.ensures.says c.set_link-2.ensures.says in
    let low = counted_below c.requires.store in omega (arith, kept, low)

pub returns-clause-given : goal.returns-clause-given
returns-clause-given g c =
    let some = key_some c.args.key.now c.requires.some in
    let puts : Puts c.args.self.now.records (g.P.Space.contents c.args.space.now) (g.P.Space.contents c.set_count.new.space) c.args.key.now c.args.value.now =
    added_store c.args.self.now.records c.args.node c.head_of-head.result c.link-next_free.result c.link-first.result c.counted-count.result c.args.key.now c.args.value.now
    (g.P.Space.contents c.args.space.now) (g.P.Space.contents c.link-first.new.space) (g.P.Space.contents c.set_link.new.space) (g.P.Space.contents c.fill.new.space)
    (g.P.Space.contents c.set_link-2.new.space) (g.P.Space.contents c.counted-count.new.space) (g.P.Space.contents c.set_count.new.space) c.requires.store
    (c.link-first.ensures.contents ∙ c.link-next_free.ensures.contents) c.set_link.ensures.says c.fill.ensures.says c.set_link-2.ensures.says c.counted-count.ensures.contents c.set_count.ensures.says
    c.head_of-head.ensures.head c.requires.free c.requires.held c.link-next_free.ensures.link
    (c.link-first.ensures.link ∙ ap (λ (bytes : List ℕ). link_of bytes c.head_of-head.result) c.link-next_free.ensures.contents)
    c.counted-count.ensures.count some c.requires.value c.requires.absent c.set_count.ensures.pages in
    added_given c.args.self.now.records c.args.node (g.P.Space.contents c.args.space.now) (g.P.Space.contents c.set_count.new.space) c.args.key.now c.args.value.now c.requires.store c.requires.free c.requires.held c.requires.absent puts

pub returns-clause-store : goal.returns-clause-store
returns-clause-store g c =
    let some = key_some c.args.key.now c.requires.some in
    let puts : Puts c.args.self.now.records (g.P.Space.contents c.args.space.now) (g.P.Space.contents c.set_count.new.space) c.args.key.now c.args.value.now =
    added_store c.args.self.now.records c.args.node c.head_of-head.result c.link-next_free.result c.link-first.result c.counted-count.result c.args.key.now c.args.value.now
    (g.P.Space.contents c.args.space.now) (g.P.Space.contents c.link-first.new.space) (g.P.Space.contents c.set_link.new.space) (g.P.Space.contents c.fill.new.space)
    (g.P.Space.contents c.set_link-2.new.space) (g.P.Space.contents c.counted-count.new.space) (g.P.Space.contents c.set_count.new.space) c.requires.store
    (c.link-first.ensures.contents ∙ c.link-next_free.ensures.contents) c.set_link.ensures.says c.fill.ensures.says c.set_link-2.ensures.says c.counted-count.ensures.contents c.set_count.ensures.says
    c.head_of-head.ensures.head c.requires.free c.requires.held c.link-next_free.ensures.link
    (c.link-first.ensures.link ∙ ap (λ (bytes : List ℕ). link_of bytes c.head_of-head.result) c.link-next_free.ensures.contents)
    c.counted-count.ensures.count some c.requires.value c.requires.absent c.set_count.ensures.pages in
    puts.store
