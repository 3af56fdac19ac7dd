use Rattle.std.proofs.Common.{ℕ, List, ap, ◌∙◌}
use Rattle.kv_offload.specs.Layout.{link_of}
use Rattle.kv_offload.proofs.HeadLemmas.{key_some}
use Rattle.kv_offload.proofs.StoreLemmas.{Puts, replaced_store, replaced_given, full_given}
use Rattle.kv_offload.proofs.kv.Kv.put.Goals as goal

pub returns-in-Some-clause-given : goal.returns-in-Some-clause-given
returns-in-Some-clause-given g c =
    let some = key_some c.args.key.now c.requires.some in
    let puts : Puts c.args.self.now.records (g.P.Space.contents c.args.space.now) (g.P.Space.contents c.fill.new.space) c.args.key.now c.args.value.now =
    replaced_store c.in-Some.ensures.found c.args.value.now (g.P.Space.contents c.find.new.space) (g.P.Space.contents c.fill.new.space) c.requires.store some c.requires.value
    c.in-Some.ensures.contents c.fill.ensures.says c.fill.ensures.pages in
    replaced_given c.in-Some.ensures.found (g.P.Space.contents c.fill.new.space) c.args.value.now c.requires.store some puts

pub returns-in-Some-clause-store : goal.returns-in-Some-clause-store
returns-in-Some-clause-store g c =
    let some = key_some c.args.key.now c.requires.some in
    let puts : Puts c.args.self.now.records (g.P.Space.contents c.args.space.now) (g.P.Space.contents c.fill.new.space) c.args.key.now c.args.value.now =
    replaced_store c.in-Some.ensures.found c.args.value.now (g.P.Space.contents c.find.new.space) (g.P.Space.contents c.fill.new.space) c.requires.store some c.requires.value
    c.in-Some.ensures.contents c.fill.ensures.says c.fill.ensures.pages in
    puts.store

pub returns-then-node-eq-FREE-clause-given : goal.returns-then-node-eq-FREE-clause-given
returns-then-node-eq-FREE-clause-given g c =
    full_given c.args.self.now.records c.link-node.result (g.P.Space.contents c.args.space.now) c.args.key.now c.args.value.now c.requires.store
    (c.link-node.ensures.link ∙ ap (λ (bytes : List ℕ). link_of bytes 0) c.in_default.ensures.contents) c.if-node-eq-FREE.true c.in_default.ensures.absent
