use Rattle.std.proofs.Common.{arith}
use Rattle.mv_offload.proofs.CallLemmas.{create_full, create_done}
use Rattle.mv_offload.proofs.EffectLemmas.{created}
use Rattle.mv_offload.proofs.mv.Mv.create.Goals as goal

pub returns-then-index-self-clause-given : goal.returns-then-index-self-clause-given
returns-then-index-self-clause-given g c = create_full (g.P.Space.contents c.args.space.now) c.args.self.now.objects c.args.self.now.versions (omega (arith, c.objects_held-index.ensures.number, c.if-index-self.true))

pub returns-clause-given : goal.returns-clause-given
returns-clause-given g c =
    let done = created c.objects_held-index.result (g.P.Space.contents c.args.space.now) _ _ _ c.requires.store c.objects_held-index.ensures.contents c.set_head.ensures.contents c.set_objects.ensures.contents c.objects_held-index.ensures.number c.if-index-self.false in
    create_done _ (g.P.Space.contents c.set_objects.new.space) c.args.self.now.objects c.args.self.now.versions c.objects_held-index.result c.objects_held-index.ensures.number c.if-index-self.false done.held

pub returns-clause-store : goal.returns-clause-store
returns-clause-store g c =
    let done = created c.objects_held-index.result (g.P.Space.contents c.args.space.now) _ _ _ c.requires.store c.objects_held-index.ensures.contents c.set_head.ensures.contents c.set_objects.ensures.contents c.objects_held-index.ensures.number c.if-index-self.false in
    done.store
