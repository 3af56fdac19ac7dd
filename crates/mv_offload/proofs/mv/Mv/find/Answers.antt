use Rattle.std.proofs.Common.{arith}
use Rattle.mv_offload.proofs.CallLemmas.{absent, past}
use Rattle.mv_offload.proofs.mv.Mv.find.Goals as goal
use Rattle.mv_offload.proofs.mv.Mv.find.Goals.{then-object-eq0-via-then-object-eq0, then-object-eq0-via-else-object-eq0+then-object-objects_held}

pub returns-then-object-eq0-clause-absent : goal.returns-then-object-eq0-clause-absent
returns-then-object-eq0-clause-absent g c = elim c.then-object-eq0.branch [
  | then-object-eq0-via-then-object-eq0 w ↦ absent (g.P.Space.contents c.args.space.now) c.args.object w.if-object-eq0.true
  | then-object-eq0-via-else-object-eq0+then-object-objects_held w ↦ past (g.P.Space.contents c.args.space.now) c.args.object (omega (arith, w.if-object-objects_held.true, w.objects_held.ensures.number))
]
