use Rattle.kv_offload.proofs.StoreLemmas.{absent_deleted}
use Rattle.kv_offload.proofs.kv.Kv.delete.Goals as goal

pub returns-in_default-clause-given : goal.returns-in_default-clause-given
returns-in_default-clause-given g c = absent_deleted c.args.self.now.records (g.P.Space.contents c.args.space.now) c.args.key.now c.in_default.ensures.absent
