use Rattle.std.proofs.Common.{◌≡◌, rules}
use Rattle.flat_model.specs.Objects.{kv_step}
use Rattle.kv_offload.specs.Stored.{answered, given_by, object_in, pairs_in}
use Rattle.offload_host.proofs.ShortLemmas.{odd_is_silent, silent_is_short}
use Rattle.offload_host.proofs.store.step.Goals as goal

pub returns-in-Some-clause-short : goal.returns-in-Some-clause-short
returns-in-Some-clause-short g c odd =
    let object = object_in c.args.kv.records (g.P.Space.contents c.operate.new.space) in
    let pairs = pairs_in c.args.kv.records (g.P.Space.contents c.args.space.now) in
    let given : given_by c.operate.result (answered c.operate.result c.operate.new.out) object
    ≡ kv_step c.args.kv.records pairs c.args.op c.args.bytes.now = search rules in
    silent_is_short c.operate.result c.operate.new.out object (kv_step c.args.kv.records pairs c.args.op c.args.bytes.now)
    c.operate.array_long c.operate.ensures.within given
    (odd_is_silent c.args.kv.records pairs c.args.op c.args.bytes.now odd)
