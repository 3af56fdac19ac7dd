use Rattle.std.proofs.Common.{arith}
use Rattle.flat_model.specs.contracts.flat.Flat.{the_view}
use Rattle.flat_model.proofs.ObjectLemmas.{checks_from_one}
use Rattle.flat_model.proofs.flat.Flat.check_offload.Goals as goal

pub returns-clause-checks : goal.returns-clause-checks
returns-clause-checks c =
    checks_from_one (the_view c.self.inside) c.args.number c.args.op c.args.out c.args.bytes.now c.args.reply.now c.check_one.new.objects.items
    c.args.self.now c.self.view_is (omega arith) c.check_one.result c.check_one.ensures.checks
