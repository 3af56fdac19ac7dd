-- A reply has so few bytes that their number fits its type.
use Rattle.std.proofs.Common.{subst, arith}
use Rattle.cl_types.specs.Requests.{reply_of}
use Rattle.call_cut.specs.Taking.{TakesFor}
use Rattle.call_cut.proofs.Takings.{few_bytes}
use Rattle.call_cut.proofs.gather.kept.Goals as goal

pub overflow_cast-result : goal.overflow_cast-result
overflow_cast-result c =
    let fits = subst (λ r. TakesFor c.args.call.now c.args.i (reply_of r)) c.in-Got.is c.requires.fits in
    omega (arith, few_bytes c.args.call.now c.args.i c.in-Got.bytes.now c.requires.good fits)
