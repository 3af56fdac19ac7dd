-- The status and the value stand behind the header.
use Rattle.std.proofs.Common.{◌<◌, length, arith}
use Rattle.node_core.proofs.Smalls.{small_of_frame}
use Rattle.node_core.proofs.placed.small_in.Goals as goal

pub returns : goal.returns
returns c =
    let long : 26 < length c.args.frame.now = omega arith in
    small_of_frame c.create.result.status _ c.args.frame.now long c.create.ensures.status c.create.ensures.value
