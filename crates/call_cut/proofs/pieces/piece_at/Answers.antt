-- The first of the pieces that are left is the one that was asked for.
use Rattle.std.proofs.Common.{◌≡◌, arith}
use Rattle.client_model.specs.Cut.{pieces}
use Rattle.call_cut.proofs.PieceLemmas.{walk_step, walk_piece}
use Rattle.call_cut.proofs.pieces.piece_at.Goals as goal

pub loop-k-preserved : goal.loop-k-preserved
loop-k-preserved c = walk_step (pieces c.args.addr.0 c.args.bytes) c.loop-k._k _ c.loop-k.invariant (omega arith) c.piece_len-from.ensures

pub returns-clause-piece : goal.returns-clause-piece
returns-clause-piece c =
    let last : c.args.i ≡ c.loop-k._k = omega arith in
    rw last (walk_piece (pieces c.args.addr.0 c.args.bytes) c.loop-k._k _ c.loop-k.invariant (omega arith) c.piece_len.ensures)
