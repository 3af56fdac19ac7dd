-- The pieces that are left begin at the offset.
use Rattle.std.proofs.Common.{drop}
use Rattle.client_model.specs.Cut.{pieces}
use Rattle.call_cut.proofs.PieceLemmas.{HasCome}
use Rattle.call_cut.proofs.pieces.piece_at.Given as goal

abbrev pub invariant-loop-k : goal.invariant-loop-k
invariant-loop-k l = HasCome l.addr.0 l.bytes l.from (drop l._k (pieces l.addr.0 l.bytes))
