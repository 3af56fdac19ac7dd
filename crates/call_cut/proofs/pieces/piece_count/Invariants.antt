-- The pieces up to the offset are counted.
use Rattle.std.proofs.Common.{◌-◌}
use Rattle.call_cut.proofs.PieceLemmas.{Counts}
use Rattle.call_cut.proofs.pieces.piece_count.Given as goal

abbrev pub invariant-loop-from : goal.invariant-loop-from
invariant-loop-from l = Counts l.addr.0 l.bytes l.from l.count

abbrev pub decreases-loop-from : goal.decreases-loop-from
decreases-loop-from l = l.bytes - l.from
