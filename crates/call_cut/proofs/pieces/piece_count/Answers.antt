-- Each turn counts one more piece, and there are few.
use Rattle.std.proofs.Common.{arith}
use Rattle.call_cut.proofs.PieceLemmas.{count_few, count_step}
use Rattle.call_cut.proofs.pieces.piece_count.Goals as goal

pub overflow_add-count : goal.overflow_add-count
overflow_add-count c = omega (arith, count_few c.loop-from.invariant c.requires.few)

pub loop-from-preserved : goal.loop-from-preserved
loop-from-preserved c = count_step c.loop-from.invariant _ c.piece_len-from.ensures c.loop-from-test.true

pub returns-clause-few : goal.returns-clause-few
returns-clause-few c = count_few c.loop-from.invariant c.requires.few
