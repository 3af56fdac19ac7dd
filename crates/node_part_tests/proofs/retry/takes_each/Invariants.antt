-- All replies were noted at moment 0.
use Rattle.retry_buffer.specs.Kept.{AreNotedBy}
use Rattle.node_part_tests.proofs.retry.takes_each.Given as goal

abbrev pub invariant-loop-orig : goal.invariant-loop-orig
invariant-loop-orig l = AreNotedBy 0 l.retry.records
