use Rattle.std.proofs.Common.{◌≡◌, replicate}
use Rattle.std.specs.List.{concat}
use Rattle.schedule_text.proofs.written.expand.Given as goal

abbrev pub invariant-loop-time : goal.invariant-loop-time
invariant-loop-time l = l.bytes ≡ concat (replicate l.time l.written.bytes)
