use Rattle.std.proofs.Common.{◌≡◌, replicate}
use Rattle.std.specs.List.{concat}
use Rattle.call_text.proofs.copies.expand.Given as goal

abbrev pub invariant-loop : goal.invariant-loop
invariant-loop l = l.bytes ≡ concat (replicate l.counter l.written.bytes)
