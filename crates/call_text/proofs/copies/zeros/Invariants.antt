use Rattle.std.proofs.Common.{◌≡◌}
use Rattle.cl_types.specs.Bytes.{zeros}
use Rattle.call_text.proofs.copies.zeros.Given as goal

abbrev pub invariant-loop : goal.invariant-loop
invariant-loop l = l.bytes ≡ zeros l.counter
