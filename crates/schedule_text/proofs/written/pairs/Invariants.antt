use Rattle.std.proofs.Common.{◌≡◌, ◌++◌, length, true}
use Rattle.std.specs.List.{list_all}
use Rattle.texts.specs.Words.{bytes_of_pairs, is_hex_digit}
use Rattle.schedule_text.proofs.written.pairs.Given as goal

abbrev pub invariant-loop-rest : goal.invariant-loop-rest
invariant-loop-rest l = record {
  spelled : bytes_of_pairs l.digits ≡ l.bytes ++ bytes_of_pairs l.rest;
  good : list_all is_hex_digit l.rest ≡ true;
}

abbrev pub decreases-loop-rest : goal.decreases-loop-rest
decreases-loop-rest l = length l.rest
