use Rattle.std.proofs.Common.{◌≡◌, take, true}
use Rattle.std.specs.List.{list_all}
use Rattle.texts.specs.Words.{is_hex_digit}
use Rattle.schedule_text.proofs.written.are_hex.Given as goal

abbrev pub invariant-loop-b : goal.invariant-loop-b
invariant-loop-b l = list_all is_hex_digit (take l.b-index l.text) ≡ true
