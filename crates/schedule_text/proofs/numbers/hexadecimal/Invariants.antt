use Rattle.std.proofs.Common.{◌≡◌, ◌^◌, take, Some}
use Rattle.texts.specs.Words.{hex_value, is_hex_digit}
use Rattle.schedule_text.specs.Digits.{spelled}
use Rattle.schedule_text.proofs.numbers.hexadecimal.Given as goal

abbrev pub invariant-loop-b : goal.invariant-loop-b
invariant-loop-b l = Some l.n ≡ spelled is_hex_digit hex_value 16 (2 ^ 32) (take l.b-index l.text)
