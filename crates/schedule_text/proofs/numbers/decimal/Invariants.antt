use Rattle.std.proofs.Common.{◌≡◌, ◌-◌, ◌^◌, take, Some}
use Rattle.texts.specs.Words.{is_digit}
use Rattle.schedule_text.specs.Digits.{spelled}
use Rattle.schedule_text.proofs.numbers.decimal.Given as goal

abbrev pub invariant-loop-b : goal.invariant-loop-b
invariant-loop-b l = Some l.n ≡ spelled is_digit (λ b. b - 48) 10 (2 ^ 64) (take l.b-index l.text)
