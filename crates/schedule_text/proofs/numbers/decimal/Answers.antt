use Rattle.std.proofs.Common.{◌-◌, ◌^◌}
use Rattle.texts.specs.Words.{is_digit}
use Rattle.schedule_text.proofs.DigitLemmas.{spelled_stop}
use Rattle.schedule_text.proofs.numbers.decimal.Goals as goal

pub returns-in-None : goal.returns-in-None
returns-in-None c =
    spelled_stop is_digit (λ b. b - 48) 10 (2 ^ 64) c.loop-b.n c.args.text.now c.loop-b.b-index c.loop-b-test.true c.loop-b.invariant c.in-None.ensures
