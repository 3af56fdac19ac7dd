use Rattle.std.proofs.Common.{◌^◌}
use Rattle.texts.specs.Words.{hex_value, is_hex_digit}
use Rattle.schedule_text.proofs.DigitLemmas.{spelled_stop}
use Rattle.schedule_text.proofs.numbers.hexadecimal.Goals as goal

pub returns-in-None : goal.returns-in-None
returns-in-None c =
    spelled_stop is_hex_digit hex_value 16 (2 ^ 32) c.loop-b.n c.args.text.now c.loop-b.b-index c.loop-b-test.true c.loop-b.invariant c.in-None.ensures
