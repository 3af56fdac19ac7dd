-- The digits of the sixteenth part, and then the last digit.
use Rattle.std.proofs.Common.{arith, append_assoc}
use Rattle.transcript_text.proofs.FrontLemmas.{front_none, front_next}
use Rattle.transcript_text.proofs.HexLemmas.{hex_digits_step}
use Rattle.transcript_text.proofs.numbers.+print_hex_number.Goals as goal

pub returns-clause-printed : goal.returns-clause-printed
returns-clause-printed t c = rw (hex_digits_step c.args.n (omega arith) (omega arith)) (grind (arith, append_assoc))

pub returns-clause-front : goal.returns-clause-front
returns-clause-front t c = rw (hex_digits_step c.args.n (omega arith) (omega arith)) (grind (arith, front_none, front_next))
