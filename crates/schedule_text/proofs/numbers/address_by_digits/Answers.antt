use Rattle.std.proofs.Common.{◌≤◌, length, arith, ◌∙◌}
use Rattle.schedule_text.proofs.NumberLemmas.{address_bad, address_good}
use Rattle.schedule_text.proofs.numbers.address_by_digits.Goals as goal

pub returns-in_err-hexadecimal : goal.returns-in_err-hexadecimal
returns-in_err-hexadecimal c =
    let digits = c.args.digits.now in
    let short : length digits ≤ 8 = omega arith in
    c.from_residual.ensures ∙ address_bad digits c.if-not-begins_plainly.ensures short c.in_err-hexadecimal.ensures

pub returns : goal.returns
returns c =
    let digits = c.args.digits.now in
    let short : length digits ≤ 8 = omega arith in
    address_good c.in_ok-hexadecimal.field-0 digits c.if-not-begins_plainly.ensures short c.in_ok-hexadecimal.ensures
