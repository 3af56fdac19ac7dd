use Rattle.schedule_text.proofs.NumberLemmas.{number_in-good}
use Rattle.schedule_text.proofs.numbers.number.Goals as goal

pub returns-then-n-high-clause-value : goal.returns-then-n-high-clause-value
returns-then-n-high-clause-value c =
    number_in-good c.args.low c.args.high c.in_ok-n.n c.args.text.now c.ranges.high.fits c.if-not-begins_plainly.ensures c.in_ok-n.ensures c.if-low-n.true c.if-n-high.true
