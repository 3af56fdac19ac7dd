use Rattle.std.proofs.lemmas.Result.{on_ok_weaker}
use Rattle.storm_gen.proofs.RoundLemmas.{round_by_parts}
use Rattle.storm_gen.proofs.round.round.Goals as goal

pub returns : goal.returns
returns c =
    on_ok_weaker c.tick.result
    (round_by_parts c.args.i c.args.rng.now c.call_and_polls.new.rng c.frames.new.rng c.repeat.new.rng c.tick.new.rng
    c.args.lines.now c.call_and_polls.new.lines c.frames.new.lines c.repeat.new.lines c.tick.new.lines
    c.in_ok-call_and_polls.ensures c.in_ok-frames.ensures c.in_ok-repeat.ensures)
    c.tick.ensures
