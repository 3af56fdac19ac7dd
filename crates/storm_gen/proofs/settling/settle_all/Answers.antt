use Rattle.std.proofs.Common.{◌+◌, ◌-◌, ◌≡◌, ◌++◌, length, length-append, arith, ap, sym, ◌∙◌}
use Rattle.std.proofs.lemmas.List.{append-nil}
use Rattle.storm_gen.specs.Generated.{settle, settles}
use Rattle.storm_gen.proofs.LineLemmas.{rest_after}
use Rattle.storm_gen.proofs.SettlingLemmas.{length-settle, no_settles, settles-more}
use Rattle.storm_gen.proofs.settling.settle_all.Goals as goal

pub loop-preserved : goal.loop-preserved
loop-preserved c =
    let left = 64 - c.loop.counter in
    let next = 64 - (c.loop.counter + 1) in
    let more : left ≡ next + 1 = omega arith in
    let longer : length (c.loop.lines ++ settle) ≡ length c.loop.lines + length settle
    = length-append c.loop.lines settle in
    let thirteen : length settle ≡ 13 = length-settle in
    record {
      events = rest_after c.loop.lines c.settle.new.lines settle (settles left) (settles next) _
          c.in_ok-settle.ensures (settles-more left next more) c.loop.invariant.events;
      room = rw c.in_ok-settle.ensures (omega arith);
    }

pub returns : goal.returns
returns c =
    let done : 64 - c.loop.counter ≡ 0 = omega arith in
    sym (append-nil c.loop.lines)
    ∙ ap (λ rest. c.loop.lines ++ rest) (sym no_settles ∙ ap settles (sym done))
    ∙ c.loop.invariant.events
