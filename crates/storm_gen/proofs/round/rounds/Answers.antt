use Rattle.std.proofs.Common.{◌+◌, ◌-◌, ◌*◌, ◌≡◌, ◌≤◌, ◌++◌, length, length-append, arith, ap, ◌∙◌}
use Rattle.rand_pcg.specs.Lcg.{Lcg}
use Rattle.storm_gen.specs.declared.limits.TheConstants.{MOST_EVENTS}
use Rattle.storm_gen.specs.Drawing.{Adds}
use Rattle.storm_gen.specs.Generated.{generator, round, rounds}
use Rattle.storm_gen.proofs.LineLemmas.{rest_after}
use Rattle.storm_gen.proofs.RoundLemmas.{length-round, rounds-more}
use Rattle.storm_gen.proofs.round.rounds.Goals as goal

pub loop-i-init : goal.loop-i-init
unfolding generator
loop-i-init c =
    let all : c.args.calls - 0 ≡ c.args.calls = omega arith in
    let room : length c.args.lines.now + 8 * c.args.calls ≤ MOST_EVENTS = c.requires.room in
    record {
      events = rw all (ap (λ (g : Lcg). c.args.lines.now ++ rounds 1 c.args.calls g) c.seed_from_u64-rng.ensures);
      room = rw all room;
    }

pub loop-i-preserved : goal.loop-i-preserved
loop-i-preserved c =
    let i = c.loop-i.i + 1 in
    let g = c.loop-i.rng in
    let left = c.args.calls - c.loop-i.i in
    let next = c.args.calls - (c.loop-i.i + 1) in
    let more : left ≡ next + 1 = omega arith in
    let added : Adds c.loop-i.lines (round i g) c.round.new.lines c.round.new.rng = c.in_ok-round.ensures in
    let few : length (round i g).0 ≤ 8 = length-round i g in
    let longer : length (c.loop-i.lines ++ (round i g).0) ≡ length c.loop-i.lines + length (round i g).0
    = length-append c.loop-i.lines (round i g).0 in
    let room : length c.loop-i.lines + 8 * left ≤ MOST_EVENTS = c.loop-i.invariant.room in
    let same : length c.round.new.lines ≡ length (c.loop-i.lines ++ (round i g).0) = ap length added.events in
    record {
      events = ap (λ (s : Lcg). c.round.new.lines ++ rounds (i + 1) next s) added.rest
          ∙ rest_after c.loop-i.lines c.round.new.lines (round i g).0 (rounds i left g) (rounds (i + 1) next (round i g).1) _
          added.events (rounds-more i left next g more) c.loop-i.invariant.events;
      room = omega arith;
    }
