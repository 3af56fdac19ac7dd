use Rattle.std.proofs.Common.{◌≡◌, ◌+◌, ◌-◌, ◌*◌, ◌≤◌, ◌++◌, length}
use Rattle.storm_gen.specs.declared.limits.TheConstants.{MOST_EVENTS}
use Rattle.storm_gen.specs.Generated.{generator, rounds}
use Rattle.storm_gen.proofs.round.rounds.Given as goal

abbrev pub invariant-loop-i : goal.invariant-loop-i
invariant-loop-i l = record {
  events : l.lines ++ rounds (l.i + 1) (l.calls - l.i) l.rng ≡ l.initial.lines ++ rounds 1 l.calls (generator l.seed);
  room : length l.lines + 8 * (l.calls - l.i) ≤ MOST_EVENTS;
}
