use Rattle.std.proofs.Common.{◌≡◌, ◌+◌, ◌-◌, ◌*◌, ◌≤◌, ◌++◌, length}
use Rattle.storm_gen.specs.declared.limits.TheConstants.{MOST_EVENTS}
use Rattle.storm_gen.specs.Generated.{settles}
use Rattle.storm_gen.proofs.settling.settle_all.Given as goal

abbrev pub invariant-loop : goal.invariant-loop
invariant-loop l = record {
  events : l.lines ++ settles (64 - l.counter) ≡ l.initial.lines ++ settles 64;
  room : length l.lines + 13 * (64 - l.counter) ≤ MOST_EVENTS;
}
