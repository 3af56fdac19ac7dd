use Rattle.std.proofs.Common.{◌≡◌, ◌+◌, ◌-◌, ◌≤◌, ◌++◌, length}
use Rattle.storm_gen.specs.declared.limits.TheConstants.{MOST_EVENTS}
use Rattle.storm_gen.specs.Generated.{deliveries}
use Rattle.storm_gen.proofs.settling.deliver.Given as goal

abbrev pub invariant-loop : goal.invariant-loop
invariant-loop l = record {
  events : l.lines ++ deliveries (l.count - l.counter) ≡ l.initial.lines ++ deliveries l.count;
  room : length l.lines + (l.count - l.counter) ≤ MOST_EVENTS;
}
