use Rattle.std.proofs.Common.{◌≡◌, take}
use Rattle.flat_model.specs.Run.{IsRunFrom, after}
use Rattle.history_check.proofs.history.check_entries.Given as goal

abbrev pub invariant-loop-entry : goal.invariant-loop-entry
invariant-loop-entry l = record {
  count : l.number ≡ l.entry-index;
  state : l.flat ≡ after l.initial.flat (take l.entry-index l.entries);
  run : IsRunFrom l.initial.flat (take l.entry-index l.entries);
}
