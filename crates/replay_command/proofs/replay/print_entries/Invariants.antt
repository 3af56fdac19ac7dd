use Rattle.std.proofs.Common.{◌≡◌, ◌++◌, take}
use Rattle.std.specs.Prelude.{flat_map}
use Rattle.texts.specs.Texts.{entry_text}
use Rattle.replay_command.specs.Gathered.{Gathered}
use Rattle.replay_command.proofs.replay.print_entries.Given as goal

abbrev pub invariant-loop-entry : goal.invariant-loop-entry
invariant-loop-entry g l =
    Gathered (l.fn.held ++ flat_map entry_text (take l.entry-index l.history)) l.held (g.K.Sink.written l.fn.sink) (g.K.Sink.written l.sink)
    × ((g.K.Sink.faults l.sink).count ≡ (g.K.Sink.faults l.fn.sink).count)
