use Rattle.std.proofs.Common.{◌≡◌}
use Rattle.replay_command.specs.Replay.{After}
use Rattle.replay_command.proofs.replay.print_events.Given as goal

abbrev pub invariant-loop-number : goal.invariant-loop-number
invariant-loop-number g l =
    After l.schedule l.number-index l.world l.held (g.K.Sink.written l.fn.sink) (g.K.Sink.written l.sink)
    × ((g.K.Sink.faults l.sink).count ≡ (g.K.Sink.faults l.fn.sink).count)
