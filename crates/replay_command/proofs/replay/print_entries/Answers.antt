use Rattle.std.proofs.Common.{◌∙◌}
use Rattle.texts.specs.Texts.{entry_text}
use Rattle.replay_command.proofs.GatherLemmas.{at_err, entries_front, entries_more}
use Rattle.replay_command.proofs.replay.print_entries.Goals as goal

pub returns-in_err-print_one-clause-front : goal.returns-in_err-print_one-clause-front
returns-in_err-print_one-clause-front g c =
    at_err c.from_residual.result
    (entries_front entry_text c.args.history.now c.loop-entry.entry-index c.entry-item.result c.loop-entry-test.true c.entry-item.is
    c.args.held.now c.loop-entry.held (g.K.Sink.written c.args.sink.now) (g.K.Sink.written c.loop-entry.sink) (g.K.Sink.written c.print_one.new.sink)
    c.loop-entry.invariant.0 c.in_err-print_one.ensures.front)

pub loop-entry-preserved : goal.loop-entry-preserved
loop-entry-preserved g c = (
  entries_more entry_text c.args.history.now c.loop-entry.entry-index c.entry-item.result c.loop-entry-test.true c.entry-item.is
      c.args.held.now c.loop-entry.held (g.K.Sink.written c.args.sink.now) (g.K.Sink.written c.loop-entry.sink) (g.K.Sink.written c.print_one.new.sink)
      c.loop-entry.invariant.0 c.print_one.new.held c.in_ok-print_one.ensures.printed,
  c.in_ok-print_one.ensures.counted ∙ c.loop-entry.invariant.1,
)
