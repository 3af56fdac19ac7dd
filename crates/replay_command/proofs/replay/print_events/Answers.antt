use Rattle.std.proofs.Common.{◌∙◌}
use Rattle.replay_command.proofs.ReplayLemmas.{after_next, front_next, kept_next}
use Rattle.command_text.proofs.WorkLemmas.{event_at}
use Rattle.replay_command.proofs.replay.print_events.Goals as goal

pub returns-in-Err-clause-front : goal.returns-in-Err-clause-front
returns-in-Err-clause-front g c =
    let s = c.args.schedule.now in
    let e = c.loop-number-item.result in
    let after = c.loop-number.invariant.0 in
    let there = event_at c.as_slice-number-items.result.now s.events c.loop-number.number-index e c.as_slice-number-items.ensures c.loop-number-item.is c.loop-number-test.true in
    front_next s c.requires.served c.loop-number.number-index c.loop-number.world after.reached e there c.loop-number.held (g.K.Sink.written c.args.sink.now) (g.K.Sink.written c.loop-number.sink) after.gathered
    (g.K.Sink.written c.print_event.new.sink) c.in-Err.ensures.front

pub returns-in-Err-clause-kept : goal.returns-in-Err-clause-kept
returns-in-Err-clause-kept g c is =
    let s = c.args.schedule.now in
    let e = c.loop-number-item.result in
    let after = c.loop-number.invariant.0 in
    let there = event_at c.as_slice-number-items.result.now s.events c.loop-number.number-index e c.as_slice-number-items.ensures c.loop-number-item.is c.loop-number-test.true in
    kept_next s c.requires.served c.loop-number.number-index c.loop-number.world after.reached e there c.loop-number.held (g.K.Sink.written c.args.sink.now) (g.K.Sink.written c.loop-number.sink) after.gathered
    c.print_event.new.world (g.K.Sink.written c.print_event.new.sink) c.in-Err.ensures.late (c.in-Err.ensures.kept is)

pub loop-number-preserved : goal.loop-number-preserved
loop-number-preserved g c =
    let s = c.args.schedule.now in
    let e = c.loop-number-item.result in
    let after = c.loop-number.invariant.0 in
    let there = event_at c.as_slice-number-items.result.now s.events c.loop-number.number-index e c.as_slice-number-items.ensures c.loop-number-item.is c.loop-number-test.true in (
      after_next s c.requires.served c.loop-number.number-index c.loop-number.world after.reached e there c.loop-number.held (g.K.Sink.written c.args.sink.now) (g.K.Sink.written c.loop-number.sink) after.gathered
          c.print_event.new.world c.print_event.new.held (g.K.Sink.written c.print_event.new.sink)
          c.in_default.ensures.happened c.in_default.ensures.printed,
      c.in_default.ensures.counted ∙ c.loop-number.invariant.1,
    )
