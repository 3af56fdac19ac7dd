use Rattle.std.proofs.Common.{◌++◌, ◌∙◌, List, ℕ, ap, subst}
use Rattle.std.proofs.lemmas.Result.{on_err_weaker, on_ok_weaker}
use Rattle.cl_outside.specs.Loops.{WroteFront}
use Rattle.cl_outside.specs.Told.{Added}
use Rattle.cl_types.specs.declared.line.Entry.{Entry}
use Rattle.replay_command.specs.Replay.{history_text}
use Rattle.replay_command.proofs.ReplayLemmas.{after_none, all_written, stands_at_last, front_written}
use Rattle.replay_command.proofs.replay.write_transcript.Goals as goal

pub print_events-requires-clause-begun : goal.print_events-requires-clause-begun
print_events-requires-clause-begun g c =
    after_none c.args.schedule.now c.args.world.now c.append.new.self (g.K.Sink.written c.args.sink.now) c.requires.served c.requires.opened
    (c.in_ok-append.ensures.appended ∙ ap (λ (text : List ℕ). text ++ c.as_slice.result.now) c.create-held.ensures ∙ c.as_slice.ensures)

pub returns-clause-printed : goal.returns-clause-printed
returns-clause-printed g c =
    let after = c.in_ok-print_events.ensures.done in
    let same = ap (λ (h : List Entry). c.print_events.new.held ++ history_text h) c.history.ensures.entries in
    on_ok_weaker c.print_history.result
    (λ written. all_written c.args.schedule.now c.requires.served c.print_events.new.world c.print_events.new.held (g.K.Sink.written c.args.sink.now) (g.K.Sink.written c.print_events.new.sink) after
    (g.K.Sink.written c.print_history.new.sink) (subst (λ (text : List ℕ). Added text (g.K.Sink.written c.print_events.new.sink) (g.K.Sink.written c.print_history.new.sink)) same written))
    c.print_history.ensures.printed

pub returns-clause-front : goal.returns-clause-front
returns-clause-front g c =
    let after = c.in_ok-print_events.ensures.done in
    let same = ap (λ (h : List Entry). c.print_events.new.held ++ history_text h) c.history.ensures.entries in
    on_err_weaker c.print_history.result
    (λ front. front_written c.args.schedule.now c.requires.served c.print_events.new.world c.print_events.new.held (g.K.Sink.written c.args.sink.now) (g.K.Sink.written c.print_events.new.sink) after
    (g.K.Sink.written c.print_history.new.sink) (subst (λ (text : List ℕ). WroteFront text (g.K.Sink.written c.print_events.new.sink) (g.K.Sink.written c.print_history.new.sink)) same front))
    c.print_history.ensures.front

pub returns-clause-stands : goal.returns-clause-stands
returns-clause-stands g c =
    on_ok_weaker c.print_history.result
    (λ _. stands_at_last c.args.schedule.now c.requires.served c.print_events.new.world c.print_events.new.held (g.K.Sink.written c.args.sink.now) (g.K.Sink.written c.print_events.new.sink)
    c.in_ok-print_events.ensures.done)
    c.print_history.ensures.printed
