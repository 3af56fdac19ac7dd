use Rattle.std.proofs.Common.{◌++◌, append_assoc, length}
use Rattle.std.specs.Prelude.{flat_map}
use Rattle.std.proofs.lemmas.Result.{on_err_weaker}
use Rattle.texts.specs.Texts.{entry_text}
use Rattle.replay_command.specs.Replay.{end_text, history_text}
use Rattle.replay_command.proofs.GatherLemmas.{front_of, front_on}
use Rattle.replay_command.proofs.replay.print_history.Goals as goal

pub returns-clause-front : goal.returns-clause-front
returns-clause-front g c =
    let lines = flat_map entry_text c.args.history.now in
    let end = end_text (length c.args.history.now) in
    on_err_weaker c.print_end.result
    (λ front. front_of ((c.args.held.now ++ lines) ++ end) (c.args.held.now ++ history_text c.args.history.now) (g.K.Sink.written c.args.sink.now) (g.K.Sink.written c.print_end.new.sink)
    (append_assoc c.args.held.now lines end)
    (front_on (c.args.held.now ++ lines) c.print_entries.new.held end (g.K.Sink.written c.args.sink.now) (g.K.Sink.written c.print_entries.new.sink) (g.K.Sink.written c.print_end.new.sink)
    c.in_ok-print_entries.ensures.printed front))
    c.print_end.ensures.front
