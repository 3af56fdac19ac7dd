use Rattle.std.proofs.Common.{refl, sym, ◌∙◌}
use Rattle.node_command.proofs.EndLemmas.{refused_cut, refused_whole}
use Rattle.node_command.proofs.command.refuse.Goals as goal

pub returns-in-Ok : goal.returns-in-Ok
returns-in-Ok g c =
    refused_whole c.args.fault (g.K.Sink.written c.args.sink.now) (g.K.Sink.written c.write_refusal.new.sink) (g.K.Sink.faults c.args.sink.now) (g.K.Sink.faults c.write_refusal.new.sink)
    _ (sym c.is_memory.ensures ∙ c.if-is_memory.false) c.in-Ok.ensures refl

pub returns-in-Err : goal.returns-in-Err
returns-in-Err g c =
    refused_cut c.args.fault (g.K.Sink.written c.args.sink.now) (g.K.Sink.written c.write_refusal.new.sink) (g.K.Sink.faults c.args.sink.now) (g.K.Sink.faults c.write_refusal.new.sink)
    c.in-Err.cut c.end_of_cut.result (sym c.is_memory.ensures ∙ c.if-is_memory.false) c.in-Err.ensures c.end_of_cut.ensures
