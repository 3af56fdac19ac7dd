use Rattle.std.proofs.Common.{subst}
use Rattle.command_text.specs.Streams.{streams}
use Rattle.replay_command.specs.Wanted.{IsWantedOf}
use Rattle.replay_command.proofs.ServeLemmas.{opened_serves, refused_serves, served_of}
use Rattle.replay_command.proofs.command.serve_replay.Goals as goal

pub play-requires-clause-served : goal.play-requires-clause-served
play-requires-clause-served g c =
    let wanted = subst (IsWantedOf (g.S.Source.left c.args.source.now) (g.S.Source.left c.wanted.new.source)) c.in-Ok-Opened.field-0-is c.in-Ok-Opened.ensures.wanted in
    served_of wanted.0 c.in-Ok-Opened.schedule wanted.2

pub returns-in-Ok-Refused : goal.returns-in-Ok-Refused
returns-in-Ok-Refused g c =
    let wanted = subst (IsWantedOf (g.S.Source.left c.args.source.now) (g.S.Source.left c.wanted.new.source)) c.in-Ok-Refused.field-0-is c.in-Ok-Refused.ensures.wanted in
    refused_serves
    (streams (g.S.Source.left c.args.source.now) (g.S.Source.faults c.args.source.now) (g.K.Sink.written c.args.sink.now) (g.K.Sink.faults c.args.sink.now))
    (streams (g.S.Source.left c.wanted.new.source) (g.S.Source.faults c.wanted.new.source) (g.K.Sink.written c.say.new.sink) (g.K.Sink.faults c.say.new.sink))
    c.args.left.now c.in-Ok-Refused.output wanted c.in-Ok-Refused.ensures.counted c.requires.nothing c.say.result c.say.ensures

pub returns-in-Ok-Opened : goal.returns-in-Ok-Opened
returns-in-Ok-Opened g c =
    let wanted = subst (IsWantedOf (g.S.Source.left c.args.source.now) (g.S.Source.left c.wanted.new.source)) c.in-Ok-Opened.field-0-is c.in-Ok-Opened.ensures.wanted in
    opened_serves
    (streams (g.S.Source.left c.args.source.now) (g.S.Source.faults c.args.source.now) (g.K.Sink.written c.args.sink.now) (g.K.Sink.faults c.args.sink.now))
    (streams (g.S.Source.left c.wanted.new.source) (g.S.Source.faults c.wanted.new.source) (g.K.Sink.written c.play.new.sink) (g.K.Sink.faults c.play.new.sink))
    c.play.new.left c.in-Ok-Opened.schedule c.in-Ok-Opened.world wanted c.in-Ok-Opened.ensures.counted c.play.result c.play.ensures
