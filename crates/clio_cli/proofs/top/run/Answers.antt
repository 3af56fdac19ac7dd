use Rattle.wire_loop.specs.Serves.{incoming, told_of}
use Rattle.clio_cli.specs.Run.{network, outside}
use Rattle.command_text.specs.Streams.{streams}
use Rattle.clio_cli.proofs.RunsLemmas.{runs}
use Rattle.clio_cli.proofs.top.run.Goals as goal

pub returns : goal.returns
returns g c =
    runs c.args.words.now
    (outside (streams (g.S.Source.left c.args.source.now) (g.S.Source.faults c.args.source.now) (g.K.Sink.written c.args.sink.now) (g.K.Sink.faults c.args.sink.now))
    (network (told_of (incoming (g.W.Wire.coming c.args.wire.now) (g.W.Wire.idles c.args.wire.now)) (g.W.Wire.sent c.args.wire.now) (g.C.Clock.moments c.args.clock.now)) (g.W.Wire.last_bind c.args.wire.now) (g.W.Wire.faults c.args.wire.now)))
    (outside (streams (g.S.Source.left c.serve.new.source) (g.S.Source.faults c.serve.new.source) (g.K.Sink.written c.serve.new.sink) (g.K.Sink.faults c.serve.new.sink))
    (network (told_of (incoming (g.W.Wire.coming c.serve.new.wire) (g.W.Wire.idles c.serve.new.wire)) (g.W.Wire.sent c.serve.new.wire) (g.C.Clock.moments c.serve.new.clock)) (g.W.Wire.last_bind c.serve.new.wire) (g.W.Wire.faults c.serve.new.wire)))
    c.serve.new.left c.number.result c.serve.result c.number.ensures c.serve.ensures
