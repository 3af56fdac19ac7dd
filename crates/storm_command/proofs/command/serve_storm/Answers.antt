use Rattle.std.proofs.Common.{◌∙◌, ap, refl}
use Rattle.storm_gen.specs.Generated.{generated}
use Rattle.command_text.specs.Outputs.{storm_output}
use Rattle.command_text.specs.declared.output.Output.{Output}
use Rattle.storm_command.proofs.StormLemmas.{plays_failed, plays_none, plays_whole}
use Rattle.storm_command.proofs.command.serve_storm.Goals as goal

pub returns-in_default : goal.returns-in_default
returns-in_default g c =
    plays_none (generated c.args.seed c.args.calls) (storm_output c.args.seed c.args.calls).text (g.K.Sink.written c.args.sink.now) (g.K.Sink.faults c.args.sink.now) c.args.left.now c.requires.nothing

pub returns-then-is_err : goal.returns-then-is_err
returns-then-is_err g c =
    plays_failed (generated c.args.seed c.args.calls) (storm_output c.args.seed c.args.calls).text (g.K.Sink.written c.args.sink.now) (g.K.Sink.faults c.args.sink.now) c.args.left.now
    (g.K.Sink.written c.write_all.new.sink) (g.K.Sink.faults c.write_all.new.sink) c.as_slice.result.now (c.as_slice.ensures ∙ ap (λ (o : Output). o.text) c.in-Ok.ensures.output)
    c.write_all.result c.if-is_err.ensures.value c.write_all.ensures.front c.write_all.ensures.counted c.requires.nothing

pub returns : goal.returns
returns g c =
    plays_whole (generated c.args.seed c.args.calls) (storm_output c.args.seed c.args.calls).text (g.K.Sink.written c.args.sink.now) (g.K.Sink.faults c.args.sink.now) _
    (g.K.Sink.written c.write_all.new.sink) (g.K.Sink.faults c.write_all.new.sink) c.as_slice.result.now (c.as_slice.ensures ∙ ap (λ (o : Output). o.text) c.in-Ok.ensures.output)
    c.write_all.result c.if-is_err.ensures.value c.write_all.ensures.all c.write_all.ensures.counted c.in-Ok.world refl c.in-Ok.ensures.stands
