use Rattle.std.proofs.Common.{◌∙◌, None, Some, ap, refl, subst, sym}
use Rattle.wire_loop.specs.Serves.{incoming, told_of}
use Rattle.clio_cli.specs.Run.{network, outside}
use Rattle.command_text.specs.Streams.{streams}
use Rattle.clio_cli.specs.Wanted.{Serves}
use Rattle.command_text.specs.Serving.{ServesInText}
use Rattle.clio_cli.specs.Words.{IsWithinLimits, command_of, node_numbers}
use Rattle.clio_cli.specs.declared.words.Asked.{Asked}
use Rattle.clio_cli.specs.declared.words.Asked.TheVariants.{Replay, Check, Storm}
use Rattle.clio_cli.proofs.ServeLemmas.{in_text, node_serves, words_serve}
use Rattle.storm_command.proofs.StormLemmas.{storm_serves}
use Rattle.storm_command.proofs.StormLemmas.{generated_served}
use Rattle.clio_cli.proofs.top.serve.Goals as goal

pub returns-in-None : goal.returns-in-None
returns-in-None g c =
    let before = (outside (streams (g.S.Source.left c.args.source.now) (g.S.Source.faults c.args.source.now) (g.K.Sink.written c.args.sink.now) (g.K.Sink.faults c.args.sink.now))
    (network (told_of (incoming (g.W.Wire.coming c.args.wire.now) (g.W.Wire.idles c.args.wire.now)) (g.W.Wire.sent c.args.wire.now) (g.C.Clock.moments c.args.clock.now)) (g.W.Wire.last_bind c.args.wire.now) (g.W.Wire.faults c.args.wire.now))) in
    let after = (outside (streams (g.S.Source.left c.args.source.now) (g.S.Source.faults c.args.source.now) (g.K.Sink.written c.refuse_words.new.sink) (g.K.Sink.faults c.refuse_words.new.sink))
    (network (told_of (incoming (g.W.Wire.coming c.args.wire.now) (g.W.Wire.idles c.args.wire.now)) (g.W.Wire.sent c.args.wire.now) (g.C.Clock.moments c.args.clock.now)) (g.W.Wire.last_bind c.args.wire.now) (g.W.Wire.faults c.args.wire.now))) in
    subst (λ command. Serves command before after c.args.left.now c.refuse_words.result) (sym c.in-None.ensures.asked)
    (in_text None before after c.args.left.now c.refuse_words.result refl
    (words_serve before.streams after.streams c.args.left.now refl refl c.requires.nothing c.refuse_words.result c.refuse_words.ensures))

pub returns-in-Some-Replay : goal.returns-in-Some-Replay
returns-in-Some-Replay g c =
    let before = (outside (streams (g.S.Source.left c.args.source.now) (g.S.Source.faults c.args.source.now) (g.K.Sink.written c.args.sink.now) (g.K.Sink.faults c.args.sink.now))
    (network (told_of (incoming (g.W.Wire.coming c.args.wire.now) (g.W.Wire.idles c.args.wire.now)) (g.W.Wire.sent c.args.wire.now) (g.C.Clock.moments c.args.clock.now)) (g.W.Wire.last_bind c.args.wire.now) (g.W.Wire.faults c.args.wire.now))) in
    let after = (outside (streams (g.S.Source.left c.serve_replay.new.source) (g.S.Source.faults c.serve_replay.new.source) (g.K.Sink.written c.serve_replay.new.sink) (g.K.Sink.faults c.serve_replay.new.sink))
    (network (told_of (incoming (g.W.Wire.coming c.args.wire.now) (g.W.Wire.idles c.args.wire.now)) (g.W.Wire.sent c.args.wire.now) (g.C.Clock.moments c.args.clock.now)) (g.W.Wire.last_bind c.args.wire.now) (g.W.Wire.faults c.args.wire.now))) in
    let asked = c.in-Some-Replay.ensures.asked ∙ ap (λ (a : Asked). Some (command_of a)) c.in-Some-Replay.field-0-is in
    subst (λ command. Serves command before after c.serve_replay.new.left c.serve_replay.result) (sym asked)
    (in_text (Some (command_of Replay)) before after c.serve_replay.new.left c.serve_replay.result refl c.serve_replay.ensures)

pub returns-in-Some-Check : goal.returns-in-Some-Check
returns-in-Some-Check g c =
    let before = (outside (streams (g.S.Source.left c.args.source.now) (g.S.Source.faults c.args.source.now) (g.K.Sink.written c.args.sink.now) (g.K.Sink.faults c.args.sink.now))
    (network (told_of (incoming (g.W.Wire.coming c.args.wire.now) (g.W.Wire.idles c.args.wire.now)) (g.W.Wire.sent c.args.wire.now) (g.C.Clock.moments c.args.clock.now)) (g.W.Wire.last_bind c.args.wire.now) (g.W.Wire.faults c.args.wire.now))) in
    let after = (outside (streams (g.S.Source.left c.serve_check.new.source) (g.S.Source.faults c.serve_check.new.source) (g.K.Sink.written c.serve_check.new.sink) (g.K.Sink.faults c.serve_check.new.sink))
    (network (told_of (incoming (g.W.Wire.coming c.args.wire.now) (g.W.Wire.idles c.args.wire.now)) (g.W.Wire.sent c.args.wire.now) (g.C.Clock.moments c.args.clock.now)) (g.W.Wire.last_bind c.args.wire.now) (g.W.Wire.faults c.args.wire.now))) in
    let asked = c.in-Some-Check.ensures.asked ∙ ap (λ (a : Asked). Some (command_of a)) c.in-Some-Check.field-0-is in
    subst (λ command. Serves command before after c.args.left.now c.serve_check.result) (sym asked)
    (in_text (Some (command_of Check)) before after c.args.left.now c.serve_check.result refl (subst (λ kept. ServesInText (Some (command_of Check)) before.streams after.streams kept c.serve_check.result) (sym c.requires.nothing) c.serve_check.ensures))

pub returns-in-Some-Storm : goal.returns-in-Some-Storm
returns-in-Some-Storm g c =
    let before = (outside (streams (g.S.Source.left c.args.source.now) (g.S.Source.faults c.args.source.now) (g.K.Sink.written c.args.sink.now) (g.K.Sink.faults c.args.sink.now))
    (network (told_of (incoming (g.W.Wire.coming c.args.wire.now) (g.W.Wire.idles c.args.wire.now)) (g.W.Wire.sent c.args.wire.now) (g.C.Clock.moments c.args.clock.now)) (g.W.Wire.last_bind c.args.wire.now) (g.W.Wire.faults c.args.wire.now))) in
    let after = (outside (streams (g.S.Source.left c.args.source.now) (g.S.Source.faults c.args.source.now) (g.K.Sink.written c.serve_storm.new.sink) (g.K.Sink.faults c.serve_storm.new.sink))
    (network (told_of (incoming (g.W.Wire.coming c.args.wire.now) (g.W.Wire.idles c.args.wire.now)) (g.W.Wire.sent c.args.wire.now) (g.C.Clock.moments c.args.clock.now)) (g.W.Wire.last_bind c.args.wire.now) (g.W.Wire.faults c.args.wire.now))) in
    let few = subst IsWithinLimits c.in-Some-Storm.field-0-is c.in-Some-Storm.ensures.limits in
    let asked = c.in-Some-Storm.ensures.asked ∙ ap (λ (a : Asked). Some (command_of a)) c.in-Some-Storm.field-0-is in
    subst (λ command. Serves command before after c.serve_storm.new.left c.serve_storm.result) (sym asked)
    (in_text (Some (command_of (Storm c.in-Some-Storm.seed c.in-Some-Storm.calls))) before after c.serve_storm.new.left c.serve_storm.result refl
    (storm_serves c.in-Some-Storm.seed c.in-Some-Storm.calls (generated_served c.in-Some-Storm.seed c.in-Some-Storm.calls few) before.streams after.streams c.serve_storm.new.left refl refl c.serve_storm.result c.serve_storm.ensures))

pub returns-in-Some-Serve : goal.returns-in-Some-Serve
returns-in-Some-Serve g c =
    let before = (outside (streams (g.S.Source.left c.args.source.now) (g.S.Source.faults c.args.source.now) (g.K.Sink.written c.args.sink.now) (g.K.Sink.faults c.args.sink.now))
    (network (told_of (incoming (g.W.Wire.coming c.args.wire.now) (g.W.Wire.idles c.args.wire.now)) (g.W.Wire.sent c.args.wire.now) (g.C.Clock.moments c.args.clock.now)) (g.W.Wire.last_bind c.args.wire.now) (g.W.Wire.faults c.args.wire.now))) in
    let after = (outside (streams (g.S.Source.left c.args.source.now) (g.S.Source.faults c.args.source.now) (g.K.Sink.written c.serve_words.new.sink) (g.K.Sink.faults c.serve_words.new.sink))
    (network (told_of (incoming (g.W.Wire.coming c.serve_words.new.wire) (g.W.Wire.idles c.serve_words.new.wire)) (g.W.Wire.sent c.serve_words.new.wire) (g.C.Clock.moments c.serve_words.new.clock)) (g.W.Wire.last_bind c.serve_words.new.wire) (g.W.Wire.faults c.serve_words.new.wire))) in
    let asked = c.in-Some-Serve.ensures.asked ∙ ap (λ (a : Asked). Some (command_of a)) c.in-Some-Serve.field-0-is in
    subst (λ command. Serves command before after c.serve_words.new.left c.serve_words.result) (sym asked)
    (node_serves (node_numbers c.in-Some-Serve.numbers) before after c.serve_words.new.left c.serve_words.result (record { left = refl; faults = refl }) c.serve_words.ensures)

pub returns-in-Some-Drive : goal.returns-in-Some-Drive
returns-in-Some-Drive g c =
    let before = (outside (streams (g.S.Source.left c.args.source.now) (g.S.Source.faults c.args.source.now) (g.K.Sink.written c.args.sink.now) (g.K.Sink.faults c.args.sink.now))
    (network (told_of (incoming (g.W.Wire.coming c.args.wire.now) (g.W.Wire.idles c.args.wire.now)) (g.W.Wire.sent c.args.wire.now) (g.C.Clock.moments c.args.clock.now)) (g.W.Wire.last_bind c.args.wire.now) (g.W.Wire.faults c.args.wire.now))) in
    let after = (outside (streams (g.S.Source.left c.serve_client.new.source) (g.S.Source.faults c.serve_client.new.source) (g.K.Sink.written c.serve_client.new.sink) (g.K.Sink.faults c.serve_client.new.sink))
    (network (told_of (incoming (g.W.Wire.coming c.serve_client.new.wire) (g.W.Wire.idles c.serve_client.new.wire)) (g.W.Wire.sent c.serve_client.new.wire) (g.C.Clock.moments c.serve_client.new.clock)) (g.W.Wire.last_bind c.serve_client.new.wire) (g.W.Wire.faults c.serve_client.new.wire))) in
    let asked = c.in-Some-Drive.ensures.asked ∙ ap (λ (a : Asked). Some (command_of a)) c.in-Some-Drive.field-0-is in
    subst (λ command. Serves command before after c.serve_client.new.left c.serve_client.result) (sym asked) c.serve_client.ensures
