use Rattle.std.proofs.Common.{Some, Err, ap, refl, subst}
use Rattle.cl_outside.specs.Counts.{LastFailed, NoneFailed}
use Rattle.texts.specs.Commands.{Drive}
use Rattle.wire_loop.specs.Serves.{incoming, told_of}
use Rattle.clio_cli.specs.Run.{network, outside}
use Rattle.command_text.specs.Streams.{streams}
use Rattle.command_text.specs.Serving.{CountsHalt}
use Rattle.clio_cli.specs.Wanted.{IsScriptedOf}
use Rattle.command_text.specs.declared.input.Halt.{Halt}
use Rattle.clio_cli.specs.declared.script.WantedScript.{WantedScript}
use Rattle.command_text.specs.declared.status.Status.TheVariants as status
use Rattle.clio_cli.proofs.ServeLemmas.{client_serves, in_text, script_is_short, unscripted_serves}
use Rattle.command_text.proofs.ServeLemmas.{fault_serves, memory_serves}
use Rattle.clio_cli.proofs.top.serve_client.Goals as goal

pub drive_words-requires-clause-few : goal.drive_words-requires-clause-few
drive_words-requires-clause-few g c =
    let scripted = subst (IsScriptedOf (g.S.Source.left c.args.source.now) (g.S.Source.left c.wanted_script.new.source)) c.in-Ok-Scripted.field-0-is c.in-Ok-Scripted.ensures.wanted in
    script_is_short scripted.0 c.in-Ok-Scripted.script.calls scripted.2

pub returns-in-Ok-Refused : goal.returns-in-Ok-Refused
returns-in-Ok-Refused g c =
    let before = (outside (streams (g.S.Source.left c.args.source.now) (g.S.Source.faults c.args.source.now) (g.K.Sink.written c.args.sink.now) (g.K.Sink.faults c.args.sink.now))
    (network (told_of (incoming (g.W.Wire.coming c.args.wire.now) (g.W.Wire.idles c.args.wire.now)) (g.W.Wire.sent c.args.wire.now) (g.C.Clock.moments c.args.clock.now)) (g.W.Wire.last_bind c.args.wire.now) (g.W.Wire.faults c.args.wire.now))) in
    let after = (outside (streams (g.S.Source.left c.wanted_script.new.source) (g.S.Source.faults c.wanted_script.new.source) (g.K.Sink.written c.say.new.sink) (g.K.Sink.faults c.say.new.sink))
    (network (told_of (incoming (g.W.Wire.coming c.args.wire.now) (g.W.Wire.idles c.args.wire.now)) (g.W.Wire.sent c.args.wire.now) (g.C.Clock.moments c.args.clock.now)) (g.W.Wire.last_bind c.args.wire.now) (g.W.Wire.faults c.args.wire.now))) in
    let scripted = subst (IsScriptedOf (g.S.Source.left c.args.source.now) (g.S.Source.left c.wanted_script.new.source)) c.in-Ok-Refused.field-0-is c.in-Ok-Refused.ensures.wanted in
    in_text (Some (Drive c.args.words.port c.args.words.client c.args.words.pid)) before after c.args.left.now c.say.result refl
    (unscripted_serves c.args.words.port c.args.words.client c.args.words.pid before.streams after.streams c.args.left.now c.in-Ok-Refused.output scripted c.in-Ok-Refused.ensures.counted c.requires.nothing c.say.result c.say.ensures)

pub returns-in-Ok-Scripted : goal.returns-in-Ok-Scripted
returns-in-Ok-Scripted g c =
    let before = (outside (streams (g.S.Source.left c.args.source.now) (g.S.Source.faults c.args.source.now) (g.K.Sink.written c.args.sink.now) (g.K.Sink.faults c.args.sink.now))
    (network (told_of (incoming (g.W.Wire.coming c.args.wire.now) (g.W.Wire.idles c.args.wire.now)) (g.W.Wire.sent c.args.wire.now) (g.C.Clock.moments c.args.clock.now)) (g.W.Wire.last_bind c.args.wire.now) (g.W.Wire.faults c.args.wire.now))) in
    let after = (outside (streams (g.S.Source.left c.wanted_script.new.source) (g.S.Source.faults c.wanted_script.new.source) (g.K.Sink.written c.drive_words.new.sink) (g.K.Sink.faults c.drive_words.new.sink))
    (network (told_of (incoming (g.W.Wire.coming c.drive_words.new.wire) (g.W.Wire.idles c.drive_words.new.wire)) (g.W.Wire.sent c.drive_words.new.wire) (g.C.Clock.moments c.drive_words.new.clock)) (g.W.Wire.last_bind c.drive_words.new.wire) (g.W.Wire.faults c.drive_words.new.wire))) in
    let scripted = subst (IsScriptedOf (g.S.Source.left c.args.source.now) (g.S.Source.left c.wanted_script.new.source)) c.in-Ok-Scripted.field-0-is c.in-Ok-Scripted.ensures.wanted in
    client_serves c.args.words.port c.args.words.client c.args.words.pid c.in-Ok-Scripted.script.calls before after c.drive_words.new.left c.drive_words.result
    (record { bytes = scripted.0; input = scripted.1; script = scripted.2; faults = c.in-Ok-Scripted.ensures.counted }) c.drive_words.ensures

pub returns-in-Err-ReadFault : goal.returns-in-Err-ReadFault
returns-in-Err-ReadFault g c =
    let before = (outside (streams (g.S.Source.left c.args.source.now) (g.S.Source.faults c.args.source.now) (g.K.Sink.written c.args.sink.now) (g.K.Sink.faults c.args.sink.now))
    (network (told_of (incoming (g.W.Wire.coming c.args.wire.now) (g.W.Wire.idles c.args.wire.now)) (g.W.Wire.sent c.args.wire.now) (g.C.Clock.moments c.args.clock.now)) (g.W.Wire.last_bind c.args.wire.now) (g.W.Wire.faults c.args.wire.now))) in
    let after = (outside (streams (g.S.Source.left c.wanted_script.new.source) (g.S.Source.faults c.wanted_script.new.source) (g.K.Sink.written c.args.sink.now) (g.K.Sink.faults c.args.sink.now))
    (network (told_of (incoming (g.W.Wire.coming c.args.wire.now) (g.W.Wire.idles c.args.wire.now)) (g.W.Wire.sent c.args.wire.now) (g.C.Clock.moments c.args.clock.now)) (g.W.Wire.last_bind c.args.wire.now) (g.W.Wire.faults c.args.wire.now))) in
    let failed : LastFailed (g.S.Source.faults c.args.source.now) (g.S.Source.faults c.wanted_script.new.source) =
    subst (λ why. CountsHalt {A = WantedScript} (g.S.Source.faults c.args.source.now) (g.S.Source.faults c.wanted_script.new.source) (Err why)) c.in-Err-ReadFault.field-0-is c.in-Err-ReadFault.ensures.counted in
    let command = Some (Drive c.args.words.port c.args.words.client c.args.words.pid) in
    in_text command before after c.args.left.now status.ReadFault refl
    (fault_serves command before.streams after.streams c.args.left.now refl refl refl c.requires.nothing failed (c.in-Err-ReadFault.ensures.within (ap (λ (why : Halt). Err why) c.in-Err-ReadFault.field-0-is)))

pub returns-in-Err-NoMemory : goal.returns-in-Err-NoMemory
returns-in-Err-NoMemory g c =
    let before = (outside (streams (g.S.Source.left c.args.source.now) (g.S.Source.faults c.args.source.now) (g.K.Sink.written c.args.sink.now) (g.K.Sink.faults c.args.sink.now))
    (network (told_of (incoming (g.W.Wire.coming c.args.wire.now) (g.W.Wire.idles c.args.wire.now)) (g.W.Wire.sent c.args.wire.now) (g.C.Clock.moments c.args.clock.now)) (g.W.Wire.last_bind c.args.wire.now) (g.W.Wire.faults c.args.wire.now))) in
    let after = (outside (streams (g.S.Source.left c.wanted_script.new.source) (g.S.Source.faults c.wanted_script.new.source) (g.K.Sink.written c.args.sink.now) (g.K.Sink.faults c.args.sink.now))
    (network (told_of (incoming (g.W.Wire.coming c.args.wire.now) (g.W.Wire.idles c.args.wire.now)) (g.W.Wire.sent c.args.wire.now) (g.C.Clock.moments c.args.clock.now)) (g.W.Wire.last_bind c.args.wire.now) (g.W.Wire.faults c.args.wire.now))) in
    let none : NoneFailed (g.S.Source.faults c.args.source.now) (g.S.Source.faults c.wanted_script.new.source) =
    subst (λ why. CountsHalt {A = WantedScript} (g.S.Source.faults c.args.source.now) (g.S.Source.faults c.wanted_script.new.source) (Err why)) c.in-Err-NoMemory.field-0-is c.in-Err-NoMemory.ensures.counted in
    let command = Some (Drive c.args.words.port c.args.words.client c.args.words.pid) in
    in_text command before after c.args.left.now status.NoMemory refl
    (memory_serves command before.streams after.streams c.args.left.now refl refl refl c.requires.nothing none c.in-Err-NoMemory.ensures.taken)
