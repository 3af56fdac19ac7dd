use Rattle.std.proofs.Common.{◌∙◌}
use Rattle.client_model.specs.Client.{poll}
use Rattle.world.proofs.TurnLemmas.{sent}
use Rattle.world.proofs.turn.turn.Goals as goal

pub returns-in-Sent-clause-turned : goal.returns-in-Sent-clause-turned
returns-in-Sent-clause-turned c =
    (sent c.args.client.now c.args.now (poll c.args.client.now c.args.now) c.in-Sent.len c.in-Sent.part c.in-Sent.id c.in-Sent.orig c.in-Sent.again c.args.out.now c.poll-answer.new.out
    c.in-Sent.ensures.answer c.poll-answer.ensures.bytes c.requires.room (c.poll-answer.auto.out ∙ c.requires.room)).told
