use Rattle.std.proofs.Common.{ap, sym}
use Rattle.client_model.specs.Client.{at_moment}
use Rattle.client_core.proofs.Doing.{polled, sound_later}
use Rattle.client_core.proofs.client.Client.poll.Goals as goal

pub invariant_of-self : goal.invariant_of-self
invariant_of-self c =
    sound_later c.self.inside.no c.self.inside.pid c.self.inside.issued c.self.inside.sendings c.self.inside.calls c.self.inside.flight c.self.inside.last c.args.now c.self.invariant (rw (← c.self.view_is) at c.requires.moment)

pub returns : goal.returns
returns c =
    let done = polled _ c.args.self.now c.turn.new.self c.args.now c.turn.result c.args.out.now c.turn.new.out (ap (at_moment c.args.now) (sym c.self.view_is)) c.turn.ensures.turned in
    record { answer = done.answer_is; bytes = done.bytes_are; state = done.state_is; valid = c.turn.ensures.valid }
