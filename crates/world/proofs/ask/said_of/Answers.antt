use Rattle.std.proofs.Common.{subst, sym}
use Rattle.frame_model.specs.Frames.{Item}
use Rattle.node_core.specs.Keeping.{TellsSaid, item_of}
use Rattle.node_core.specs.declared.outcome.Outcome.{Outcome}
use Rattle.world.specs.declared.ask.Made.{Made}
use Rattle.world.specs.declared.ask.FrameAnswer.TheVariants as said
use Rattle.world.specs.Saying.{IsSaidTo}
use Rattle.world.proofs.NodeLemmas.{answers_said}
use Rattle.world.proofs.ask.said_of.Goals as goal

pub returns-in_ok-made-in-Replied-clause-said : goal.returns-in_ok-made-in-Replied-clause-said
returns-in_ok-made-in-Replied-clause-said c x tells =
    let item : Item = item_of c.args.view.now.head c.args.view.now.body in
    let told = subst (λ (o : Outcome). TellsSaid item x o c.args.out.now) c.in-Replied.is tells in
    subst (λ (m : Made). IsSaidTo item x (said.Answers (record { head = item.head; made = m; status = c.in-Replied.status; len = c.in-Replied.len })) c.args.out.now)
    (sym c.in_ok-made-in-Replied.ensures)
    (answers_said item x c.in-Replied.len c.in-Replied.how c.in-Replied.status c.args.out.now c.requires.head told)
