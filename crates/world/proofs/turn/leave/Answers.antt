use Rattle.std.proofs.Common.{refl, sym, ap, ◌∙◌, subst, ◌<◌, length}
use Rattle.client_model.specs.Client.{ClientState, handed_out}
use Rattle.world.proofs.TurnLemmas.{left_none, left_some}
use Rattle.world.proofs.turn.leave.Goals as goal

pub loop-init : goal.loop-init
loop-init c = refl

pub loop-preserved : goal.loop-preserved
loop-preserved c = ap handed_out c.done.ensures.state ∙ c.loop.invariant

pub loop-smaller : goal.loop-smaller
loop-smaller c =
    subst (λ (s : ClientState). length s.ended < length c.loop.client.ended) (sym c.done.ensures.state)
    (left_some c.loop.client c.done.result c.done.ensures.answer (sym c.is_some.ensures ∙ c.if-is_some.true))

pub returns : goal.returns
returns c = c.done.ensures.state ∙ left_none c.loop.client c.done.result c.done.ensures.answer (sym c.is_some.ensures ∙ c.if-is_some.false) ∙ c.loop.invariant
