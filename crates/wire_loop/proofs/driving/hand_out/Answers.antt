use Rattle.std.proofs.Common.{◌<◌, [], ap, sym, refl, ◌∙◌, subst, length}
use Rattle.client_model.specs.Client.{ClientState, handed_out}
use Rattle.wire_loop.proofs.HandLemmas.{first_ended, handed_front, handed_one}
use Rattle.wire_loop.proofs.IssueLemmas.{on_err_always}
use Rattle.wire_loop.proofs.RanLemmas.{added_none}
use Rattle.wire_loop.proofs.driving.hand_out.Goals as goal

pub loop-no-init : goal.loop-no-init
loop-no-init g c = (record { printed = []; text = added_none _; rest = refl }, refl, refl)

pub loop-no-preserved : goal.loop-no-preserved
loop-no-preserved g c =
    let first = first_ended c.loop-no.client c.args.lines.now c.in-Some.no c.in-Some.answer c.in-Some.call c.in-Some.ensures.answer in (
      handed_one c.args.client.now c.loop-no.client c.args.lines.now _ _ _ c.loop-no.invariant.0 c.in-Some.no c.in-Some.answer c.in-Some.call c.done.new.self c.line_at.result first
          c.done.ensures.state c.line_at.ensures c.in_ok-write_answered.ensures.written,
      ap handed_out c.done.ensures.state ∙ c.loop-no.invariant.1,
      c.in_ok-write_answered.ensures.counted ∙ c.loop-no.invariant.2,
    )

pub loop-no-smaller : goal.loop-no-smaller
loop-no-smaller g c =
    let first = first_ended c.loop-no.client c.args.lines.now c.in-Some.no c.in-Some.answer c.in-Some.call c.in-Some.ensures.answer in
    subst (λ (s : ClientState). length s.ended < length c.loop-no.client.ended) (sym c.done.ensures.state) first.fewer

pub returns-in_err-write_answered-clause-front : goal.returns-in_err-write_answered-clause-front
returns-in_err-write_answered-clause-front g c =
    let first = first_ended c.loop-no.client c.args.lines.now c.in-Some.no c.in-Some.answer c.in-Some.call c.in-Some.ensures.answer in
    on_err_always c.from_residual.result
    (handed_front c.args.client.now c.loop-no.client c.args.lines.now _ _ _ c.loop-no.invariant.0 c.in-Some.no c.in-Some.answer c.in-Some.call c.line_at.result first c.line_at.ensures
    c.in_err-write_answered.ensures.front)
