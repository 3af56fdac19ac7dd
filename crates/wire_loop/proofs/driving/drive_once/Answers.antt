use Rattle.std.proofs.Common.{rules, ◌≡◌, ◌≤◌, ◌-◌, ℕ, [], length, max, sym, ap, ◌∙◌, subst}
use Rattle.client_model.specs.Client.{ClientState}
use Rattle.wire_loop.specs.Steps.{steps_left}
use Rattle.wire_loop.specs.declared.driving.Fruit.TheVariants as fruit
use Rattle.wire_loop.proofs.BreakLemmas.{broke_handing, broke_issuing, broke_with_moments}
use Rattle.wire_loop.proofs.IssueLemmas.{on_err_always}
use Rattle.wire_loop.proofs.OnceLemmas.{none_to_hand, none_to_say, turned_once, with_moments}
use Rattle.wire_loop.proofs.PollLemmas.{handed_steps, takes_from}
use Rattle.wire_loop.proofs.driving.drive_once.Goals as goal

pub returns-in_err-issue_calls-clause-broke : goal.returns-in_err-issue_calls-clause-broke
returns-in_err-issue_calls-clause-broke g c =
    on_err_always c.from_residual.result
    (broke_issuing c.args.calls.now c.args.node c.args.client.now c.args.next.now c.args.lines.now _ _ _ c.in_err-issue_calls.ensures.broke)

pub returns-in_err-hand_out-clause-broke : goal.returns-in_err-hand_out-clause-broke
returns-in_err-hand_out-clause-broke g c =
    let when : max c.now.result c.issue_calls.new.client.last ≡ c.max-now.result = search rules in
    on_err_always c.from_residual-in_err-hand_out.result
    (broke_with_moments c.args.calls.now c.args.node c.args.client.now c.args.next.now c.args.lines.now _ _ _ _ _ _ _ _ c.now.ensures.moments
    (broke_handing c.args.calls.now c.args.node c.args.client.now c.issue_calls.new.client c.poll_once-how.new.client c.args.next.now c.issue_calls.new.next
    c.args.lines.now c.issue_calls.new.lines _ _ _ _ (g.C.Clock.moments c.args.clock.now) _ _ _ c.poll_once-how.result c.now.result c.max-now.result
    c.in_ok-issue_calls.ensures.issued c.poll_once-how.ensures.polls c.now.ensures.answer when c.in_err-hand_out.ensures.front))

pub returns-clause-turns : goal.returns-clause-turns
returns-clause-turns g c =
    let when : max c.now.result c.issue_calls.new.client.last ≡ c.max-now.result = search rules in
    with_moments c.args.calls.now c.args.node c.args.client.now c.hand_out.new.client c.args.next.now c.issue_calls.new.next c.args.lines.now c.issue_calls.new.lines
    _ _ _ _ _ _ _ _ c.poll_once-how.result c.now.ensures.moments
    (turned_once c.args.calls.now c.args.node c.args.client.now c.issue_calls.new.client c.poll_once-how.new.client c.hand_out.new.client c.args.next.now c.issue_calls.new.next
    c.args.lines.now c.issue_calls.new.lines _ _ _ _ (g.C.Clock.moments c.args.clock.now) _ _ c.poll_once-how.result c.now.result c.max-now.result
    c.in_ok-issue_calls.ensures.issued c.poll_once-how.ensures.polls c.now.ensures.answer when c.in_ok-hand_out.ensures.client _ c.in_ok-hand_out.ensures.written)

pub returns-then-eq-clause-turns : goal.returns-then-eq-clause-turns
returns-then-eq-clause-turns g c =
    let when : max c.now.result c.issue_calls.new.client.last ≡ c.max-now.result = search rules in
    let is : c.poll_once-how.result ≡ fruit.Failed = search rules in
    let none : c.poll_once-how.new.client.ended ≡ [] = c.poll_once-how.ensures.failed is ∙ c.in_ok-issue_calls.ensures.between.3 in
    with_moments c.args.calls.now c.args.node c.args.client.now c.poll_once-how.new.client c.args.next.now c.issue_calls.new.next c.args.lines.now c.issue_calls.new.lines
    _ _ _ _ _ _ _ _ c.poll_once-how.result c.now.ensures.moments
    (turned_once c.args.calls.now c.args.node c.args.client.now c.issue_calls.new.client c.poll_once-how.new.client c.poll_once-how.new.client c.args.next.now c.issue_calls.new.next
    c.args.lines.now c.issue_calls.new.lines _ _ _ _ (g.C.Clock.moments c.args.clock.now) _ _ c.poll_once-how.result c.now.result c.max-now.result
    c.in_ok-issue_calls.ensures.issued c.poll_once-how.ensures.polls c.now.ensures.answer when (none_to_hand c.poll_once-how.new.client none) _
    (none_to_say c.poll_once-how.new.client c.issue_calls.new.lines _ none))

pub returns-then-eq-clause-between : goal.returns-then-eq-clause-between
returns-then-eq-clause-between g c =
    let between = c.in_ok-issue_calls.ensures.between in
    let is : c.poll_once-how.result ≡ fruit.Failed = search rules in (
      between.0,
      between.1,
      subst (λ n. n ≤ c.issue_calls.new.next) (sym c.poll_once-how.ensures.issued) between.2,
      c.poll_once-how.ensures.failed is ∙ between.3,
    )

pub returns-clause-between : goal.returns-clause-between
returns-clause-between g c =
    let between = c.in_ok-issue_calls.ensures.between in
    let handed = c.in_ok-hand_out.ensures.client in (
      between.0,
      between.1,
      subst (λ n. n ≤ c.issue_calls.new.next) (sym (ap (λ (s : ClientState). s.issued) handed ∙ c.poll_once-how.ensures.issued)) between.2,
      ap (λ (s : ClientState). s.ended) handed,
    )

pub returns-then-eq-clause-steps : goal.returns-then-eq-clause-steps
returns-then-eq-clause-steps g c =
    let calls : ℕ = length c.args.calls.now - c.issue_calls.new.next in
    takes_from c.poll_once-how.result (steps_left c.args.client.now (length c.args.calls.now - c.args.next.now)) (steps_left c.issue_calls.new.client calls)
    (steps_left c.poll_once-how.new.client calls) c.in_ok-issue_calls.ensures.steps (c.poll_once-how.ensures.steps calls)

pub returns-clause-steps : goal.returns-clause-steps
returns-clause-steps g c =
    let calls : ℕ = length c.args.calls.now - c.issue_calls.new.next in
    let same : steps_left c.hand_out.new.client calls ≡ steps_left c.poll_once-how.new.client calls = ap (λ (s : ClientState). steps_left s calls) c.in_ok-hand_out.ensures.client in
    takes_from c.poll_once-how.result (steps_left c.args.client.now (length c.args.calls.now - c.args.next.now)) (steps_left c.issue_calls.new.client calls)
    (steps_left c.hand_out.new.client calls) c.in_ok-issue_calls.ensures.steps
    (handed_steps c.poll_once-how.result (steps_left c.issue_calls.new.client calls) (steps_left c.poll_once-how.new.client calls) (steps_left c.hand_out.new.client calls)
    (c.poll_once-how.ensures.steps calls) same)
