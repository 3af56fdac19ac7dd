use Rattle.std.proofs.Common.{rules, ◌≡◌, ◌≤◌, ◌<◌, ◌+◌, ◌-◌, ℕ, ◌∙◌, refl, arith, length, true}
use Rattle.std.specs.Prelude.{nat_lt}
use Rattle.std.proofs.lemmas.Option.{slice_get_read}
use Rattle.cl_types.specs.declared.limits.TheConstants.{HELD_CALLS}
use Rattle.client_model.specs.Client.{held}
use Rattle.cl_types.specs.Written.{call_of}
use Rattle.wire_loop.proofs.StepLemmas.{tried_steps}
use Rattle.wire_loop.proofs.IssueLemmas.{broke_at, issued_ended, issued_one, on_err_always, tried_all, tried_more, tried_none}
use Rattle.wire_loop.proofs.driving.issue_calls.Goals as goal

pub loop-alloc-init : goal.loop-alloc-init
loop-alloc-init g c = (tried_none _ _ _ _ _, refl, c.requires.between, omega arith)

pub loop-alloc-preserved : goal.loop-alloc-preserved
loop-alloc-preserved g c =
    let now = c.loop-alloc.client in
    let few : c.loop-alloc.next < length c.args.calls.now = search rules in
    let room : nat_lt (held now) HELD_CALLS ≡ true = search rules in
    let between = c.loop-alloc.invariant.2 in
    let issued : now.issued ≤ c.loop-alloc.next = between.2 in
    let there = slice_get_read c.args.calls.now _ c.loop-alloc.next c.index-calls-next.result refl few c.index-calls-next.is in
    let one = issued_one now c.index-calls-next.result _ c.try_call.new.client c.in_ok-try_call.ensures.client in
    let steps = tried_steps (call_of c.index-calls-next.result.1) now c.try_call.new.client (length c.args.calls.now - (c.loop-alloc.next + 1)) (length c.args.calls.now - c.loop-alloc.next)
    c.in_ok-try_call.ensures.client (omega (arith, few)) in
    let before = c.loop-alloc.invariant.3 in (
      tried_more c.args.calls.now c.args.client.now now c.args.next.now c.loop-alloc.next c.args.lines.now c.loop-alloc.lines _ _ c.loop-alloc.invariant.0
          c.try_call.new.client c.index-calls-next.result c.try_call.new.lines _ there room c.in_ok-try_call.ensures.client c.in_ok-try_call.ensures.lines c.in_ok-try_call.ensures.written,
      c.in_ok-try_call.ensures.counted ∙ c.loop-alloc.invariant.1,
      (
        between.0,
        omega (arith, few),
        omega (arith, one, issued),
        issued_ended now c.index-calls-next.result _ c.try_call.new.client c.in_ok-try_call.ensures.client ∙ between.3,
      ),
      no_more _ _ _ steps before,
    )
  where
    no_more : (a b c : ℕ) → a ≤ b → b ≤ c → a ≤ c
    no_more a b c first second = omega (arith, first, second)

pub returns-in_err-try_call-clause-broke : goal.returns-in_err-try_call-clause-broke
returns-in_err-try_call-clause-broke g c =
    let few : c.loop-alloc.next < length c.args.calls.now = search rules in
    let room : nat_lt (held c.loop-alloc.client) HELD_CALLS ≡ true = search rules in
    let there = slice_get_read c.args.calls.now _ c.loop-alloc.next c.index-calls-next.result refl few c.index-calls-next.is in
    on_err_always c.from_residual.result
    (broke_at c.args.calls.now c.args.client.now c.loop-alloc.client c.args.next.now c.loop-alloc.next c.args.lines.now c.loop-alloc.lines _ _ _ c.loop-alloc.invariant.0
    c.index-calls-next.result there room c.in_err-try_call.ensures.front)

pub returns-clause-issued : goal.returns-clause-issued
returns-clause-issued g c = tried_all c.args.calls.now c.args.client.now c.loop-alloc.client c.args.next.now c.loop-alloc.next c.args.lines.now c.loop-alloc.lines _ _ c.loop-alloc.invariant.0 (search rules)
