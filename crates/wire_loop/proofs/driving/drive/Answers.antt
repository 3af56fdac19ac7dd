use Rattle.std.proofs.Common.{rules, ◌≡◌, ◌==◌, ◌<◌, ◌≤◌, true, false, leb, length, arith, refl, sym, ap, ◌∙◌, subst}
use Rattle.std.specs.Prelude.{◌&&◌}
use Rattle.cl_types.specs.declared.limits.TheConstants.{INPUT_LINES, STALL_TURNS}
use Rattle.client_model.specs.Client.{ClientState, held}
use Rattle.cl_outside.specs.Counts.{NoneFailed}
use Rattle.wire_loop.specs.Driven.{CountsFruit, fails}
use Rattle.wire_loop.specs.declared.driving.Fruit.TheVariants as fruit
use Rattle.wire_loop.proofs.DriveLemmas.{none_failed, ran_broken, ran_ended, ran_failed, ran_fruitful, ran_fruitless, ran_none, ran_stalled}
use Rattle.wire_loop.proofs.driving.drive.Goals.{then-loop-fruitless-test+else-not-is_done, else-loop-fruitless-test}
use Rattle.wire_loop.proofs.driving.drive.Goals as goal

pub loop-fruitless-init : goal.loop-fruitless-init
loop-fruitless-init g c =
    let none : c.args.client.now.issued ≡ 0 = ap (λ (s : ClientState). s.issued) c.requires.new in (
      ran_none c.as_slice-calls.result.now c.args.node c.args.client.now c.create-lines.result _ _ c.create-lines.ensures,
      refl,
      refl,
      refl,
      (
        subst (λ cs. length cs ≤ INPUT_LINES) (sym c.as_slice-calls.ensures) c.requires.few,
        omega arith,
        omega (arith, none),
        ap (λ (s : ClientState). s.ended) c.requires.new,
      ),
      omega arith,
    )

pub loop-fruitless-preserved-in-Ok-Fruitful : goal.loop-fruitless-preserved-in-Ok-Fruitful
loop-fruitless-preserved-in-Ok-Fruitful g c =
    let l = c.loop-fruitless in
    let left : (leb (length c.as_slice-calls.result.now) l.next && held l.client == 0) ≡ false = search rules in
    let is : c.in-Ok-Fruitful.field-0 ≡ fruit.Fruitful = search rules in
    let wire : CountsFruit (g.W.Wire.faults l.wire) (g.W.Wire.faults c.drive_once.new.wire) c.in-Ok-Fruitful.field-0 = c.in-Ok-Fruitful.ensures.wire_counted in
    let sink : NoneFailed (g.K.Sink.faults l.sink) (g.K.Sink.faults c.drive_once.new.sink) = c.in-Ok-Fruitful.ensures.sink_counted in
    let small : l.fruitless < STALL_TURNS = search rules in (
      ran_fruitful c.as_slice-calls.result.now c.args.node c.args.client.now l.client l.next l.lines _ _ _ _ l.fruitless l.invariant.0 left small
          c.drive_once.new.client c.drive_once.new.next c.drive_once.new.lines _ _ c.in-Ok-Fruitful.field-0 is c.in-Ok-Fruitful.ensures.turns,
      none_failed c.in-Ok-Fruitful.field-0 (g.W.Wire.faults l.wire) (g.W.Wire.faults c.drive_once.new.wire) (ap fails is) wire ∙ l.invariant.1,
      sink ∙ l.invariant.2,
      c.drive_once.ensures.bind ∙ l.invariant.3,
      c.in-Ok-Fruitful.ensures.between,
      omega arith,
    )

pub loop-fruitless-preserved : goal.loop-fruitless-preserved
loop-fruitless-preserved g c =
    let l = c.loop-fruitless in
    let left : (leb (length c.as_slice-calls.result.now) l.next && held l.client == 0) ≡ false = search rules in
    let is : c.in-Ok-Fruitless.field-0 ≡ fruit.Fruitless = search rules in
    let wire : CountsFruit (g.W.Wire.faults l.wire) (g.W.Wire.faults c.drive_once.new.wire) c.in-Ok-Fruitless.field-0 = c.in-Ok-Fruitless.ensures.wire_counted in
    let sink : NoneFailed (g.K.Sink.faults l.sink) (g.K.Sink.faults c.drive_once.new.sink) = c.in-Ok-Fruitless.ensures.sink_counted in
    let small : l.fruitless < STALL_TURNS = search rules in (
      ran_fruitless c.as_slice-calls.result.now c.args.node c.args.client.now l.client l.next l.lines _ _ _ _ l.fruitless l.invariant.0 left small
          c.drive_once.new.client c.drive_once.new.next c.drive_once.new.lines _ _ c.in-Ok-Fruitless.field-0 is c.in-Ok-Fruitless.ensures.turns,
      none_failed c.in-Ok-Fruitless.field-0 (g.W.Wire.faults l.wire) (g.W.Wire.faults c.drive_once.new.wire) (ap fails is) wire ∙ l.invariant.1,
      sink ∙ l.invariant.2,
      c.drive_once.ensures.bind ∙ l.invariant.3,
      c.in-Ok-Fruitless.ensures.between,
      omega (arith, small),
    )

pub returns-in-Ok-Failed-clause-drives : goal.returns-in-Ok-Failed-clause-drives
returns-in-Ok-Failed-clause-drives g c =
    let l = c.loop-fruitless in
    let left : (leb (length c.as_slice-calls.result.now) l.next && held l.client == 0) ≡ false = search rules in
    let is : c.in-Ok-Failed.field-0 ≡ fruit.Failed = search rules in
    let small : l.fruitless < STALL_TURNS = search rules in
    ran_failed c.as_slice-calls.result.now c.args.node c.args.client.now l.client l.next l.lines _ _ _ _ l.fruitless l.invariant.0 left small
    c.drive_once.new.client c.drive_once.new.next c.drive_once.new.lines _ _ c.args.script.now.calls c.as_slice-calls.ensures c.in-Ok-Failed.field-0 is c.in-Ok-Failed.ensures.turns

pub returns-in-Err-WriteFault-clause-drives : goal.returns-in-Err-WriteFault-clause-drives
returns-in-Err-WriteFault-clause-drives g c =
    let l = c.loop-fruitless in
    let left : (leb (length c.as_slice-calls.result.now) l.next && held l.client == 0) ≡ false = search rules in
    let small : l.fruitless < STALL_TURNS = search rules in
    ran_broken c.as_slice-calls.result.now c.args.node c.args.client.now l.client l.next l.lines _ _ _ _ l.fruitless l.invariant.0 left small
    _ _ c.args.script.now.calls c.as_slice-calls.ensures c.in-Err-WriteFault.ensures.broke

pub returns-in-Err-NoMemory-clause-drives : goal.returns-in-Err-NoMemory-clause-drives
returns-in-Err-NoMemory-clause-drives g c =
    let l = c.loop-fruitless in
    let left : (leb (length c.as_slice-calls.result.now) l.next && held l.client == 0) ≡ false = search rules in
    let small : l.fruitless < STALL_TURNS = search rules in
    ran_broken c.as_slice-calls.result.now c.args.node c.args.client.now l.client l.next l.lines _ _ _ _ l.fruitless l.invariant.0 left small
    _ _ c.args.script.now.calls c.as_slice-calls.ensures c.in-Err-NoMemory.ensures.broke

pub returns-then-is_done-clause-drives : goal.returns-then-is_done-clause-drives
returns-then-is_done-clause-drives g c =
    let l = c.loop-fruitless in
    let done : (leb (length c.as_slice-calls.result.now) l.next && held l.client == 0) ≡ true = search rules in
    ran_ended c.as_slice-calls.result.now c.args.node c.args.client.now l.client l.next l.lines _ _ _ _ l.fruitless l.invariant.0 c.args.script.now.calls c.as_slice-calls.ensures done

pub returns-clause-drives : goal.returns-clause-drives
returns-clause-drives g c =
    let l = c.loop-fruitless in
    let left : (leb (length c.as_slice-calls.result.now) l.next && held l.client == 0) ≡ false = search rules in
    let most : l.fruitless ≤ STALL_TURNS = l.invariant.5 in
    let many : STALL_TURNS ≤ l.fruitless = elim c.loop-fruitless-test.branch [ then-loop-fruitless-test+else-not-is_done w ↦ search rules | else-loop-fruitless-test w ↦ search rules ] in (
      omega (arith, most, many),
      ran_stalled c.as_slice-calls.result.now c.args.node c.args.client.now l.client l.next l.lines _ _ _ _ l.fruitless l.invariant.0 c.args.script.now.calls c.as_slice-calls.ensures
          c.last.result c.last.ensures.moment left many,
    )
