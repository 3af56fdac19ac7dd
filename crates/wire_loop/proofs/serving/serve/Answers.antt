use Rattle.std.proofs.Common.{rules, ◌≡◌, ◌≤◌, ◌<◌, true, false, refl, ◌∙◌, leb}
use Rattle.std.proofs.lemmas.Bool.{le-leb, lt-leb}
use Rattle.wire_loop.specs.declared.serving.TurnEnd.TheVariants as turn_end
use Rattle.wire_loop.proofs.RanLemmas.{ran_none, ran_more, ran_to_end}
use Rattle.wire_loop.proofs.serving.serve.Goals.{then-loop-served-test+else-idle-idles, else-loop-served-test}
use Rattle.wire_loop.proofs.serving.serve.Goals as goal

pub loop-served-init : goal.loop-served-init
loop-served-init g c = record {
  ran = ran_none c.args.frames c.args.idles c.args.node.now _;
  counts = refl;
  bind = refl;
  few = search rules;
  short = search rules;
}

pub loop-served-preserved-in-Served : goal.loop-served-preserved-in-Served
loop-served-preserved-in-Served g c = record {
  ran = ran_more c.args.frames c.args.idles c.args.node.now c.loop-served.node c.turn.new.node _ _ _ c.loop-served.served
      c.loop-served.idle (turn_end.Served c.in-Served._outcome)
      (search rules) (search rules) c.loop-served.invariant.ran c.in-Served.ensures.turns;
  counts = c.in-Served.ensures.counts ∙ c.loop-served.invariant.counts;
  bind = c.in-Served.ensures.bind ∙ c.loop-served.invariant.bind;
  few = search rules;
  short = search rules;
}

pub loop-served-preserved : goal.loop-served-preserved
loop-served-preserved g c = record {
  ran = ran_more c.args.frames c.args.idles c.args.node.now c.loop-served.node c.turn.new.node _ _ _ c.loop-served.served
      c.loop-served.idle turn_end.Idle
      (search rules) (search rules) c.loop-served.invariant.ran c.in-Idle.ensures.turns;
  counts = c.in-Idle.ensures.counts ∙ c.loop-served.invariant.counts;
  bind = c.in-Idle.ensures.bind ∙ c.loop-served.invariant.bind;
  few = search rules;
  short = search rules;
}

pub returns-in-Failed-clause-serves : goal.returns-in-Failed-clause-serves
returns-in-Failed-clause-serves g c =
    let r = ran_more c.args.frames c.args.idles c.args.node.now c.loop-served.node c.turn.new.node _ _ _ c.loop-served.served
    c.loop-served.idle turn_end.Failed
    (search rules) (search rules) c.loop-served.invariant.ran c.in-Failed.ensures.turns in
    ran_to_end c.args.frames c.args.idles c.args.node.now c.turn.new.node _ _ c.loop-served.served
    c.loop-served.idle true _ r refl (λ clock sent. refl)

pub returns-in-Unsent-clause-serves : goal.returns-in-Unsent-clause-serves
returns-in-Unsent-clause-serves g c =
    let r = ran_more c.args.frames c.args.idles c.args.node.now c.loop-served.node c.turn.new.node _ _ _ c.loop-served.served
    c.loop-served.idle (turn_end.Unsent c.in-Unsent._outcome)
    (search rules) (search rules) c.loop-served.invariant.ran c.in-Unsent.ensures.turns in
    ran_to_end c.args.frames c.args.idles c.args.node.now c.turn.new.node _ _ c.loop-served.served
    c.loop-served.idle true _ r refl (λ clock sent. refl)

pub returns-then-served-frames-clause-serves : goal.returns-then-served-frames-clause-serves
returns-then-served-frames-clause-serves g c =
    let all : c.args.frames ≤ c.loop-served.served = search rules in
    let full : leb c.args.frames c.loop-served.served ≡ true = le-leb c.args.frames c.loop-served.served all in
    ran_to_end c.args.frames c.args.idles c.args.node.now c.loop-served.node _ _ c.loop-served.served
    c.loop-served.idle false _ c.loop-served.invariant.ran
    (rw full refl) (λ clock sent. rw full refl)

pub returns-clause-serves : goal.returns-clause-serves
returns-clause-serves g c =
    let few : c.loop-served.served < c.args.frames = search rules in
    let quiet : c.args.idles ≤ c.loop-served.idle = elim
    c.loop-served-test.branch [
      | then-loop-served-test+else-idle-idles w ↦ search rules
      | else-loop-served-test w ↦ search rules
    ] in
    let not_full : leb c.args.frames c.loop-served.served ≡ false = lt-leb c.args.frames c.loop-served.served few in
    let over : leb c.args.idles c.loop-served.idle ≡ true = le-leb c.args.idles c.loop-served.idle quiet in
    ran_to_end c.args.frames c.args.idles c.args.node.now c.loop-served.node _ _ c.loop-served.served
    c.loop-served.idle false _ c.loop-served.invariant.ran
    (rw (not_full, over) refl) (λ clock sent. rw not_full refl)
