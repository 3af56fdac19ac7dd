use Rattle.std.proofs.Common.{◌+◌, refl, ap}
use Rattle.std.proofs.lemmas.Option.{slice_get_read}
use Rattle.history_check.proofs.VerdictLemmas.{refused, run_ends, run_on}
use Rattle.history_check.proofs.history.check_entries.Goals as goal

pub returns-then-not-branch : goal.returns-then-not-branch
returns-then-not-branch c =
    let loop = c.loop-entry in
    let there = slice_get_read c.args.entries.now _ loop.entry-index c.entry-item.result refl c.loop-entry-test.true c.entry-item.is in
    run_ends c.args.flat.now c.args.entries.now loop.entry-index c.entry-item.result loop.flat _ there loop.invariant.state loop.invariant.run
    (ap (λ n. n + 1) loop.invariant.count) (refused _ c.in_ok-check_step.ensures.allowed c.if-not-branch.true)

pub loop-entry-preserved : goal.loop-entry-preserved
loop-entry-preserved c =
    let loop = c.loop-entry in
    let there = slice_get_read c.args.entries.now _ loop.entry-index c.entry-item.result refl c.loop-entry-test.true c.entry-item.is in
    let step = c.in_ok-check_step.ensures.stepped c.if-not-branch.false in
    let on = run_on c.args.flat.now c.args.entries.now loop.entry-index c.entry-item.result loop.flat _ there loop.invariant.state loop.invariant.run step in
    record { count = ap (λ n. n + 1) loop.invariant.count; state = on.0; run = on.1 }
