-- The entry stands behind the last one that stands before it.
use Rattle.std.proofs.Common.{ℕ, ◌+◌, ◌-◌, ◌<◌, ◌≤◌, refl, sym, ◌∙◌, length, not, arith}
use Rattle.std.specs.List.{position_or_len}
use Rattle.std.proofs.lemmas.Option.{slice_get_read}
use Rattle.trace.specs.Account.{is_before}
use Rattle.world.proofs.HistoryLemmas.{place_down, place_up, place_within}
use Rattle.world.proofs.history.place_of.Goals as goal

pub loop-at-init : goal.loop-at-init
loop-at-init c = (omega arith, place_within c.args.entry.now.line c.args.entry.now.position c.args.history.now)

pub loop-at-preserved : goal.loop-at-preserved
loop-at-preserved c =
    let within : c.loop-at.at - 1 < length c.args.history.now = omega (arith, c.loop-at-test.true, c.loop-at.invariant.0) in
    let there = slice_get_read c.args.history.now (length c.args.history.now) (c.loop-at.at - 1) c.index-history-at.result refl within c.index-history-at.is in
    (omega (arith, within), place_down c.args.entry.now.line c.args.entry.now.position c.args.history.now (c.loop-at.at - 1) c.index-history-at.result there (sym c.is_before.ensures ∙ c.if-is_before.false))

pub returns-then-is_before-clause-place : goal.returns-then-is_before-clause-place
returns-then-is_before-clause-place c =
    let within : c.loop-at.at - 1 < length c.args.history.now = omega (arith, c.loop-at-test.true, c.loop-at.invariant.0) in
    let there = slice_get_read c.args.history.now (length c.args.history.now) (c.loop-at.at - 1) c.index-history-at.result refl within c.index-history-at.is in
    let place : ℕ = position_or_len (λ e. not (is_before c.args.entry.now.line c.args.entry.now.position e)) c.args.history.now in
    let most : place ≤ c.loop-at.at = c.loop-at.invariant.1 in
    let least : c.loop-at.at - 1 + 1 ≤ place =
    place_up c.args.entry.now.line c.args.entry.now.position c.args.history.now (c.loop-at.at - 1) c.index-history-at.result c.requires there (sym c.is_before.ensures ∙ c.if-is_before.true) in
    omega (arith, most, least, c.loop-at-test.true)
