use Rattle.command_text.proofs.WorkLemmas.{event_at, event_bounded, event_fair, event_later, reached_by, reached_end, reached_none}
use Rattle.storm_command.proofs.command.work.Goals as goal

pub loop-number-init : goal.loop-number-init
loop-number-init c = reached_none c.args.schedule.now c.args.world.now c.requires.served c.requires.opened

pub happen-requires-clause-later : goal.happen-requires-clause-later
happen-requires-clause-later c =
    let there = event_at c.as_slice-number-items.result.now c.args.schedule.now.events c.loop-number.number-index c.loop-number-item.result c.as_slice-number-items.ensures c.loop-number-item.is c.loop-number-test.true in
    event_later c.args.schedule.now c.requires.served c.loop-number.number-index c.loop-number.world c.loop-number.invariant c.loop-number-item.result there

pub happen-requires-clause-bounded : goal.happen-requires-clause-bounded
happen-requires-clause-bounded c =
    let there = event_at c.as_slice-number-items.result.now c.args.schedule.now.events c.loop-number.number-index c.loop-number-item.result c.as_slice-number-items.ensures c.loop-number-item.is c.loop-number-test.true in
    event_bounded c.args.schedule.now c.requires.served c.loop-number.number-index c.loop-number.world c.loop-number.invariant c.loop-number-item.result there

pub happen-requires-clause-fair : goal.happen-requires-clause-fair
happen-requires-clause-fair c =
    let there = event_at c.as_slice-number-items.result.now c.args.schedule.now.events c.loop-number.number-index c.loop-number-item.result c.as_slice-number-items.ensures c.loop-number-item.is c.loop-number-test.true in
    event_fair c.args.schedule.now c.requires.served c.loop-number.number-index c.loop-number.world c.loop-number.invariant c.loop-number-item.result there

pub loop-number-preserved : goal.loop-number-preserved
loop-number-preserved c =
    let there = event_at c.as_slice-number-items.result.now c.args.schedule.now.events c.loop-number.number-index c.loop-number-item.result c.as_slice-number-items.ensures c.loop-number-item.is c.loop-number-test.true in
    reached_by c.args.schedule.now c.requires.served c.loop-number.number-index c.loop-number.world c.loop-number.invariant c.loop-number-item.result there
    c.happen.new.world c.in_ok-happen.ensures.line c.in_ok-happen.ensures.stands

pub returns : goal.returns
returns c = reached_end c.args.schedule.now c.as_slice-number-items.result.now c.loop-number.number-index c.loop-number.world c.as_slice-number-items.ensures c.loop-number-test.false c.loop-number.auto.number-index-end c.loop-number.invariant
