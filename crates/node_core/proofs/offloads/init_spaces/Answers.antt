-- A space more holds its object.
use Rattle.std.proofs.Common.{◌≤◌, length, arith}
use Rattle.node_core.proofs.Begun.{all_begun, all_empty, next_begun}
use Rattle.node_core.proofs.offloads.init_spaces.Goals as goal

pub loop-no-preserved : goal.loop-no-preserved
loop-no-preserved c =
    next_begun c.args.store.now c.loop-no.store c.init_space.new.store c.args.host.now c.loop-no.no c.loop-no.invariant c.init_space.ensures.others
    c.init_space.ensures.whole c.init_space.ensures.ready c.init_space.ensures.holds c.init_space.ensures.empty

pub returns-clause-sound : goal.returns-clause-sound
returns-clause-sound c =
    let all : length c.args.host.now ≤ c.loop-no.no = omega (arith, c.loop-no-test.false, c.count-no-end.ensures) in
    all_begun c.args.store.now c.loop-no.store c.args.host.now c.loop-no.no c.loop-no.invariant all

pub returns-clause-empty : goal.returns-clause-empty
returns-clause-empty c =
    let all : length c.args.host.now ≤ c.loop-no.no = omega (arith, c.loop-no-test.false, c.count-no-end.ensures) in
    all_empty c.args.store.now c.loop-no.store c.args.host.now c.loop-no.no c.loop-no.invariant all
