use Rattle.std.proofs.Common.{◌+◌, ◌-◌, ◌≡◌, ◌++◌, [], ◌∷◌, length, length-append, arith}
use Rattle.cl_types.specs.declared.schedule.Event.TheVariants as event
use Rattle.storm_gen.specs.Generated.{deliveries}
use Rattle.storm_gen.proofs.LineLemmas.{rest_after}
use Rattle.storm_gen.proofs.SettlingLemmas.{deliveries-more}
use Rattle.storm_gen.proofs.settling.deliver.Goals as goal

pub loop-preserved : goal.loop-preserved
loop-preserved c =
    let left = c.args.count - c.loop.counter in
    let next = c.args.count - (c.loop.counter + 1) in
    let more : left ≡ next + 1 = omega arith in
    let longer : length (c.loop.lines ++ event.DeliverNext ∷ []) ≡ length c.loop.lines + 1
    = length-append c.loop.lines (event.DeliverNext ∷ []) in
    record {
      events = rest_after c.loop.lines c.push.new.self (event.DeliverNext ∷ []) (deliveries left) (deliveries next) _
          c.in_ok-push.ensures (deliveries-more left next more) c.loop.invariant.events;
      room = rw c.in_ok-push.ensures (omega arith);
    }
