use Rattle.std.proofs.Common.{arith, rules, ap, ◌+◌, ◌<◌}
use Rattle.std.specs.Prelude.{is_some, ◌^◌}
use Rattle.client_core.specs.Fields.{flown_of}
use Rattle.client_core.proofs.Doing.{sent_again_does}
use Rattle.client_core.proofs.Polling.{entry_id, entry_there, few_ids, sent_once_more, sent_again_step}
use Rattle.client_core.proofs.client.Client.send_again.Goals as goal

pub overflow_add-id : goal.overflow_add-id
overflow_add-id c = let small : c.self.inside.sendings + 1 < 2 ^ 64 = few_ids _ _ _ _ _ _ _ c.self.invariant (omega arith) in omega arith

pub write_part-len-requires-clause-there : goal.write_part-len-requires-clause-there
write_part-len-requires-clause-there c =
    let u = sent_once_more _ _ _ _ _ _ _ c.self.invariant c.args.part c.args.orig (rw (← c.self.view_is) at c.requires.due) in
    ap is_some u.request

pub write_part-len-requires-clause-fits : goal.write_part-len-requires-clause-fits
write_part-len-requires-clause-fits c = c.self.invariant.fits

pub write_part-len-requires-clause-head : goal.write_part-len-requires-clause-head
write_part-len-requires-clause-head c =
    let u = sent_once_more _ _ _ _ _ _ _ c.self.invariant c.args.part c.args.orig (rw (← c.self.view_is) at c.requires.due) in
    let known = entry_id _ _ _ _ _ _ _ c.self.invariant c.args.orig (flown_of u.x) u.entry in
    record { client = omega arith; pid = search rules; id = few_ids _ _ _ _ _ _ _ c.self.invariant (omega arith); orig = (known.0, omega (arith, known.1)) }

pub write_part-len-requires-clause-room : goal.write_part-len-requires-clause-room
write_part-len-requires-clause-room c = c.requires.room

pub resent-requires-clause-there : goal.resent-requires-clause-there
resent-requires-clause-there c =
    let u = sent_once_more _ _ _ _ _ _ _ c.self.invariant c.args.part c.args.orig (rw (← c.self.view_is) at c.requires.due) in
    entry_there _ _ _ _ _ _ _ c.self.invariant c.args.orig (flown_of u.x) u.entry

pub resent-requires-clause-moment : goal.resent-requires-clause-moment
resent-requires-clause-moment c = c.self.invariant.moment

pub invariant_of-self : goal.invariant_of-self
invariant_of-self c =
    let u = sent_once_more _ _ _ _ _ _ _ c.self.invariant c.args.part c.args.orig (rw (← c.self.view_is) at c.requires.due) in
    (sent_again_step _ _ _ _ _ _ _ c.self.invariant c.args.part c.args.orig u c.resent.new.self c.resent.ensures.flown c.resent.ensures.last).sound'

pub returns-clause-does : goal.returns-clause-does
returns-clause-does c =
    sent_again_does _ _ _ _ _ _ _ c.self.invariant c.args.self.now c.self.view_is c.args.part c.args.orig c.requires.due c.resent.new.self c.resent.ensures.flown c.resent.ensures.last
    c.write_part-len.result c.args.out.now c.write_part-len.new.out c.write_part-len.ensures.len c.write_part-len.ensures.bytes

pub returns-clause-valid : goal.returns-clause-valid
returns-clause-valid c =
    let u = sent_once_more _ _ _ _ _ _ _ c.self.invariant c.args.part c.args.orig (rw (← c.self.view_is) at c.requires.due) in
    (sent_again_step _ _ _ _ _ _ _ c.self.invariant c.args.part c.args.orig u c.resent.new.self c.resent.ensures.flown c.resent.ensures.last).sound'.valid
