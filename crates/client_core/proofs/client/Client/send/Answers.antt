use Rattle.std.proofs.Common.{arith, rules, ap, ◌+◌, ◌<◌}
use Rattle.std.specs.Prelude.{is_some, ◌^◌}
use Rattle.client_core.proofs.Doing.{sent_first_does}
use Rattle.client_core.proofs.Polling.{few_fly, few_ids, new_id, new_part, sent_first, sent_first_step, unsent_there}
use Rattle.client_core.proofs.Sounds.{going}
use Rattle.client_core.proofs.client.Client.send.Goals as goal

pub overflow_add-id : goal.overflow_add-id
overflow_add-id c = let small : c.self.inside.sendings + 1 < 2 ^ 64 = few_ids _ _ _ _ _ _ _ c.self.invariant (omega arith) in omega arith

pub write_part-len-requires-clause-there : goal.write_part-len-requires-clause-there
write_part-len-requires-clause-there c =
    let u = sent_first _ _ _ _ _ _ _ c.self.invariant c.args.part (rw (← c.self.view_is) at c.requires.next) in
    ap is_some u.request

pub write_part-len-requires-clause-fits : goal.write_part-len-requires-clause-fits
write_part-len-requires-clause-fits c = c.self.invariant.fits

pub write_part-len-requires-clause-head : goal.write_part-len-requires-clause-head
write_part-len-requires-clause-head c =
    record { client = omega arith; pid = search rules; id = few_ids _ _ _ _ _ _ _ c.self.invariant (omega arith); orig = (omega arith, omega arith) }

pub write_part-len-requires-clause-room : goal.write_part-len-requires-clause-room
write_part-len-requires-clause-room c = c.requires.room

pub sent-requires-clause-few : goal.sent-requires-clause-few
sent-requires-clause-few c = few_fly _ _ _ _ _ _ _ c.self.invariant (rw (← c.self.view_is) at c.requires.space)

pub sent-requires-clause-part : goal.sent-requires-clause-part
sent-requires-clause-part c =
    let u = sent_first _ _ _ _ _ _ _ c.self.invariant c.args.part (rw (← c.self.view_is) at c.requires.next) in
    new_part _ _ _ _ _ _ _ c.self.invariant c.args.part u

pub sent-requires-clause-id : goal.sent-requires-clause-id
sent-requires-clause-id c = new_id _ _ _ _ _ _ _ c.self.invariant

pub sent-requires-clause-moment : goal.sent-requires-clause-moment
sent-requires-clause-moment c = c.self.invariant.moment

pub note_sent-requires-clause-going : goal.note_sent-requires-clause-going
note_sent-requires-clause-going c = going _ _ _ _ _ _ _ c.self.invariant

pub note_sent-requires-clause-unsent : goal.note_sent-requires-clause-unsent
note_sent-requires-clause-unsent c =
    let u = sent_first _ _ _ _ _ _ _ c.self.invariant c.args.part (rw (← c.self.view_is) at c.requires.next) in
    unsent_there _ _ _ _ _ _ _ c.self.invariant c.args.part u

pub invariant_of-self : goal.invariant_of-self
invariant_of-self c =
    let u = sent_first _ _ _ _ _ _ _ c.self.invariant c.args.part (rw (← c.self.view_is) at c.requires.next) in
    (sent_first_step _ _ _ _ _ _ _ c.self.invariant c.args.part u c.note_sent.new.self c.sent.new.self c.note_sent.ensures.held c.note_sent.ensures.ended c.sent.ensures.flown c.sent.ensures.last).sound'

pub returns-clause-does : goal.returns-clause-does
returns-clause-does c =
    sent_first_does _ _ _ _ _ _ _ c.self.invariant c.args.self.now c.self.view_is c.args.part c.requires.next c.requires.space c.note_sent.new.self c.sent.new.self c.note_sent.ensures.held c.note_sent.ensures.ended c.sent.ensures.flown c.sent.ensures.last
    c.write_part-len.result c.args.out.now c.write_part-len.new.out c.write_part-len.ensures.len c.write_part-len.ensures.bytes

pub returns-clause-valid : goal.returns-clause-valid
returns-clause-valid c =
    let u = sent_first _ _ _ _ _ _ _ c.self.invariant c.args.part (rw (← c.self.view_is) at c.requires.next) in
    (sent_first_step _ _ _ _ _ _ _ c.self.invariant c.args.part u c.note_sent.new.self c.sent.new.self c.note_sent.ensures.held c.note_sent.ensures.ended c.sent.ensures.flown c.sent.ensures.last).sound'.valid
