use Rattle.client_core.specs.Fields.{flown_of}
use Rattle.client_core.proofs.Doing.{gave_up_does}
use Rattle.client_core.proofs.Polling.{awaited, entry_there, gave_up, gave_up_step}
use Rattle.client_core.proofs.Sounds.{going}
use Rattle.client_core.proofs.client.Client.give_up.Goals as goal

pub give_up-requires : goal.give_up-requires
give_up-requires c =
    let u = gave_up _ _ _ _ _ _ _ c.self.invariant c.args.part c.args.orig c.args.first_sent (rw (← c.self.view_is) at c.requires.due) in
    entry_there _ _ _ _ _ _ _ c.self.invariant c.args.orig (flown_of u.x) u.entry

pub give_up-requires-2-clause-going : goal.give_up-requires-2-clause-going
give_up-requires-2-clause-going c = going _ _ _ _ _ _ _ c.self.invariant

pub give_up-requires-2-clause-awaited : goal.give_up-requires-2-clause-awaited
give_up-requires-2-clause-awaited c =
    let u = gave_up _ _ _ _ _ _ _ c.self.invariant c.args.part c.args.orig c.args.first_sent (rw (← c.self.view_is) at c.requires.due) in
    awaited _ _ _ _ _ _ _ c.self.invariant c.args.part c.args.orig c.args.first_sent u

pub invariant_of-self : goal.invariant_of-self
invariant_of-self c =
    let u = gave_up _ _ _ _ _ _ _ c.self.invariant c.args.part c.args.orig c.args.first_sent (rw (← c.self.view_is) at c.requires.due) in
    (gave_up_step _ _ _ _ _ _ _ c.self.invariant c.args.part c.args.orig c.args.first_sent u c.give_up-2.new.self c.give_up.new.self c.give_up-2.ensures c.give_up.ensures.flown c.give_up.ensures.last).sound'

pub returns-clause-does : goal.returns-clause-does
returns-clause-does c =
    gave_up_does _ _ _ _ _ _ _ c.self.invariant c.args.self.now c.self.view_is c.args.part c.args.orig c.args.first_sent c.requires.due c.give_up-2.new.self c.give_up.new.self c.give_up-2.ensures c.give_up.ensures.flown c.give_up.ensures.last

pub returns-clause-valid : goal.returns-clause-valid
returns-clause-valid c =
    let u = gave_up _ _ _ _ _ _ _ c.self.invariant c.args.part c.args.orig c.args.first_sent (rw (← c.self.view_is) at c.requires.due) in
    (gave_up_step _ _ _ _ _ _ _ c.self.invariant c.args.part c.args.orig c.args.first_sent u c.give_up-2.new.self c.give_up.new.self c.give_up-2.ensures c.give_up.ensures.flown c.give_up.ensures.last).sound'.valid
