use Rattle.std.proofs.Common.{◌∙◌, sym}
use Rattle.client_core.proofs.Doing.{due_there, fence_is, turns_again, turns_fence, turns_next, turns_old}
use Rattle.client_core.proofs.client.Client.turn.Goals as goal

pub due-due-requires : goal.due-due-requires
due-due-requires c = c.self.invariant.moment

pub give_up-requires : goal.give_up-requires
give_up-requires c = record { due = due_there _ _ _ _ _ _ _ c.self.invariant c.args.self.now c.self.view_is c.due-due.result c.due-due.ensures ∙ c.in-GiveUp.is }

pub returns-in-GiveUp-clause-turned : goal.returns-in-GiveUp-clause-turned
returns-in-GiveUp-clause-turned c =
    turns_old _ _ _ _ _ _ _ c.self.invariant c.args.self.now c.self.view_is c.in-GiveUp.part c.in-GiveUp.orig c.in-GiveUp.first_sent c.due-due.result c.due-due.ensures c.in-GiveUp.is c.give_up.new.self c.give_up.result c.args.out.now c.give_up.ensures.does

pub returns-in-GiveUp-clause-valid : goal.returns-in-GiveUp-clause-valid
returns-in-GiveUp-clause-valid c = c.give_up.ensures.valid

pub end_fence-requires : goal.end_fence-requires
end_fence-requires c = record { fence = fence_is _ _ _ _ _ _ _ c.self.invariant c.args.self.now c.self.view_is c.first_fence-fence.result c.first_fence-fence.ensures (sym c.is_some.ensures ∙ c.if-is_some.true) }

pub returns-then-is_some-clause-turned : goal.returns-then-is_some-clause-turned
returns-then-is_some-clause-turned c =
    turns_fence _ _ _ _ _ _ _ c.self.invariant c.args.self.now c.self.view_is c.due-due.result c.due-due.ensures c.in_default.not-GiveUp c.first_fence-fence.result c.first_fence-fence.ensures (sym c.is_some.ensures ∙ c.if-is_some.true)
    c.end_fence.new.self c.end_fence.result c.args.out.now c.end_fence.ensures.does

pub returns-then-is_some-clause-valid : goal.returns-then-is_some-clause-valid
returns-then-is_some-clause-valid c = c.end_fence.ensures.valid

pub send_again-requires : goal.send_again-requires
send_again-requires c = record { due = due_there _ _ _ _ _ _ _ c.self.invariant c.args.self.now c.self.view_is c.due-due.result c.due-due.ensures ∙ c.in-Resend.is; room = c.requires.room }

pub returns-in-Resend-clause-turned : goal.returns-in-Resend-clause-turned
returns-in-Resend-clause-turned c =
    turns_again _ _ _ _ _ _ _ c.self.invariant c.args.self.now c.self.view_is c.in-Resend.part c.in-Resend.orig c.due-due.result c.due-due.ensures c.in-Resend.is c.first_fence-fence.result c.first_fence-fence.ensures (sym c.is_some.ensures ∙ c.if-is_some.false)
    c.send_again.new.self c.send_again.result c.args.out.now c.send_again.new.out c.send_again.ensures.does

pub returns-in-Resend-clause-valid : goal.returns-in-Resend-clause-valid
returns-in-Resend-clause-valid c = c.send_again.ensures.valid

pub returns-clause-turned : goal.returns-clause-turned
returns-clause-turned c =
    turns_next _ _ _ _ _ _ _ c.self.invariant c.args.self.now c.self.view_is c.due-due.result c.due-due.ensures c.in_default.not-GiveUp c.in_default-due.not-Resend c.first_fence-fence.result c.first_fence-fence.ensures (sym c.is_some.ensures ∙ c.if-is_some.false)
    c.send_next.new.self c.send_next.result c.args.out.now c.send_next.new.out c.send_next.ensures.does

pub returns-clause-valid : goal.returns-clause-valid
returns-clause-valid c = c.send_next.ensures.valid
