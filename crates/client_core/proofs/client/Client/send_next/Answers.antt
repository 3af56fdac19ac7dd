use Rattle.std.proofs.Common.{arith}
use Rattle.client_core.proofs.Doing.{idles_full, idles_noted, next_there, same_sound, room_there, sends_next}
use Rattle.client_core.proofs.client.Client.send_next.Goals as goal

pub returns-then-flying-ge-PARTS_IN_FLIGHT-clause-does : goal.returns-then-flying-ge-PARTS_IN_FLIGHT-clause-does
returns-then-flying-ge-PARTS_IN_FLIGHT-clause-does c = idles_full _ _ _ _ _ _ _ c.self.invariant c.args.self.now c.self.view_is c.count-flying.result c.count-flying.ensures (omega arith) c.args.out.now

pub returns-then-flying-ge-PARTS_IN_FLIGHT-clause-valid : goal.returns-then-flying-ge-PARTS_IN_FLIGHT-clause-valid
returns-then-flying-ge-PARTS_IN_FLIGHT-clause-valid c = rw (← c.self.view_is) c.self.invariant.valid

pub returns-in_default-clause-does : goal.returns-in_default-clause-does
returns-in_default-clause-does c =
    idles_noted _ _ _ _ _ _ _ c.self.invariant c.args.self.now c.self.view_is c.note_quiet.new.self c.note_quiet.ensures c.part_to_send.result c.part_to_send.ensures c.in_default.is c.args.out.now

pub returns-in_default-clause-valid : goal.returns-in_default-clause-valid
returns-in_default-clause-valid c = (same_sound _ _ _ _ _ _ _ c.self.invariant c.args.self.now c.self.view_is c.note_quiet.new.self c.note_quiet.ensures).valid

pub send-requires-clause-next : goal.send-requires-clause-next
send-requires-clause-next c = next_there _ _ _ _ _ _ _ c.self.invariant c.args.self.now c.self.view_is c.part_to_send.result c.in-Some.part c.part_to_send.ensures c.in-Some.is

pub send-requires-clause-room : goal.send-requires-clause-room
send-requires-clause-room c = c.requires.room

pub send-requires-clause-space : goal.send-requires-clause-space
send-requires-clause-space c = room_there _ _ _ _ _ _ _ c.self.invariant c.args.self.now c.self.view_is c.count-flying.result c.count-flying.ensures (omega arith)

pub returns-clause-does : goal.returns-clause-does
returns-clause-does c =
    sends_next _ _ _ _ _ _ _ c.self.invariant c.args.self.now c.self.view_is c.in-Some.part
    (next_there _ _ _ _ _ _ _ c.self.invariant c.args.self.now c.self.view_is c.part_to_send.result c.in-Some.part c.part_to_send.ensures c.in-Some.is)
    (room_there _ _ _ _ _ _ _ c.self.invariant c.args.self.now c.self.view_is c.count-flying.result c.count-flying.ensures (omega arith)) c.send.new.self c.send.result c.args.out.now c.send.new.out c.send.ensures.does

pub returns-clause-valid : goal.returns-clause-valid
returns-clause-valid c = c.send.ensures.valid
