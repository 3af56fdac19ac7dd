-- What is left to hand out grows less.
use Rattle.std.proofs.Common.{◌≡◌, length}
use Rattle.client_model.specs.Client.{handed_out}
use Rattle.world.proofs.turn.leave.Given as goal

abbrev pub invariant-loop : goal.invariant-loop
invariant-loop l = handed_out l.client ≡ handed_out l.initial.client

abbrev pub decreases-loop : goal.decreases-loop
decreases-loop l = length l.client.ended
