use Rattle.command_text.specs.Working.{Reached}
use Rattle.storm_command.proofs.command.work.Given as goal

abbrev pub invariant-loop-number : goal.invariant-loop-number
invariant-loop-number l = Reached l.schedule l.number-index l.world
