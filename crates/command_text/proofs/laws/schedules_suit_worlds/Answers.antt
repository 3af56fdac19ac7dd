use Rattle.command_text.proofs.SuitedLemmas.{schedules_suited}
use Rattle.command_text.proofs.laws.schedules_suit_worlds.Goals as goal

pub returns : goal.returns
returns c = schedules_suited
