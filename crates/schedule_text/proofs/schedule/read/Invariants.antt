use Rattle.std.proofs.Common.{◌≡◌, ◌+◌, ◌≤◌, length}
use Rattle.texts.specs.Text.{lines_in}
use Rattle.texts.specs.Grammar.{nothing_read, schedule_from}
use Rattle.schedule_text.proofs.schedule.read.Given as goal

abbrev pub invariant-loop-rest : goal.invariant-loop-rest
invariant-loop-rest l = record {
  read : schedule_from nothing_read 1 (lines_in l.bytes) ≡ schedule_from l.reading l.number (lines_in l.rest);
  few : l.number + length (lines_in l.rest) ≤ 200001;
}

abbrev pub decreases-loop-rest : goal.decreases-loop-rest
decreases-loop-rest l = length l.rest
