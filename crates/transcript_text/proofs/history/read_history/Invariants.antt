use Rattle.std.proofs.Common.{◌≡◌, ◌+◌, ◌≤◌, length}
use Rattle.texts.specs.Text.{lines_in}
use Rattle.transcript_text.specs.HistoryGrammar.{history_from, no_history}
use Rattle.transcript_text.proofs.history.read_history.Given as goal

abbrev pub invariant-loop-rest : goal.invariant-loop-rest
invariant-loop-rest l = record {
  read : history_from no_history 1 (lines_in l.bytes) ≡ history_from l.history l.number (lines_in l.rest);
  few : l.number + length (lines_in l.rest) ≤ 200001;
}

abbrev pub decreases-loop-rest : goal.decreases-loop-rest
decreases-loop-rest l = length l.rest
