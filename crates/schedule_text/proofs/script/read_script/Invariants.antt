use Rattle.std.proofs.Common.{◌≡◌, ◌+◌, ◌≤◌, [], length}
use Rattle.texts.specs.Text.{lines_in}
use Rattle.schedule_text.proofs.ScriptLemmas.{with_lines}
use Rattle.schedule_text.proofs.script.read_script.Given as goal

abbrev pub invariant-loop-rest : goal.invariant-loop-rest
invariant-loop-rest l = record {
  read : with_lines [] 1 (lines_in l.bytes) ≡ with_lines l.calls l.number (lines_in l.rest);
  few : l.number + length (lines_in l.rest) ≤ 200001;
}

abbrev pub decreases-loop-rest : goal.decreases-loop-rest
decreases-loop-rest l = length l.rest
