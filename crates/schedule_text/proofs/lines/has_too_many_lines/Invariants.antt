use Rattle.std.proofs.Common.{◌≡◌, ◌+◌, length}
use Rattle.texts.specs.Text.{lines_in}
use Rattle.schedule_text.proofs.lines.has_too_many_lines.Given as goal

abbrev pub invariant-loop-line : goal.invariant-loop-line
invariant-loop-line l = length (lines_in l.bytes) ≡ l.line + length (lines_in l.rest)
