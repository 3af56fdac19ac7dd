use Rattle.std.proofs.Common.{◌≡◌, drop, true}
use Rattle.schedule_text.proofs.LineLemmas.{has_gap}
use Rattle.schedule_text.proofs.lines.has_empty_word.Given as goal

abbrev pub invariant-loop-b : goal.invariant-loop-b
invariant-loop-b l = has_gap true l.line ≡ has_gap l.at_start (drop l.b-index l.line)
