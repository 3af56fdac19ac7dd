use Rattle.std.proofs.Common.{◌≡◌, ◌&&◌, leb, take, true}
use Rattle.std.specs.List.{list_all}
use Rattle.schedule_text.proofs.lines.are_good_bytes.Given as goal

abbrev pub invariant-loop-b : goal.invariant-loop-b
invariant-loop-b l = list_all (λ b. leb 32 b && leb b 126) (take l.b-index l.line) ≡ true
