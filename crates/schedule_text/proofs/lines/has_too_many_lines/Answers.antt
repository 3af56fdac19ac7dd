use Rattle.std.proofs.Common.{arith}
use Rattle.schedule_text.proofs.LineLemmas.{lines_too_many}
use Rattle.schedule_text.proofs.lines.has_too_many_lines.Goals as goal

pub returns : goal.returns
returns c =
    lines_too_many c.args.bytes.now c.loop-line.rest.now c.loop-line.line c.is_empty-2.result c.is_empty-2.ensures (omega arith) c.loop-line.invariant
