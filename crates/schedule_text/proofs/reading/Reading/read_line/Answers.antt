use Rattle.schedule_text.proofs.ReadingLemmas.{line_bad}
use Rattle.schedule_text.proofs.reading.Reading.read_line.Goals as goal

pub returns-in-Err-Bad : goal.returns-in-Err-Bad
returns-in-Err-Bad c =
    rw c.in-Err-Bad.field-0-is
    (line_bad c.args.self.now c.args.number c.args.line.now c.in-Err-Bad.what c.if-is_passed_over.ensures (rw c.in-Err-Bad.field-0-is at c.in-Err-Bad.ensures))
