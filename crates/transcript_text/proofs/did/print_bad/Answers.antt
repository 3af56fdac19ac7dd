use Rattle.transcript_text.proofs.did.print_bad.Goals as goal

pub returns-in-Version-clause-printed : goal.returns-in-Version-clause-printed
returns-in-Version-clause-printed c = rw c.in-Version.is (rw c.from.ensures at c.print_told.ensures.printed)
