use Rattle.schedule_text.proofs.ArgumentLemmas.{no_words}
use Rattle.schedule_text.proofs.arguments.none.Goals as goal

pub returns-in-Some-clause-fault : goal.returns-in-Some-clause-fault
returns-in-Some-clause-fault c = rw c.in-Some.is (no_words c.args.before c.in-Some._words.now)
