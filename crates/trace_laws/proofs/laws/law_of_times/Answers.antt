use Rattle.trace_laws.proofs.TimesKept.{law_of_times}
use Rattle.trace_laws.proofs.laws.law_of_times.Goals as goal

pub returns : goal.returns
returns c = law_of_times
