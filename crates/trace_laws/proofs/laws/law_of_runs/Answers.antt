use Rattle.trace_laws.proofs.RunKept.{law_of_runs}
use Rattle.trace_laws.proofs.laws.law_of_runs.Goals as goal

pub returns : goal.returns
returns c = law_of_runs
