use Rattle.trace_laws.proofs.WindowKept.{law_of_window}
use Rattle.trace_laws.proofs.laws.law_of_window.Goals as goal

pub returns : goal.returns
returns c = law_of_window
