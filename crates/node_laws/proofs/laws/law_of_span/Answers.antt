use Rattle.node_laws.proofs.SpanKept.{law_of_span}
use Rattle.node_laws.proofs.laws.law_of_span.Goals as goal

pub returns : goal.returns
returns c = law_of_span
