use Rattle.wire_loop.proofs.AlikeLemmas.{law_of_serving}
use Rattle.wire_loop.proofs.laws.law_of_serving.Goals as goal

pub returns : goal.returns
returns c = law_of_serving
