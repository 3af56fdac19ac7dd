use Rattle.wire_loop.proofs.RanLemmas.{turned_so}
use Rattle.wire_loop.proofs.laws.turns_are_serving.Goals as goal

pub returns : goal.returns
returns c = turned_so
