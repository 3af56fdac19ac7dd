use Rattle.range_alloc.proofs.NodeLemmas.{start_empty}
use Rattle.range_alloc.proofs.lists.RangeLists.create.Goals as goal

pub returns-clause-empty : goal.returns-clause-empty
returns-clause-empty c space less = start_empty c.in_ok-lists.lists c.resize.new.self.items c.args.nodes space c.in_ok-lists.ensures less
