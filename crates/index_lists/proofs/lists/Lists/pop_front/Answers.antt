use Rattle.std.proofs.Common.{◌∙◌, ap}
use Rattle.index_lists.specs.NodeLists.{with_list}
use Rattle.index_lists.proofs.Changes.{first_is_in, without_first_at}
use Rattle.index_lists.proofs.lists.Lists.pop_front.Goals as goal

pub remove-requires : goal.remove-requires
remove-requires c = (c.args.list, first_is_in c.args.self.now c.args.list _ c.in_ok-node.ensures.first)

pub returns-clause-rest : goal.returns-clause-rest
returns-clause-rest c =
    c.remove.ensures.lists c.args.list (first_is_in c.args.self.now c.args.list _ c.in_ok-node.ensures.first)
    ∙ ap (with_list c.args.self.now c.args.list) (without_first_at c.args.self.now c.args.list _ c.first.ensures.valid c.in_ok-node.ensures.first)
