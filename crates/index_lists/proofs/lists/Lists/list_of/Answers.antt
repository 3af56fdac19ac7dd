use Rattle.index_lists.proofs.Looks.{list_of_some, list_of_none}
use Rattle.index_lists.proofs.Seen.{seen_valid}
use Rattle.index_lists.proofs.lists.Lists.list_of.Goals as goal

pub returns : goal.returns
returns c = record {
  found = list_of_some c.self.invariant c.self.view_is _ c.requires c.index.ensures;
  free = list_of_none c.self.invariant c.self.view_is _ c.requires c.index.ensures;
  valid = seen_valid c.self.invariant c.self.view_is;
}
