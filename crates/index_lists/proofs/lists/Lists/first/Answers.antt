use Rattle.std.proofs.Common.{arith}
use Rattle.index_lists.proofs.Looks.{list_below, first_some, first_none}
use Rattle.index_lists.proofs.Seen.{seen_valid}
use Rattle.index_lists.proofs.lists.Lists.first.Goals as goal

pub index-node-requires : goal.index-node-requires
index-node-requires c = omega (arith, list_below c.self.invariant c.self.view_is c.requires)

pub returns-then-node-self : goal.returns-then-node-self
returns-then-node-self c = record {
  first = first_some c.self.invariant c.self.view_is c.requires c.index-node.ensures c.if-node-self.true;
  valid = seen_valid c.self.invariant c.self.view_is;
}

pub returns-else-node-self : goal.returns-else-node-self
returns-else-node-self c = record {
  first = first_none c.self.invariant c.self.view_is c.requires c.index-node.ensures c.if-node-self.false;
  valid = seen_valid c.self.invariant c.self.view_is;
}
