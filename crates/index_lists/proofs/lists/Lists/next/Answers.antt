use Rattle.std.proofs.Common.{arith}
use Rattle.index_lists.proofs.Looks.{held_below, next_some, next_none}
use Rattle.index_lists.proofs.Seen.{seen_valid}
use Rattle.index_lists.proofs.lists.Lists.next.Goals as goal

pub index-behind-requires : goal.index-behind-requires
index-behind-requires c = omega (arith, (held_below c.self.invariant c.self.view_is c.requires).next_in)

pub returns-then-behind-self : goal.returns-then-behind-self
returns-then-behind-self c = record {
  next = next_some c.self.invariant c.self.view_is _ c.index-behind.ensures c.if-behind-self.true;
  valid = seen_valid c.self.invariant c.self.view_is;
}

pub returns-else-behind-self : goal.returns-else-behind-self
returns-else-behind-self c = record {
  next = next_none c.self.invariant c.self.view_is _ c.index-behind.ensures c.if-behind-self.false;
  valid = seen_valid c.self.invariant c.self.view_is;
}
