use Rattle.std.proofs.Common.{refl}
use Rattle.hash_buckets.specs.PageMap.{with_entry}
use Rattle.hash_buckets.proofs.Calls.{Leaves, is_there, replaced}
use Rattle.hash_buckets.proofs.table.Table.replace.Goals as goal

pub slot_of-at-requires : goal.slot_of-at-requires
slot_of-at-requires c = is_there c.self.invariant _ c.self.view_is _ c.home-home.ensures.below _ c.bucket.ensures _ c.home-home.ensures.value c.requires

left : (c : goal.After-write) → Leaves c.write.new.self.slots.items (with_entry c.args.self.now (c.args.space.0, c.args.vpn.0) c.args.pte)
left c = replaced c.self.invariant _ c.self.view_is _ c.home-home.ensures.below _ c.bucket.ensures _ c.home-home.ensures.value _ _ c.slot_of-at.ensures.within _ refl c.write.ensures c.slot_of-at.ensures.found

pub invariant_of-self : goal.invariant_of-self
invariant_of-self c = (left c).sound

pub returns-clause-entries : goal.returns-clause-entries
returns-clause-entries c = (left c).map

pub returns-clause-valid : goal.returns-clause-valid
returns-clause-valid c = (left c).valid
