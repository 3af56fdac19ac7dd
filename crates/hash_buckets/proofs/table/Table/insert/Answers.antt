use Rattle.std.proofs.Common.{refl}
use Rattle.hash_buckets.specs.PageMap.{with_entry}
use Rattle.hash_buckets.proofs.Calls.{Leaves, has_room, inserted}
use Rattle.hash_buckets.proofs.table.Table.insert.Goals as goal

pub free_slot-at-requires : goal.free_slot-at-requires
free_slot-at-requires c = has_room c.self.invariant _ c.self.view_is _ c.home-home.ensures.below _ c.bucket.ensures _ c.home-home.ensures.value c.requires.room

left : (c : goal.After-write) → Leaves c.write.new.self.slots.items (with_entry c.args.self.now (c.args.space.0, c.args.vpn.0) c.args.pte)
left c = inserted c.self.invariant _ c.self.view_is _ c.home-home.ensures.below _ c.bucket.ensures _ c.home-home.ensures.value _ _ c.free_slot-at.ensures.within _ refl c.write.ensures c.requires.unmapped c.free_slot-at.ensures.free

pub invariant_of-self : goal.invariant_of-self
invariant_of-self c = (left c).sound

pub returns-clause-entries : goal.returns-clause-entries
returns-clause-entries c = (left c).map

pub returns-clause-valid : goal.returns-clause-valid
returns-clause-valid c = (left c).valid
