use Rattle.std.proofs.Common.{arith}
use Rattle.hash_buckets.proofs.Calls.{load_is, slots_are, valid_done}
use Rattle.hash_buckets.proofs.table.Table.room.Goals as goal

pub returns-clause-room : goal.returns-clause-room
returns-clause-room c =
    let load = load_is c.self.invariant _ c.self.view_is _ c.requires _ c.bucket.ensures in
    let slots = slots_are c.self.invariant _ c.self.view_is _ c.requires _ c.bucket.ensures in
    omega (arith, load, slots, c.used.ensures.count, c.used.ensures.bound)

pub returns-clause-valid : goal.returns-clause-valid
returns-clause-valid c = valid_done c.self.invariant _ c.self.view_is
