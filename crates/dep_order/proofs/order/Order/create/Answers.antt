use Rattle.std.proofs.Common.{refl}
use Rattle.std.specs.Vec.{vec_len}
use Rattle.dep_order.proofs.Made.{made_sound, filled_up}
use Rattle.dep_order.proofs.order.Order.create.Goals as goal

pub invariant_of-result : goal.invariant_of-result
invariant_of-result c =
    let rows = filled_up 256 (vec_len c.new-rows.result) c.new-rows.result.items c.resize.new.self.items c.new-rows.ensures.items c.new-rows.ensures.len c.in_ok-resize.ensures.items in
    made_sound c.resize.new.self.items c.in_ok-all_free.field-0 c.in-Ok.waits 256 5120 1537 rows c.in_ok-all_free.ensures.free c.in_ok-all_free.ensures.valid c.in-Ok.ensures.empty c.in-Ok.ensures.valid refl refl refl
