use Rattle.std.proofs.Common.{refl}
use Rattle.kv_offload.specs.Layout.{slot_place}
use Rattle.kv_offload.proofs.layout.slot_place.Goals as goal

pub returns : goal.returns
unfolding slot_place
returns c = refl
