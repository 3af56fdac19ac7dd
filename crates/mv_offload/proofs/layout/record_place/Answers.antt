use Rattle.std.proofs.Common.{refl}
use Rattle.mv_offload.specs.Layout.{record_place}
use Rattle.mv_offload.proofs.layout.record_place.Goals as goal

pub returns : goal.returns
unfolding record_place
returns c = refl
