use Rattle.std.proofs.Common.{◌≡◌, map, take}
use Rattle.flat_model.specs.Objects.{empty_object}
use Rattle.flat_model.proofs.opening.empty_objects.Given as goal

abbrev pub invariant-loop-offload : goal.invariant-loop-offload
invariant-loop-offload l = l.objects.items ≡ map empty_object (take l.offload-index l.offloads)
