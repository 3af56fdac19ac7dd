-- What the bytes of an offload's space hold, and what a call tells of a step of it.
use Rattle.std.specs.Prelude.{ℕ, ◌≡◌, ◌≤◌, List, length, None, Result}
use Rattle.cl_types.specs.Config.{first_bad, judged_offloads}
use Rattle.cl_types.specs.declared.config.OffloadConfig.{OffloadConfig}
use Rattle.cl_types.specs.declared.config.OffloadConfig.TheVariants.{Kv}
use Rattle.cl_types.specs.declared.reply.Refusal.{Refusal}
use Rattle.flat_model.specs.Objects.{Object, empty_object, object_step}
use Rattle.kv_offload.specs.Stored.{IsStore, answered, given_by, object_in}

-- the offloads of a node: at most 16, each with numbers in their ranges
pub record AreOffloads (offloads : List OffloadConfig) : Type 0 where
  pub few : length offloads ≤ 16
  pub in_range : first_bad (judged_offloads offloads) ≡ None

-- how many records the store of an offload has
abbrev pub records_of : OffloadConfig → ℕ
records_of (Kv records) = records

-- the object of an offload that these bytes hold
abbrev pub object_of : OffloadConfig → List ℕ → Object
object_of (Kv records) contents = object_in records contents

-- the bytes hold an object of the offload, as `init` and each call leave it
abbrev pub HoldsObject : OffloadConfig → List ℕ → Type 0
HoldsObject (Kv records) contents = IsStore records contents

-- the bytes hold the object that the offload has at the opening
abbrev pub HoldsEmpty : OffloadConfig → List ℕ → Type 0
HoldsEmpty offload contents = object_of offload contents ≡ empty_object offload

-- an operation takes the object of the old bytes to that of the new, with its answer in front of out, or is refused
abbrev pub TakesStep :
    OffloadConfig → List ℕ → ℕ → List ℕ → Result ℕ Refusal → List ℕ → List ℕ → Type 0
TakesStep offload old op bytes result out new =
    given_by result (answered result out) (object_of offload new)
    ≡ object_step (object_of offload old) op bytes
