-- The objects of a list of offloads, by the bytes of their spaces.
use Rattle.std.proofs.Common.{◌≡◌, ◌≢◌, ℕ, zero, suc, ◌+◌, ◌≤◌, List, [], ◌∷◌, map, length, Some, None, IfSome, slice_get, slice_set, refl, sym, ap, ◌∙◌, subst, arith}
use Rattle.cl_types.specs.declared.config.OffloadConfig.{OffloadConfig}
use Rattle.cl_types.specs.declared.config.OffloadConfig.TheVariants.{Kv}
use Rattle.flat_model.specs.Objects.{empty_object}
use Rattle.offload_host.specs.Held.{HoldsEmpty, object_of}
use Rattle.node_core.specs.Keeping.{IsHeldIn}
use Rattle.node_core.specs.Stores.{objects_from}

-- the object of the offload that stands there
pub object_there : (bytes : ℕ → List ℕ) (k : ℕ) (offloads : List OffloadConfig) (n : ℕ) (offload : OffloadConfig) → slice_get offloads n ≡ Some offload
    → slice_get (objects_from bytes k offloads) n ≡ Some (object_of offload (bytes (k + n)))
object_there bytes k [] n offload there = absurd cc
object_there bytes k (first ∷ offloads) zero offload there =
    let same : first ≡ offload = cc there in
    let number : k ≡ k + 0 = omega arith in
    λ i. Some (object_of (same i) (bytes (number i)))
object_there bytes k (first ∷ offloads) (suc n) offload there =
    object_there bytes (k + 1) offloads n offload there ∙ ap (λ m. Some (object_of offload (bytes m))) (let same : k + 1 + n ≡ k + suc n = omega arith in same)

-- there is one for each offload
pub no_object_there : (bytes : ℕ → List ℕ) (k : ℕ) (offloads : List OffloadConfig) (n : ℕ) → slice_get offloads n ≡ None
    → slice_get (objects_from bytes k offloads) n ≡ None
no_object_there bytes k [] n none = refl
no_object_there bytes k (first ∷ offloads) zero none = absurd cc
no_object_there bytes k (first ∷ offloads) (suc n) none = no_object_there bytes (k + 1) offloads n none

-- a number without an offload is past them
pub none_past : (offloads : List OffloadConfig) (k : ℕ) → slice_get offloads k ≡ None → length offloads ≤ k
none_past [] k none = omega arith
none_past (offload ∷ offloads) zero none = absurd cc
none_past (offload ∷ offloads) (suc k) none = let rest = none_past offloads k none in omega (arith, rest)

-- the same bytes hold the same objects
pub objects_same : (old new : ℕ → List ℕ) (k : ℕ) (offloads : List OffloadConfig) → ((j : ℕ) → k ≤ j → new j ≡ old j)
    → objects_from new k offloads ≡ objects_from old k offloads
objects_same old new k [] same = refl
objects_same old new k (offload ∷ offloads) same =
    let here = same k (omega arith) in
    let rest = objects_same old new (k + 1) offloads (λ j above. same j (omega (arith, above))) in
    λ i. object_of offload (here i) ∷ rest i

-- where the bytes of one space change, the object of its offload is another
pub object_set : (old new : ℕ → List ℕ) (k : ℕ) (offloads : List OffloadConfig) (n : ℕ) (offload : OffloadConfig) → slice_get offloads n ≡ Some offload
    → ((j : ℕ) → j ≢ k + n → new j ≡ old j)
    → objects_from new k offloads ≡ slice_set (objects_from old k offloads) n (object_of offload (new (k + n)))
object_set old new k [] n offload there same = absurd cc
object_set old new k (first ∷ offloads) zero offload there same =
    let one : first ≡ offload = cc there in
    let number : k ≡ k + 0 = omega arith in
    let rest = objects_same old new (k + 1) offloads (λ j above. same j (λ is. let wrong : k + 1 ≤ k + 0 = omega (arith, is, above) in omega (arith, wrong))) in
    λ i. object_of (one i) (new (number i)) ∷ rest i
object_set old new k (first ∷ offloads) (suc n) offload there same =
    let number : k + 1 + n ≡ k + suc n = omega arith in
    let here = same k (λ is. omega (arith, is)) in
    let rest = object_set old new (k + 1) offloads n offload there (λ j other. same j (λ is. other (is ∙ sym number)))
    ∙ ap (λ m. slice_set (objects_from old (k + 1) offloads) n (object_of offload (new m))) number in
    λ i. object_of first (here i) ∷ rest i

-- where each space holds its offload's empty object, these are the objects
pub objects_empty : (bytes : ℕ → List ℕ) (k : ℕ) (offloads : List OffloadConfig)
    → ((n : ℕ) → IfSome (slice_get offloads n) (λ offload. HoldsEmpty offload (bytes (k + n)))) → objects_from bytes k offloads ≡ map empty_object offloads
objects_empty bytes k [] empty = refl
objects_empty bytes k (offload ∷ offloads) empty =
    let number : k + 0 ≡ k = omega arith in
    let here : object_of offload (bytes k) ≡ empty_object offload = subst (λ m. HoldsEmpty offload (bytes m)) number (empty 0) in
    let rest = objects_empty bytes (k + 1) offloads (λ n. let same : k + suc n ≡ k + 1 + n = omega arith in
    subst (λ m. IfSome (slice_get offloads n) (λ offload. HoldsEmpty offload (bytes m))) same (empty (suc n))) in
    λ i. here i ∷ rest i

-- ---- an object lies in the bytes of which it is read
held_of : (offload : OffloadConfig) (bytes : List ℕ) → IsHeldIn bytes (object_of offload bytes)
held_of (Kv records) bytes = refl

pub held_from : (bytes : ℕ → List ℕ) (k : ℕ) (offloads : List OffloadConfig) (n : ℕ) → IfSome (slice_get (objects_from bytes k offloads) n) (IsHeldIn (bytes (k + n)))
held_from bytes k [] n = tt
held_from bytes k (offload ∷ offloads) zero =
    let number : k ≡ k + 0 = omega arith in
    subst (λ m. IsHeldIn (bytes m) (object_of offload (bytes k))) number (held_of offload (bytes k))
held_from bytes k (offload ∷ offloads) (suc n) =
    let number : k + 1 + n ≡ k + suc n = omega arith in
    subst (λ m. IfSome (slice_get (objects_from bytes (k + 1) offloads) n) (IsHeldIn (bytes m))) number (held_from bytes (k + 1) offloads n)
