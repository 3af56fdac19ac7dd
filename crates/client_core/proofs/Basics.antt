-- Numbers that differ, what cannot be, and the buffer of a call.
use Rattle.std.proofs.Common.{◌≡◌, ℕ, zero, ◌+◌, ◌<◌, ◌≤◌, ◌≢◌, [], ◌∷◌, refl, ap, sym, ◌∙◌, Some, None, Option, Bool, true, false, arith, length, get_or, set}
use Rattle.std.specs.Prelude.{◌==◌, ◌&&◌, ◌||◌, slice_get, not, nat_lt, option_map}
use Rattle.std.specs.List.{list_any}
use Rattle.std.proofs.lemmas.Bool.Decides.{nat_tests}
use Rattle.std.proofs.lemmas.List.{length-replicate}
use Rattle.cl_types.specs.Bytes.{zeros}
use Rattle.cl_types.specs.declared.limits.TheConstants.{CALL_BYTES, PART_BYTES}
use Rattle.cl_types.specs.declared.frame.IssueFault.TheVariants as fault
use Rattle.cl_types.specs.declared.call.Call.{Call}
use Rattle.cl_types.specs.declared.call.Call.TheVariants as call
use Rattle.cl_types.specs.declared.request.Request.TheVariants as request
use Rattle.client_model.specs.Cut.{cut}
use Rattle.frame_model.specs.Faults.{first_fault}
use Rattle.client_model.specs.Issue.{call_faults, bytes_faults, as_far_as_told}
use Rattle.client_model.specs.Order.{is_fence}
use Rattle.client_model.specs.Client.{emptied}

-- ---- numbers
pub eqb_below : (m n : ℕ) → m < n → (m == n) ≡ false
eqb_below m n h = grind (arith, nat_tests)

pub eqb_above : (m n : ℕ) → n < m → (m == n) ≡ false
eqb_above m n h = grind (arith, nat_tests)

pub contrary : {X : Type 0} (b : Bool) → b ≡ true → b ≡ false → X
contrary b t f = absurd cc

pub none_some : {X Y : Type 0} (x : X) → ◌≡◌ {A = Option X} None (Some x) → Y
none_some x h = absurd cc

-- ---- the buffer of a call
pub faults_emptied : (k : Call) → call_faults (emptied k) ≡ call_faults k
faults_emptied (call.Alloc pages perm) = refl
faults_emptied (call.Free addr pages) = refl
faults_emptied (call.Read addr buf) = ap (λ n. bytes_faults addr n CALL_BYTES n) (length-replicate (length buf) 0)
faults_emptied (call.Write addr bytes) = refl
faults_emptied (call.Atomic addr op) = refl
faults_emptied (call.Offload number op bytes buf) =
    ap (λ n. (nat_lt PART_BYTES (length bytes), fault.TooLong (as_far_as_told (length bytes))) ∷ (nat_lt PART_BYTES n, fault.TooLong (as_far_as_told n)) ∷ []) (length-replicate (length buf) 0)
faults_emptied call.Fence = refl

pub emptied_twice : (k : Call) → emptied (emptied k) ≡ emptied k
emptied_twice (call.Alloc pages perm) = refl
emptied_twice (call.Free addr pages) = refl
emptied_twice (call.Read addr buf) = ap (λ n. call.Read addr (zeros n)) (length-replicate (length buf) 0)
emptied_twice (call.Write addr bytes) = refl
emptied_twice (call.Atomic addr op) = refl
emptied_twice (call.Offload number op bytes buf) = ap (λ n. call.Offload number op bytes (zeros n)) (length-replicate (length buf) 0)
emptied_twice call.Fence = refl

pub fence_emptied : (k : Call) → is_fence (emptied k) ≡ is_fence k
fence_emptied (call.Alloc pages perm) = refl
fence_emptied (call.Free addr pages) = refl
fence_emptied (call.Read addr buf) = refl
fence_emptied (call.Write addr bytes) = refl
fence_emptied (call.Atomic addr op) = refl
fence_emptied (call.Offload number op bytes buf) = refl
fence_emptied call.Fence = refl

-- a Fence has no part
pub fence_parts : (k : Call) → is_fence k ≡ true → cut k ≡ []
fence_parts (call.Alloc pages perm) h = absurd cc
fence_parts (call.Free addr pages) h = absurd cc
fence_parts (call.Read addr buf) h = absurd cc
fence_parts (call.Write addr bytes) h = absurd cc
fence_parts (call.Atomic addr op) h = absurd cc
fence_parts (call.Offload number op bytes buf) h = absurd cc
fence_parts call.Fence h = refl
