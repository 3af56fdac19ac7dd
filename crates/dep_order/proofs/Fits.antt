-- The pages of a good call are fit.
use Rattle.std.proofs.Common.{◌≡◌, ℕ, ◌+◌, ◌*◌, ◌/◌, ◌%◌, ◌==◌, Bool, false, not, nat_lt, List, [], ◌∷◌, Some, None, inl, inr, arith}
use Rattle.std.proofs.lemmas.Bool.{cases_Bool, ltb-false}
use Rattle.cl_types.specs.declared.numbers.Addr.{Addr}
use Rattle.cl_types.specs.declared.call.Call.TheVariants.{Free}
use Rattle.cl_types.specs.declared.frame.IssueFault.{IssueFault}
use Rattle.cl_types.specs.declared.frame.IssueFault.TheVariants.{Empty, TooLong, BadAddress, Misaligned}
use Rattle.frame_model.specs.Faults.{first_fault}
use Rattle.client_model.specs.Issue.{call_faults, as_far_as_told}
use Rattle.dep_order.specs.WaitLists.{AreFit}

-- where there is no fault, no check holds
no_fault : (check : Bool × IssueFault) (checks : List (Bool × IssueFault)) → first_fault (check ∷ checks) ≡ None → (check.0 ≡ false) × (first_fault checks ≡ None)
no_fault check checks h = elim (cases_Bool check.0) [
  | inl t ↦ absurd (let some : Some check.1 ≡ None = rw t at h in cc)
  | inr f ↦ (f, rw f at h)
]

pub free_fit : (addr : Addr) (pages : ℕ) → first_fault (call_faults (Free addr pages)) ≡ None → AreFit (record { from = addr.0 / 4096; end = addr.0 / 4096 + pages })
free_fit addr pages h =
    let last : Bool × IssueFault = (not (addr.0 % 4096 == 0), Misaligned addr) in
    let bad : Bool × IssueFault = (nat_lt 268435456 (addr.0 + 4096 * pages), BadAddress addr (as_far_as_told (4096 * pages))) in
    let long : Bool × IssueFault = (nat_lt 1024 pages, TooLong (as_far_as_told pages)) in
    let some = no_fault (pages == 0, Empty) (long ∷ bad ∷ last ∷ []) h in
    let few = no_fault long (bad ∷ last ∷ []) some.1 in
    let within = no_fault bad (last ∷ []) few.1 in
    let most = ltb-false 1024 pages few.0 in
    let end = ltb-false 268435456 (addr.0 + 4096 * pages) within.0 in
    record { from = omega arith; end = omega arith; few = omega arith }
