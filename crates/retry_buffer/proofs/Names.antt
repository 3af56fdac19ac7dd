-- When two names are one.
use Rattle.std.proofs.Common.{◌≡◌, true, false, inl, inr, sym, subst, arith}
use Rattle.std.proofs.lemmas.Bool.{cases_Bool}
use Rattle.std.proofs.lemmas.Bool.Decides.{nat_tests}
use Rattle.node_model.specs.Nodes.{Name, same_name}
use Rattle.frame_model.proofs.FrameLemmas.{one_kind}

-- names that the test takes for one are equal
pub same_name_is : (a b : Name) → same_name a b ≡ true → a ≡ b
same_name_is a b same =
    let x : a.client.0 ≡ b.client.0 = grind (arith, nat_tests) in
    let y : a.kind ≡ b.kind = one_kind a.kind b.kind (grind (arith, nat_tests)) in
    let z : a.orig ≡ b.orig = grind (arith, nat_tests) in
    λ i. record { client = record { 0 = x i }; kind = y i; orig = z i }

pub same_name_self : (a : Name) → same_name a a ≡ true
same_name_self a = grind (arith, nat_tests)

-- the test doesn't mind which of the two is first
pub same_name_turned : (a b : Name) → same_name a b ≡ false → same_name b a ≡ false
same_name_turned a b apart = elim (cases_Bool (same_name b a)) [
  | inl same ↦ absurd (let other : same_name a b ≡ true = subst (λ n. same_name a n ≡ true) (sym (same_name_is b a same)) (same_name_self a) in cc)
  | inr other ↦ other
]
