-- Tests that tell clients and parts apart.
use Rattle.std.proofs.Common.{◌≡◌, ℕ, refl, Bool, true, false, arith}
use Rattle.std.specs.Prelude.{◌&&◌, ◌==◌}
use Rattle.std.proofs.lemmas.Bool.Decides.{nat_tests}
use Rattle.cl_types.specs.declared.numbers.ClientNo.{ClientNo}
use Rattle.cl_types.specs.declared.reply.Part.{Part}
use Rattle.cl_types.specs.Parts.{same_part}
use Rattle.cl_types.specs.Parts.{same_client}

pub eqb_same : (n : ℕ) → (n == n) ≡ true
eqb_same n = grind (arith, nat_tests)

pub eqb_is : (m n : ℕ) → (m == n) ≡ true → m ≡ n
eqb_is m n e = grind (arith, nat_tests)

pub eqb_turned : (m n : ℕ) → (m == n) ≡ false → (n == m) ≡ false
eqb_turned m n e = grind (arith, nat_tests)

pub and_left : (a b : Bool) → (a && b) ≡ true → a ≡ true
and_left true b e = refl
and_left false b e = e

pub and_right : (a b : Bool) → (a && b) ≡ true → b ≡ true
and_right true b e = e
and_right false b e = grind arith

-- no test both passes and fails
pub contrary : (b : Bool) → b ≡ true → b ≡ false → ⊥
contrary b e f = grind arith

pub same_refl : (c : ClientNo) (p : Part) → (same_client c c && same_part p p) ≡ true
same_refl c p = rw (eqb_same c.0, eqb_same p.call.0, eqb_same p.part) refl

pub same_clients : (c d : ClientNo) → same_client c d ≡ true → c ≡ d
same_clients c d h = let x : c.0 ≡ d.0 = eqb_is c.0 d.0 h in λ i. record { 0 = x i }

pub same_is : (c d : ClientNo) (p q : Part) → (same_client c d && same_part p q) ≡ true → (c ≡ d) × (p ≡ q)
same_is c d p q h =
    let a = and_left (c.0 == d.0) (same_part p q) h in
    let b = and_right (c.0 == d.0) (same_part p q) h in
    let y : p.call.0 ≡ q.call.0 = eqb_is p.call.0 q.call.0 (and_left (p.call.0 == q.call.0) (p.part == q.part) b) in
    let z : p.part ≡ q.part = eqb_is p.part q.part (and_right (p.call.0 == q.call.0) (p.part == q.part) b) in
    (same_clients c d a, λ i. record { call = record { 0 = y i }; part = z i })
