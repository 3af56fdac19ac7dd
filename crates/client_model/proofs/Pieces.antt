-- The pieces into which a good call is cut.
use Rattle.std.proofs.Common.{◌≡◌, ℕ, zero, suc, ◌+◌, ◌-◌, ◌%◌, ◌≤◌, List, [], ◌∷◌, refl, Bool, true, false, cond, arith, Some, None}
use Rattle.std.specs.Prelude.{nat_lt, ◌==◌}
use Rattle.std.specs.List.{AllByRecursion as Each}
use Rattle.std.proofs.lemmas.Bool.Decides.{nat_tests}
use Rattle.cl_types.specs.declared.limits.TheConstants.{ADDRESS_END, PAGE_BYTES, PART_BYTES}
use Rattle.cl_types.specs.declared.frame.IssueFault.{IssueFault}
use Rattle.frame_model.specs.Faults.{first_fault}
use Rattle.client_model.specs.Cut.{pieces_within, piece_len}

-- ---- faults
pub no_faults : (fs : List (Bool × IssueFault)) → first_fault fs ≡ None → Each (λ (f : Bool × IssueFault). f.0 ≡ false) fs
no_faults [] e = tt
no_faults (f ∷ fs) e = go f.0 refl (no_faults fs) e
  where
    go : (b : Bool) → f.0 ≡ b → (first_fault fs ≡ None → Each (λ (f : Bool × IssueFault). f.0 ≡ false) fs) → cond b (Some f.1) (first_fault fs) ≡ None → Each (λ (f : Bool × IssueFault). f.0 ≡ false) (f ∷ fs)
    go true t rec e = grind arith
    go false t rec e = (t, rec e)

-- what the faults of bytes at an address leave
pub record GoodBytes (addr n most len : ℕ) : Type 0 where
  pub some : 1 ≤ n
  pub at_most : n ≤ most
  pub ends : addr + len ≤ ADDRESS_END

pub good_bytes : (addr n most len : ℕ) → (n == 0) ≡ false → nat_lt most n ≡ false → nat_lt ADDRESS_END (addr + len) ≡ false → GoodBytes addr n most len
good_bytes addr n most len x y z = record { some = grind (arith, nat_tests); at_most = grind (arith, nat_tests); ends = grind (arith, nat_tests) }

-- ---- pieces
pub record GoodPiece (at left : ℕ) (p : ℕ × ℕ) : Type 0 where
  pub some : 1 ≤ p.1
  pub most : p.1 ≤ PART_BYTES
  pub page : p.0 % PAGE_BYTES + p.1 ≤ PAGE_BYTES
  pub from : at ≤ p.0
  pub to : p.0 + p.1 ≤ at + left

piece_good : (at left : ℕ) → (left == 0) ≡ false → GoodPiece at left (at, piece_len at left)
piece_good at left e =
    let n : 1 ≤ left = grind (arith, nat_tests) in
    record { some = omega arith; most = omega arith; page = omega arith; from = omega arith; to = omega arith }

-- good pieces of what is left behind the first are good pieces of all
rest_good : (at left : ℕ) → (left == 0) ≡ false → (ps : List (ℕ × ℕ)) → Each (GoodPiece (at + piece_len at left) (left - piece_len at left)) ps → Each (GoodPiece at left) ps
rest_good at left e [] h = tt
rest_good at left e (p ∷ ps) h = (first, rest_good at left e ps h.1)
  where
    first : GoodPiece at left p
    first =
        let n : 1 ≤ left = grind (arith, nat_tests) in
        let from : at + piece_len at left ≤ p.0 = h.0.from in let to : p.0 + p.1 ≤ at + piece_len at left + (left - piece_len at left) = h.0.to in
        record { some = h.0.some; most = h.0.most; page = h.0.page; from = omega arith; to = omega arith }

pub pieces_good : (most at left : ℕ) → Each (GoodPiece at left) (pieces_within most at left)
pieces_good zero at left = tt
pieces_good (suc most) at left = go (left == 0) refl (pieces_good most (at + piece_len at left) (left - piece_len at left))
  where
    go : (b : Bool) → (left == 0) ≡ b → Each (GoodPiece (at + piece_len at left) (left - piece_len at left)) (pieces_within most (at + piece_len at left) (left - piece_len at left)) →
        Each (GoodPiece at left) (elim b [ true ↦ [] | false ↦ (at, piece_len at left) ∷ pieces_within most (at + piece_len at left) (left - piece_len at left) ])
    go true e h = tt
    go false e h = (piece_good at left e, rest_good at left e _ h)
