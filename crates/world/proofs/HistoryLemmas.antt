-- An entry is put into its place.
use Rattle.std.proofs.Common.{◌≡◌, ℕ, zero, suc, ◌+◌, ◌≤◌, Bool, true, false, cond, List, [], ◌∷◌, Some, refl, ap, ◌∙◌, subst, length, not, arith}
use Rattle.std.specs.Prelude.{slice_get}
use Rattle.std.specs.List.{AllByRecursion as Each, insert, position_or_len}
use Rattle.std.proofs.lemmas.Bool.Decides.{nat_tests}
use Rattle.cl_types.specs.declared.line.Entry.{Entry}
use Rattle.trace.specs.Account.{is_before, with_entry}
use Rattle.trace.specs.Properties.{IsInOrder}

-- ---- places
module _ (l q : ℕ) where
  abbrev behind : Entry → Bool
  behind e = not (is_before l q e)

  pub place_within : (h : List Entry) → position_or_len behind h ≤ length h
  place_within [] = omega arith
  place_within (x ∷ h) = go (is_before l q x) (place_within h) where
    go : (b : Bool) → position_or_len behind h ≤ length h → cond (not (not b)) (1 + position_or_len behind h) 0 ≤ suc (length h)
    go true rest = omega (arith, rest)
    go false rest = omega arith

  -- an entry that doesn't stand before it is not in front of its place
  pub place_down : (h : List Entry) (at : ℕ) (e : Entry) → slice_get h at ≡ Some e → is_before l q e ≡ false → position_or_len behind h ≤ at
  place_down [] at e there past = absurd cc
  place_down (x ∷ h) zero e there past = let is : x ≡ e = cc in go (is_before l q x) (ap (is_before l q) is ∙ past) where
    go : (b : Bool) → b ≡ false → cond (not (not b)) (1 + position_or_len behind h) 0 ≤ 0
    go true h = absurd cc
    go false h = omega arith
  place_down (x ∷ h) (suc at) e there past = go (is_before l q x) (place_down h at e there past) where
    go : (b : Bool) → position_or_len behind h ≤ at → cond (not (not b)) (1 + position_or_len behind h) 0 ≤ suc at
    go true rest = omega (arith, rest)
    go false rest = omega arith

  earlier : (x e : Entry) → is_before x.line x.position e ≡ false → is_before l q e ≡ true → is_before l q x ≡ true
  earlier x e after before = grind (arith, nat_tests)

  each_at : (P : Entry → Type 0) (h : List Entry) (at : ℕ) (e : Entry) → Each P h → slice_get h at ≡ Some e → P e
  each_at P [] at e all there = absurd cc
  each_at P (x ∷ h) zero e all there = let is : x ≡ e = cc in subst P is all.0
  each_at P (x ∷ h) (suc at) e all there = each_at P h at e all.1 there

  -- the entries up to one that stands before it do so too
  pub place_up : (h : List Entry) (at : ℕ) (e : Entry) → IsInOrder h → slice_get h at ≡ Some e → is_before l q e ≡ true → at + 1 ≤ position_or_len behind h
  place_up [] at e order there before = absurd cc
  place_up (x ∷ h) zero e order there before = let is : x ≡ e = cc in go (is_before l q x) (ap (is_before l q) is ∙ before) where
    go : (b : Bool) → b ≡ true → 0 + 1 ≤ cond (not (not b)) (1 + position_or_len behind h) 0
    go true h = omega arith
    go false h = absurd cc
  place_up (x ∷ h) (suc at) e order there before =
      go (is_before l q x) (earlier x e (each_at (λ (y : Entry). is_before x.line x.position y ≡ false) h at e order.0 there) before) (place_up h at e order.1 there before) where
        go : (b : Bool) → b ≡ true → at + 1 ≤ position_or_len behind h → suc at + 1 ≤ cond (not (not b)) (1 + position_or_len behind h) 0
        go true h rest = omega (arith, rest)
        go false h rest = absurd cc

-- ---- an entry more
-- an entry that is inserted before the first that doesn't stand before it
pub inserted : (e : Entry) (h : List Entry) → insert h (position_or_len (λ x. not (is_before e.line e.position x)) h) e ≡ with_entry e h
inserted e [] = refl
inserted e (x ∷ h) = step (is_before e.line e.position x) (inserted e h) where
  place : ℕ
  place = position_or_len (λ x. not (is_before e.line e.position x)) h

  step : (b : Bool) → insert h place e ≡ with_entry e h
      → insert (x ∷ h) (cond (not (not b)) (1 + place) 0) e ≡ (elim b [ true ↦ x ∷ with_entry e h | false ↦ e ∷ x ∷ h ])
  step true same = let next : 1 + place ≡ suc place = omega arith in ap (λ k. insert (x ∷ h) k e) next ∙ ap (λ es. x ∷ es) same
  step false same = refl
