-- The records in their order, as the places are filled in turn.
use Rattle.std.proofs.Common.{◌≡◌, ℕ, ◌+◌, ◌<◌, cond, eqb, inl, inr, List, [], ◌∷◌, ◌++◌, length, set, take, drop, sym, ◌∙◌, subst, arith}
use Rattle.std.proofs.lemmas.Bool.{cases_Bool, eqb-true}
use Rattle.std.proofs.lemmas.List.{take-append-drop, append-nil, append_assoc, drop_all, drop_more, drop-set-lt, length-append, length-drop, length-set, length-take, take_all, take_more_set}
use Rattle.retry_buffer.specs.declared.noted.Noted.{Noted}
use Rattle.retry_buffer.specs.Fields.{in_turn}
use Rattle.retry_buffer.proofs.Records.{IsOneOf, one_of-append_left, one_of-append_right, one_of-append_cases}

-- what stands at the places is what there is in turn
pub one_in_turn : (slots : List Noted) (oldest : ℕ) (r : Noted) → IsOneOf r slots → IsOneOf r (in_turn oldest slots)
one_in_turn slots oldest r one = elim (one_of-append_cases (take oldest slots) (drop oldest slots) r (subst (IsOneOf r) (sym (take-append-drop oldest slots)) one)) [
  | inl a ↦ one_of-append_right (drop oldest slots) (take oldest slots) r a
  | inr b ↦ one_of-append_left (drop oldest slots) (take oldest slots) r b
]

pub one_at_place : (slots : List Noted) (oldest : ℕ) (r : Noted) → IsOneOf r (in_turn oldest slots) → IsOneOf r slots
one_at_place slots oldest r one = subst (IsOneOf r) (take-append-drop oldest slots) (elim (one_of-append_cases (drop oldest slots) (take oldest slots) r one) [
  | inl a ↦ one_of-append_right (take oldest slots) (drop oldest slots) r a
  | inr b ↦ one_of-append_left (take oldest slots) (drop oldest slots) r b
])

-- the place after the last is the first
abbrev pub place_after : ℕ → ℕ → ℕ
place_after place n = cond (eqb (place + 1) n) 0 (place + 1)

-- a record at the place of the oldest is the latest
pub in_turn-set : (slots : List Noted) (oldest : ℕ) (r : Noted) → oldest < length slots
    → in_turn (place_after oldest (length slots)) (set slots oldest r) ≡ drop 1 (in_turn oldest slots) ++ r ∷ []
in_turn-set slots oldest r within = elim (cases_Bool (eqb (oldest + 1) (length slots))) [
  | inl last ↦
      let all : oldest + 1 ≡ length slots = eqb-true (oldest + 1) (length slots) last in
      let front : set slots oldest r ≡ take oldest slots ++ r ∷ [] = sym (take_all (oldest + 1) (set slots oldest r) (omega (arith, length-set slots oldest r))) ∙ take_more_set slots oldest r within in
      rw (last, drop_more slots oldest r within, drop_all (oldest + 1) slots (omega arith)) (append-nil (set slots oldest r) ∙ front)
  | inr other ↦
      rw (other, drop_more slots oldest r within, drop-set-lt (oldest + 1) slots oldest r (omega arith), take_more_set slots oldest r within)
      (sym (append_assoc (drop (oldest + 1) slots) (take oldest slots) (r ∷ [])))
]

-- there are as many as at the places
pub length-in_turn : (oldest : ℕ) (slots : List Noted) → length (in_turn oldest slots) ≡ length slots
length-in_turn oldest slots = omega (arith, length-append (drop oldest slots) (take oldest slots), length-drop oldest slots, length-take oldest slots)
