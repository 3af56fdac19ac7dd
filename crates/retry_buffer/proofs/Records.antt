-- What is found among records, and what a further record leaves of their validity.
use Rattle.std.proofs.Common.{◌≡◌, ℕ, zero, suc, ◌≤◌, true, false, ◌⊎◌, inl, inr, List, [], ◌∷◌, ◌++◌, drop, Some, None, refl, sym, ap, ◌∙◌, subst, slice_get}
use Rattle.std.specs.List.{AllByRecursion}
use Rattle.std.proofs.lemmas.Bool.{cases_Bool}
use Rattle.node_model.specs.Nodes.{Name, same_name}
use Rattle.retry_buffer.specs.declared.noted.Noted.{Noted}
use Rattle.retry_buffer.specs.Kept.{name_of, noted_as, AreNotedBy, AreInOrder, AreApart}
use Rattle.retry_buffer.proofs.Names.{same_name_is, same_name_self, same_name_turned}

-- r is one of the records
abbrev pub IsOneOf : Noted → List Noted → Type 0
IsOneOf r [] = ⊥
IsOneOf r (x ∷ xs) = (r ≡ x) ⊎ IsOneOf r xs

pub one_of_place : (xs : List Noted) (i : ℕ) (r : Noted) → slice_get xs i ≡ Some r → IsOneOf r xs
one_of_place [] i r at = absurd cc
one_of_place (x ∷ xs) zero r at = let same : r ≡ x = cc in inl same
one_of_place (x ∷ xs) (suc i) r at = inr (one_of_place xs i r at)

pub place_of_one : (xs : List Noted) (r : Noted) → IsOneOf r xs → (i : ℕ) × (slice_get xs i ≡ Some r)
place_of_one [] r one = elim one [ ]
place_of_one (x ∷ xs) r (inl same) = (zero, ap Some (sym same))
place_of_one (x ∷ xs) r (inr rest) = let there = place_of_one xs r rest in (suc there.0, there.1)

pub one_of-append_left : (xs ys : List Noted) (r : Noted) → IsOneOf r xs → IsOneOf r (xs ++ ys)
one_of-append_left [] ys r one = elim one [ ]
one_of-append_left (x ∷ xs) ys r (inl same) = inl same
one_of-append_left (x ∷ xs) ys r (inr rest) = inr (one_of-append_left xs ys r rest)

pub one_of-append_right : (xs ys : List Noted) (r : Noted) → IsOneOf r ys → IsOneOf r (xs ++ ys)
one_of-append_right [] ys r one = one
one_of-append_right (x ∷ xs) ys r one = inr (one_of-append_right xs ys r one)

pub one_of-append_cases : (xs ys : List Noted) (r : Noted) → IsOneOf r (xs ++ ys) → IsOneOf r xs ⊎ IsOneOf r ys
one_of-append_cases [] ys r one = inr one
one_of-append_cases (x ∷ xs) ys r (inl same) = inl (inl same)
one_of-append_cases (x ∷ xs) ys r (inr rest) = elim (one_of-append_cases xs ys r rest) [ inl a ↦ inl (inr a) | inr b ↦ inr b ]

-- where none has the name, none is found
pub none_found : (name : Name) (xs : List Noted) → ((r : Noted) → IsOneOf r xs → same_name name (name_of r) ≡ false) → noted_as name xs ≡ None
none_found name [] apart = refl
none_found name (x ∷ xs) apart = rw (apart x (inl refl)) (none_found name xs (λ r one. apart r (inr one)))

-- where none is found, none has the name
pub none_named : (name : Name) (xs : List Noted) → noted_as name xs ≡ None → (r : Noted) → IsOneOf r xs → same_name name (name_of r) ≡ false
none_named name [] none r one = elim one [ ]
none_named name (x ∷ xs) none r one = elim (cases_Bool (same_name name (name_of x))) [
  | inl same ↦ absurd (let found = rw same at none in cc)
  | inr other ↦ elim one [
    | inl is ↦ rw is other
    | inr rest ↦ none_named name xs (rw other at none) r rest
  ]
]

-- the record of the name is found
pub one_found : (name : Name) (xs : List Noted) (r : Noted) → AreApart xs → IsOneOf r xs → same_name name (name_of r) ≡ true → noted_as name xs ≡ Some r
one_found name [] r apart one same = elim one [ ]
one_found name (x ∷ xs) r apart (inl is) same = rw (← is, same) refl
one_found name (x ∷ xs) r apart (inr rest) same = elim (cases_Bool (same_name name (name_of x))) [
  | inl first ↦ absurd (
      let one : name_of x ≡ name_of r = sym (same_name_is name (name_of x) first) ∙ same_name_is name (name_of r) same in
      let other : same_name (name_of x) (name_of r) ≡ false = none_named (name_of x) xs apart.0 r rest in
      let itself = subst (λ n. same_name (name_of x) n ≡ true) one (same_name_self (name_of x)) in cc)
  | inr other ↦ rw other (one_found name xs r apart.1 rest same)
]

-- a further record of another name isn't found
none_found-push : (name : Name) (xs : List Noted) (r : Noted) → noted_as name xs ≡ None → same_name name (name_of r) ≡ false → noted_as name (xs ++ r ∷ []) ≡ None
none_found-push name xs r none other = none_found name (xs ++ r ∷ []) (λ s one. elim (one_of-append_cases xs (r ∷ []) s one) [
  | inl a ↦ none_named name xs none s a
  | inr (inl is) ↦ rw is other
  | inr (inr rest) ↦ elim rest [ ]
])

pub AreApart-push : (xs : List Noted) (r : Noted) → AreApart xs → noted_as (name_of r) xs ≡ None → AreApart (xs ++ r ∷ [])
AreApart-push [] r apart none = (refl, tt)
AreApart-push (x ∷ xs) r apart none =
    let other = none_named (name_of r) (x ∷ xs) none x (inl refl) in
    let rest : noted_as (name_of r) xs ≡ None = rw other at none in
    (none_found-push (name_of x) xs r apart.0 (same_name_turned (name_of r) (name_of x) other), AreApart-push xs r apart.1 rest)

All-push : (P : Noted → Type 0) (xs : List Noted) (r : Noted) → AllByRecursion P xs → P r → AllByRecursion P (xs ++ r ∷ [])
All-push P [] r all last = (last, tt)
All-push P (x ∷ xs) r all last = (all.0, All-push P xs r all.1 last)

pub AreInOrder-push : (xs : List Noted) (r : Noted) → AreInOrder xs → AreNotedBy r.moment xs → AreInOrder (xs ++ r ∷ [])
AreInOrder-push [] r ordered before = (tt, tt)
AreInOrder-push (x ∷ xs) r ordered before = (All-push (λ later. x.moment ≤ later.moment) xs r ordered.0 before.0, AreInOrder-push xs r ordered.1 before.1)

-- ---- without the first record
pub AreApart-tail : (xs : List Noted) → AreApart xs → AreApart (drop 1 xs)
AreApart-tail [] apart = tt
AreApart-tail (x ∷ xs) apart = apart.1

pub AreInOrder-tail : (xs : List Noted) → AreInOrder xs → AreInOrder (drop 1 xs)
AreInOrder-tail [] ordered = tt
AreInOrder-tail (x ∷ xs) ordered = ordered.1

pub AreNotedBy-tail : (now : ℕ) (xs : List Noted) → AreNotedBy now xs → AreNotedBy now (drop 1 xs)
AreNotedBy-tail now [] before = tt
AreNotedBy-tail now (x ∷ xs) before = before.1

pub none_found-tail : (name : Name) (xs : List Noted) → noted_as name xs ≡ None → noted_as name (drop 1 xs) ≡ None
none_found-tail name [] none = refl
none_found-tail name (x ∷ xs) none = none_found name xs (λ r one. none_named name (x ∷ xs) none r (inr one))
