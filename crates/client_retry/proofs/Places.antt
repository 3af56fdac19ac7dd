-- Lists of places after one was put in or taken out.
use Rattle.std.proofs.Common.{◌≡◌, ℕ, zero, suc, ◌+◌, ◌≤◌, ◌⊎◌, inl, inr, Bool, true, false, not, eqb, List, [], ◌∷◌, length, Some, None, refl, sym, ap, ◌∙◌, arith, slice_get}
use Rattle.std.specs.List.{IsDistinct, insert, position_or_len}
use Rattle.std.proofs.lemmas.Bool.{or_cases, or_left, or_right, eq-eqb, eqb-true}
use Rattle.std.proofs.lemmas.List.{length-take}
use Rattle.std.proofs.lemmas.List.Folds.{length-prefix_len}
use Rattle.std.proofs.lemmas.Option.{slice_get-get_or}
use Rattle.index_lists.specs.NodeLists.{has, put_after}
use Rattle.index_lists.proofs.Linking.{split_eq}
use Rattle.index_lists.proofs.Edits.{All-has}
use Rattle.client_retry.specs.Walks.{back}
use Rattle.index_lists.proofs.Members.{has_at}

-- ---- put in at a place
pub in_insert : (xs : List ℕ) (k n m : ℕ) → has (insert xs k n) m ≡ true → (has xs m ≡ true) ⊎ (m ≡ n)
in_insert xs zero n m h = elim (or_cases (eqb m n) (has xs m) h) [ inl e ↦ inr (eqb-true m n e) | inr t ↦ inl t ]
in_insert [] (suc k) n m h = elim (or_cases (eqb m n) false h) [ inl e ↦ inr (eqb-true m n e) | inr f ↦ absurd cc ]
in_insert (x ∷ xs) (suc k) n m h = elim (or_cases (eqb m x) (has (insert xs k n) m) h) [
  | inl e ↦ inl (or_left (eqb m x) (has xs m) e)
  | inr t ↦ elim (in_insert xs k n m t) [ inl old ↦ inl (or_right (eqb m x) (has xs m) old) | inr e ↦ inr e ]
]

pub insert_old : (xs : List ℕ) (k n m : ℕ) → has xs m ≡ true → has (insert xs k n) m ≡ true
insert_old xs zero n m h = or_right (eqb m n) (has xs m) h
insert_old [] (suc k) n m h = absurd cc
insert_old (x ∷ xs) (suc k) n m h = elim (or_cases (eqb m x) (has xs m) h) [
  | inl e ↦ or_left (eqb m x) (has (insert xs k n) m) e
  | inr t ↦ or_right (eqb m x) (has (insert xs k n) m) (insert_old xs k n m t)
]

pub insert_new : (xs : List ℕ) (k n : ℕ) → has (insert xs k n) n ≡ true
insert_new xs zero n = or_left (eqb n n) (has xs n) (eq-eqb n n refl)
insert_new [] (suc k) n = or_left (eqb n n) false (eq-eqb n n refl)
insert_new (x ∷ xs) (suc k) n = or_right (eqb n x) (has (insert xs k n) n) (insert_new xs k n)

pub insert_longer : (xs : List ℕ) (k n : ℕ) → length (insert xs k n) ≡ length xs + 1
insert_longer xs zero n = omega arith
insert_longer [] (suc k) n = refl
insert_longer (x ∷ xs) (suc k) n = omega (arith, insert_longer xs k n)

-- right behind the number at place k
pub put_after_at : (xs : List ℕ) (k y n : ℕ) → IsDistinct eqb xs → slice_get xs k ≡ Some y → put_after y n xs ≡ insert xs (suc k) n
unfolding IsDistinct
put_after_at [] k y n apart at = absurd cc
put_after_at (x ∷ xs) zero y n apart at =
    let e : x ≡ y = cc in
    let same : eqb y x ≡ true = eq-eqb y x (sym e) in
    let gone : put_after y n xs ≡ xs = put_after_apart xs y n (λ h. let never = All-has (λ z. eqb x z ≡ false) xs y apart.0 h in let always = eq-eqb x y e in cc) in
    rw (same, gone) refl
  where
    put_after_apart : (xs : List ℕ) (y n : ℕ) → (has xs y ≡ true → ⊥) → put_after y n xs ≡ xs
    put_after_apart [] y n h = refl
    put_after_apart (x ∷ xs) y n h = elim (split_eq y x) [
      | inl t ↦ absurd (h (or_left (eqb y x) (has xs y) t.1))
      | inr f ↦ rw f.1 (ap (λ (ys : List ℕ). x ∷ ys) (put_after_apart xs y n (λ t. h (or_right (eqb y x) (has xs y) t))))
    ]
put_after_at (x ∷ xs) (suc k) y n apart at = elim (split_eq y x) [
  | inl t ↦ absurd (let never = All-has (λ z. eqb x z ≡ false) xs y apart.0 (has_at xs k y at) in let always = eq-eqb x y (sym t.0) in cc)
  | inr f ↦ rw f.1 (ap (λ (ys : List ℕ). x ∷ ys) (put_after_at xs k y n apart.1 at))
]

-- ---- put in behind the place before
-- at the front, where there is none before
pub placed_first : (xs : List ℕ) (k n : ℕ) → k ≤ length xs → None ≡ back xs k → n ∷ xs ≡ insert xs k n
placed_first xs zero n within e = refl
placed_first xs (suc k) n within e = absurd (let some = e ∙ slice_get-get_or xs k 0 (omega arith) in cc)

-- and else right behind it
pub placed_behind : (xs : List ℕ) (k y n : ℕ) → IsDistinct eqb xs → Some y ≡ back xs k → (has xs y ≡ true) × (put_after y n xs ≡ insert xs k n)
placed_behind xs zero y n apart e = absurd cc
placed_behind xs (suc k) y n apart e = (has_at xs k y (sym e), put_after_at xs k y n apart (sym e))

-- a place is no further than the end
pub place_within : (wanted : ℕ → Bool) (xs : List ℕ) → position_or_len wanted xs ≤ length xs
place_within wanted xs = omega (arith, length-prefix_len (λ x. not (wanted x)) xs, length-take (position_or_len wanted xs) xs)
