-- Calls whose numbers rise.
use Rattle.std.proofs.Common.{◌≡◌, ℕ, suc, ◌<◌, ◌≤◌, ◌++◌, inl, inr, Bool, true, false, not, nat_lt, leb, List, [], ◌∷◌, map, filter, Some, refl, sym, ap, subst, ◌∙◌, arith, slice_get}
use Rattle.std.specs.List.{All, AllByRecursion, list_all}
use Rattle.std.proofs.lemmas.Bool.{cases_Bool, cases_lt, lt-ltb, le-ltb, le-leb, lt-leb, and_from, and_left}
use Rattle.client_model.specs.Order.{Footprint}
use Rattle.index_lists.specs.NodeLists.{has}
use Rattle.index_lists.proofs.Linking.{split_eq}
use Rattle.dep_order.specs.Fields.{IsRising}

-- each call has a number below n
abbrev pub Below : ℕ → List (ℕ × Footprint) → Type 0
Below n ks = AllByRecursion (λ (k : ℕ × Footprint). k.0 < n) ks

pub below_all : (n : ℕ) (ks : List (ℕ × Footprint)) → All (λ k. k.0 < n) ks → Below n ks
below_all n [] h = tt
below_all n (k ∷ ks) h = (h 0 k (omega arith), below_all n ks (λ j d lt. h (suc j) d (omega arith)))

above_push : (low : ℕ) (ks : List (ℕ × Footprint)) (k : ℕ × Footprint) → AllByRecursion (λ (j : ℕ × Footprint). low < j.0) ks → low < k.0 → AllByRecursion (λ (j : ℕ × Footprint). low < j.0) (ks ++ k ∷ [])
above_push low [] k h lt = (lt, tt)
above_push low (j ∷ ks) k h lt = (h.0, above_push low ks k h.1 lt)

-- one with a greater number put at the end
pub rising_push : (ks : List (ℕ × Footprint)) (k : ℕ × Footprint) → IsRising ks → Below k.0 ks → IsRising (ks ++ k ∷ [])
rising_push [] k h below = (tt, tt)
rising_push (j ∷ ks) k h below = (above_push j.0 ks k h.0 below.0, rising_push ks k h.1 below.1)

above_filter : (test : ℕ × Footprint → Bool) (low : ℕ) (ks : List (ℕ × Footprint)) → AllByRecursion (λ (j : ℕ × Footprint). low < j.0) ks → AllByRecursion (λ (j : ℕ × Footprint). low < j.0) (filter test ks)
above_filter test low [] h = tt
above_filter test low (k ∷ ks) h = elim (cases_Bool (test k)) [
  | inl t ↦ rw t (h.0, above_filter test low ks h.1)
  | inr f ↦ rw f (above_filter test low ks h.1)
]

-- some taken out
pub rising_filter : (test : ℕ × Footprint → Bool) (ks : List (ℕ × Footprint)) → IsRising ks → IsRising (filter test ks)
rising_filter test [] h = tt
rising_filter test (k ∷ ks) h = elim (cases_Bool (test k)) [
  | inl t ↦ rw t (above_filter test k.0 ks h.0, rising_filter test ks h.1)
  | inr f ↦ rw f (rising_filter test ks h.1)
]

above_there : (at : ℕ → ℕ × Footprint) (low : ℕ) (xs : List ℕ) (p : ℕ) → AllByRecursion (λ (j : ℕ × Footprint). low < j.0) (map at xs) → has xs p ≡ true → low < (at p).0
above_there at low [] p h there = absurd cc
above_there at low (x ∷ xs) p h there = elim (split_eq p x) [
  | inl e ↦ subst (λ q. low < (at q).0) (sym e.0) h.0
  | inr ne ↦ let behind : has xs p ≡ true = rw ne.1 at there in above_there at low xs p h.1 behind
]

-- and each place has such a call
pub below_there : (at : ℕ → ℕ × Footprint) (n : ℕ) (xs : List ℕ) (p : ℕ) → Below n (map at xs) → has xs p ≡ true → (at p).0 < n
below_there at n [] p h there = absurd cc
below_there at n (x ∷ xs) p h there = elim (split_eq p x) [
  | inl e ↦ subst (λ q. (at q).0 < n) (sym e.0) h.0
  | inr ne ↦ let behind : has xs p ≡ true = rw ne.1 at there in below_there at n xs p h.1 behind
]

-- no two have one number
pub rising_alone : (at : ℕ → ℕ × Footprint) (xs : List ℕ) (p q : ℕ) → IsRising (map at xs) → has xs p ≡ true → has xs q ≡ true → (at p).0 ≡ (at q).0 → p ≡ q
rising_alone at [] p q h there there' same = absurd cc
rising_alone at (x ∷ xs) p q h there there' same = elim (split_eq p x) [
  | inl e ↦ elim (split_eq q x) [
    | inl e' ↦ e.0 ∙ sym e'.0
    | inr ne' ↦
        let behind : has xs q ≡ true = rw ne'.1 at there' in
        let above = above_there at (at x).0 xs q h.0 behind in
        let first = ap (λ r. (at r).0) e.0 in
        absurd (omega arith)
  ]
  | inr ne ↦
      let behind : has xs p ≡ true = rw ne.1 at there in
      elim (split_eq q x) [
        | inl e' ↦
            let above = above_there at (at x).0 xs p h.0 behind in
            let first = ap (λ r. (at r).0) e'.0 in
            absurd (omega arith)
        | inr ne' ↦ let behind' : has xs q ≡ true = rw ne'.1 at there' in rising_alone at xs p q h.1 behind behind' same
      ]
]

-- none has a number below that of the first
none_below : (n : ℕ) (ks : List (ℕ × Footprint)) (low : ℕ) → n ≤ low → AllByRecursion (λ (j : ℕ × Footprint). low < j.0) ks → list_all (λ k. not (nat_lt k.0 n)) ks ≡ true
none_below n [] low le h = refl
none_below n (k ∷ ks) low le h =
    let f : not (nat_lt k.0 n) ≡ true = let no = le-ltb k.0 n (let lt = h.0 in omega arith) in rw no refl in
    and_from (not (nat_lt k.0 n)) (list_all (λ j. not (nat_lt j.0 n)) ks) f (none_below n ks low le h.1)

pub first_tells : (at : ℕ → ℕ × Footprint) (xs : List ℕ) (n p : ℕ) → IsRising (map at xs) → Some p ≡ slice_get xs 0 → list_all (λ k. not (nat_lt k.0 n)) (map at xs) ≡ leb n (at p).0
first_tells at [] n p h first = absurd cc
first_tells at (x ∷ xs) n p h first =
    let same : p ≡ x = cc in
    let is = ap (λ q. leb n (at q).0) same in
    let rest : Bool = list_all (λ k. not (nat_lt k.0 n)) (map at xs) in
    elim (cases_lt (at x).0 n) [
      | inl lt ↦
          let t = lt-ltb (at x).0 n lt in
          let f : not (nat_lt (at x).0 n) ≡ false = rw t refl in
          and_left (not (nat_lt (at x).0 n)) rest f ∙ sym (is ∙ lt-leb n (at x).0 lt)
      | inr ge ↦
          let no = le-ltb (at x).0 n ge in
          let t : not (nat_lt (at x).0 n) ≡ true = rw no refl in
          and_from (not (nat_lt (at x).0 n)) rest t (none_below n (map at xs) (at x).0 ge h.0) ∙ sym (is ∙ le-leb n (at x).0 ge)
    ]
