-- Which numbers are in a list, and that none is there twice.
use Rattle.std.proofs.Common.{◌≡◌, ◌≢◌, ℕ, zero, suc, ◌+◌, ◌<◌, ◌≤◌, Bool, true, false, eqb, ◌||◌, ◌⊎◌, inl, inr, List, [], ◌∷◌, ◌++◌, length, drop, find, Some, None, refl, sym, ap, ◌∙◌, arith, slice_get}
use Rattle.std.specs.List.{AllByRecursion, IsDistinct, range_with_len}
use Rattle.std.proofs.lemmas.Bool.{cases_Bool, or_cases, or_left, or_right, eq-eqb, eqb-true}
use Rattle.std.proofs.lemmas.List.{length-set, get_or-set_same, get_or-set_other}
use Rattle.index_lists.specs.NodeLists.{NodeLists, has, list_at, with_list, without}
use Rattle.index_lists.proofs.Linking.{split_eq}
use Rattle.index_lists.proofs.Edits.{All-has, without_apart}

-- a number is in two lists where it is in one of them
pub has-append : (xs ys : List ℕ) (p : ℕ) → has (xs ++ ys) p ≡ (has xs p || has ys p)
has-append [] ys p = refl
has-append (x ∷ xs) ys p = elim (cases_Bool (eqb p x)) [ inl t ↦ rw t refl | inr f ↦ rw f (has-append xs ys p) ]

-- and in neither where it is not in both
pub has-append_false : (xs ys : List ℕ) (p : ℕ) → has (xs ++ ys) p ≡ false → (has xs p ≡ false) × (has ys p ≡ false)
has-append_false [] ys p h = (refl, h)
has-append_false (x ∷ xs) ys p h = elim (cases_Bool (eqb p x)) [ inl t ↦ absurd (let e = rw t at h in cc) | inr f ↦ rw f (has-append_false xs ys p (rw f at h)) ]

-- a new number at the end
pub IsDistinct-push : (xs : List ℕ) (p : ℕ) → IsDistinct eqb xs → has xs p ≡ false → IsDistinct eqb (xs ++ p ∷ [])
unfolding IsDistinct
IsDistinct-push [] p d h = (tt, tt)
IsDistinct-push (x ∷ xs) p d h = elim (split_eq p x) [
  | inl t ↦ absurd (let e = rw t.1 at h in cc)
  | inr f ↦ (all_push (λ y. eqb x y ≡ false) xs p d.0 (elim (split_eq x p) [ inl u ↦ absurd (f.0 (sym u.0)) | inr u ↦ u.1 ]), IsDistinct-push xs p d.1 (rw f.1 at h))
]
  where
    all_push : (P : ℕ → Type 0) (xs : List ℕ) (p : ℕ) → AllByRecursion P xs → P p → AllByRecursion P (xs ++ p ∷ [])
    all_push P [] p all h = (h, tt)
    all_push P (x ∷ xs) p all h = (all.0, all_push P xs p all.1 h)

-- without the first number
pub IsDistinct-tail : (x : ℕ) (xs : List ℕ) → IsDistinct eqb (x ∷ xs) → IsDistinct eqb xs
unfolding IsDistinct
IsDistinct-tail x xs d = d.1

pub has-drop : (n : ℕ) (xs : List ℕ) (p : ℕ) → has (drop n xs) p ≡ true → has xs p ≡ true
has-drop zero xs p h = h
has-drop (suc n) [] p h = h
has-drop (suc n) (x ∷ xs) p h = elim (cases_Bool (eqb p x)) [ inl t ↦ rw t refl | inr f ↦ rw f (has-drop n xs p h) ]

-- it is in the one or the other
pub has-append_cases : (xs ys : List ℕ) (p : ℕ) → has (xs ++ ys) p ≡ true → (has xs p ≡ true) ⊎ (has ys p ≡ true)
has-append_cases [] ys p h = inr h
has-append_cases (x ∷ xs) ys p h = elim (cases_Bool (eqb p x)) [ inl t ↦ inl (rw t refl) | inr f ↦ rw f (has-append_cases xs ys p (rw f at h)) ]

pub has-append_left : (xs ys : List ℕ) (p : ℕ) → has xs p ≡ true → has (xs ++ ys) p ≡ true
has-append_left xs ys p h = has-append xs ys p ∙ rw h refl

pub has-append_right : (xs ys : List ℕ) (p : ℕ) → has ys p ≡ true → has (xs ++ ys) p ≡ true
has-append_right xs ys p h = has-append xs ys p ∙ (elim (cases_Bool (has xs p)) [ inl t ↦ rw t refl | inr f ↦ rw (f, h) refl ])

-- the first number of a list is in no rest of it
pub apart_has : (x : ℕ) (xs : List ℕ) → AllByRecursion (λ y. eqb x y ≡ false) xs → has xs x ≡ false
apart_has x [] all = refl
apart_has x (y ∷ ys) all = rw all.0 (apart_has x ys all.1)

pub head_apart : (x : ℕ) (xs : List ℕ) → IsDistinct eqb (x ∷ xs) → AllByRecursion (λ y. eqb x y ≡ false) xs
unfolding IsDistinct
head_apart x xs d = d.0

-- ---- a place
-- what stands at a place of the list is in it
pub has_at : (xs : List ℕ) (k n : ℕ) → slice_get xs k ≡ Some n → has xs n ≡ true
has_at [] k n at = absurd cc
has_at (x ∷ xs) zero n at = let same : x ≡ n = cc in or_left (eqb n x) (has xs n) (eq-eqb n x (sym same))
has_at (x ∷ xs) (suc k) n at = or_right (eqb n x) (has xs n) (has_at xs k n at)

-- ---- one number more at the end
pub has-push_cases : (xs : List ℕ) (n m : ℕ) → has (xs ++ n ∷ []) m ≡ true → (has xs m ≡ true) ⊎ (m ≡ n)
has-push_cases [] n m h = elim (or_cases (eqb m n) false h) [ inl e ↦ inr (eqb-true m n e) | inr f ↦ absurd cc ]
has-push_cases (x ∷ xs) n m h = elim (or_cases (eqb m x) (has (xs ++ n ∷ []) m) h) [
  | inl e ↦ inl (or_left (eqb m x) (has xs m) e)
  | inr t ↦ elim (has-push_cases xs n m t) [ inl old ↦ inl (or_right (eqb m x) (has xs m) old) | inr e ↦ inr e ]
]

pub has-push_old : (xs : List ℕ) (n m : ℕ) → has xs m ≡ true → has (xs ++ n ∷ []) m ≡ true
has-push_old [] n m h = absurd cc
has-push_old (x ∷ xs) n m h = elim (or_cases (eqb m x) (has xs m) h) [
  | inl e ↦ or_left (eqb m x) (has (xs ++ n ∷ []) m) e
  | inr t ↦ or_right (eqb m x) (has (xs ++ n ∷ []) m) (has-push_old xs n m t)
]

pub has-push_new : (xs : List ℕ) (n : ℕ) → has (xs ++ n ∷ []) n ≡ true
has-push_new [] n = or_left (eqb n n) false (eq-eqb n n refl)
has-push_new (x ∷ xs) n = or_right (eqb n x) (has (xs ++ n ∷ []) n) (has-push_new xs n)

-- ---- one number less
pub has-without_cases : (n : ℕ) (xs : List ℕ) (m : ℕ) → has (without n xs) m ≡ true → (has xs m ≡ true) × (m ≢ n)
has-without_cases n [] m h = absurd cc
has-without_cases n (x ∷ xs) m h = elim (split_eq n x) [
  | inl t ↦ let rest : has (without n xs) m ≡ true = rw t.1 at h in let old = has-without_cases n xs m rest in (or_right (eqb m x) (has xs m) old.0, old.1)
  | inr f ↦ let kept : has (x ∷ without n xs) m ≡ true = rw f.1 at h in elim (or_cases (eqb m x) (has (without n xs) m) kept) [
    | inl e ↦ (or_left (eqb m x) (has xs m) e, λ same. f.0 (sym same ∙ eqb-true m x e))
    | inr r ↦ let old = has-without_cases n xs m r in (or_right (eqb m x) (has xs m) old.0, old.1)
  ]
]

pub length-without : (n : ℕ) (xs : List ℕ) → IsDistinct eqb xs → has xs n ≡ true → length (without n xs) + 1 ≡ length xs
unfolding IsDistinct
length-without n [] apart h = absurd cc
length-without n (x ∷ xs) apart h = elim (split_eq n x) [
  | inl t ↦
      let gone : has xs n ≡ false = elim (cases_Bool (has xs n)) [ inl there ↦ absurd (let never = All-has (λ z. eqb x z ≡ false) xs n apart.0 there in let always = eq-eqb x n (sym t.0) in cc) | inr none ↦ none ] in
      let same = ap (length {A = ℕ}) (without_apart n xs gone) in
      rw t.1 (omega arith)
  | inr f ↦
      let there : has xs n ≡ true = elim (or_cases (eqb n x) (has xs n) h) [ inl e ↦ absurd cc | inr r ↦ r ] in
      let rest = length-without n xs apart.1 there in
      rw f.1 (omega arith)
]

-- the first of distinct numbers is not among the others
pub first_gone : (xs : List ℕ) (n : ℕ) → IsDistinct eqb xs → Some n ≡ slice_get xs 0 → has (drop 1 xs) n ≡ true → ⊥
unfolding IsDistinct
first_gone [] n apart e h = cc
first_gone (x ∷ xs) n apart e h = let same : n ≡ x = cc in let never = All-has (λ z. eqb x z ≡ false) xs n apart.0 h in let always = eq-eqb x n (sym same) in cc

-- ---- ranges
-- the numbers of a range
pub has-range : (a n p : ℕ) → has (range_with_len a n) p ≡ true → (a ≤ p) × (p < a + n)
has-range a zero p h = absurd cc
has-range a (suc n) p h = elim (split_eq p a) [
  | inl t ↦ (omega (arith, t.0), omega (arith, t.0))
  | inr f ↦ let rest = has-range (a + 1) n p (rw f.1 at h) in (omega (arith, rest.0), omega (arith, rest.1))
]

-- ---- searches
-- what a search finds is in the list, and is sought
pub find_some : (wanted : ℕ → Bool) (xs : List ℕ) (m : ℕ) → find wanted xs ≡ Some m → (has xs m ≡ true) × (wanted m ≡ true)
find_some wanted [] m h = absurd cc
find_some wanted (x ∷ xs) m h = elim (cases_Bool (wanted x)) [
  | inl t ↦ let here : Some x ≡ Some m = rw t at h in let same : x ≡ m = cc in (or_left (eqb m x) (has xs m) (eq-eqb m x (sym same)), ap wanted (sym same) ∙ t)
  | inr f ↦ let rest : find wanted xs ≡ Some m = rw f at h in let found = find_some wanted xs m rest in (or_right (eqb m x) (has xs m) found.0, found.1)
]

-- and where it finds nothing, nothing in the list is
pub find_none : (wanted : ℕ → Bool) (xs : List ℕ) → find wanted xs ≡ None → (m : ℕ) → has xs m ≡ true → wanted m ≡ false
find_none wanted [] h m there = absurd cc
find_none wanted (x ∷ xs) h m there = elim (cases_Bool (wanted x)) [
  | inl t ↦ absurd (let here : Some x ≡ None = rw t at h in cc)
  | inr f ↦ let rest : find wanted xs ≡ None = rw f at h in elim (split_eq m x) [
    | inl e ↦ ap wanted e.0 ∙ f
    | inr ne ↦ let behind : has xs m ≡ true = rw ne.1 at there in find_none wanted xs rest m behind
  ]
]

-- ---- one list of several
pub list_at_same : (v : NodeLists) (l : ℕ) (xs : List ℕ) → l < length v.lists → list_at (with_list v l xs) l ≡ xs
list_at_same v l xs within = get_or-set_same v.lists l xs [] within

pub list_at_other : (v : NodeLists) (l m : ℕ) (xs : List ℕ) → m ≢ l → list_at (with_list v l xs) m ≡ list_at v m
list_at_other v l m xs ne = get_or-set_other v.lists l m xs [] ne

pub lists_same : (v : NodeLists) (l : ℕ) (xs : List ℕ) → length (with_list v l xs).lists ≡ length v.lists
lists_same v l xs = length-set v.lists l xs
