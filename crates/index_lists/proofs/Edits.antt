-- What holds of the elements of a list with a number put in or taken out.
use Rattle.std.proofs.Common.{◌≡◌, ◌≢◌, ℕ, ◌<◌, ◌≤◌, true, false, cond, eqb, ◌||◌, inl, inr, List, [], ◌∷◌, ◌++◌, drop, slice_get, Some, None, refl, sym, ap, ◌∙◌, arith}
use Rattle.std.specs.List.{AllByRecursion, IsDistinct, list_any}
use Rattle.std.proofs.lemmas.Bool.{cases_Bool, eq-eqb, ne_eqb}
use Rattle.index_lists.specs.NodeLists.{has, without, put_after, after}
use Rattle.index_lists.specs.Linked.{IsLinked}
use Rattle.index_lists.proofs.Linking.{split_eq, behind, IsLinked-last, apart_behind}

module _ (P : ℕ → Type 0) where
  pub All-has : (xs : List ℕ) (u : ℕ) → AllByRecursion P xs → has xs u ≡ true → P u
  All-has [] u all h = absurd cc
  All-has (x ∷ xs) u all h = elim (split_eq u x) [
    | inl t ↦ rw t.0 all.0
    | inr f ↦ All-has xs u all.1 (rw f.1 at h)
  ]

  pub has_false : (xs : List ℕ) (u : ℕ) → AllByRecursion P xs → (P u → ⊥) → has xs u ≡ false
  has_false xs u all absent = elim (cases_Bool (has xs u)) [ inl t ↦ absurd (absent (All-has xs u all t)) | inr f ↦ f ]

  pub All-behind : (y n a : ℕ) (xs : List ℕ) → P n → AllByRecursion P xs → AllByRecursion P (behind y n a xs)
  All-behind y n a [] pn all = elim (split_eq y a) [ inl t ↦ rw t.1 (pn, tt) | inr f ↦ rw f.1 tt ]
  All-behind y n a (x ∷ xs) pn all =
      let rest = All-behind y n x xs pn all.1 in
      elim (split_eq y a) [ inl t ↦ rw t.1 (pn, (all.0, rest)) | inr f ↦ rw f.1 (all.0, rest) ]

  pub All-without : (n : ℕ) (xs : List ℕ) → AllByRecursion P xs → AllByRecursion (λ x. P x × (n ≢ x)) (without n xs)
  All-without n [] all = tt
  All-without n (x ∷ xs) all = elim (split_eq n x) [
    | inl t ↦ rw t.1 (All-without n xs all.1)
    | inr f ↦ rw f.1 ((all.0, f.0), All-without n xs all.1)
  ]

  pub All-weaken : (Q : ℕ → Type 0) → ((x : ℕ) → P x → Q x) → (xs : List ℕ) → AllByRecursion P xs → AllByRecursion Q xs
  All-weaken Q w [] all = tt
  All-weaken Q w (x ∷ xs) all = (w x all.0, All-weaken Q w xs all.1)

pub has-behind_old : (y n a : ℕ) (xs : List ℕ) (m : ℕ) → has xs m ≡ true → has (behind y n a xs) m ≡ true
has-behind_old y n a [] m h = absurd cc
has-behind_old y n a (x ∷ xs) m h =
    let tail : has (x ∷ behind y n x xs) m ≡ true = elim (split_eq m x) [
      | inl t ↦ rw t.1 refl
      | inr f ↦ rw f.1 (has-behind_old y n x xs m (rw f.1 at h))
    ] in
    elim (split_eq y a) [
      | inl t ↦ rw t.1 (elim (cases_Bool (eqb m n)) [ inl s ↦ rw s refl | inr s ↦ rw s tail ])
      | inr f ↦ rw f.1 tail
    ]

pub has-behind_new : (y n a : ℕ) (xs : List ℕ) → has (a ∷ xs) y ≡ true → has (behind y n a xs) n ≡ true
has-behind_new y n a [] h = elim (split_eq y a) [ inl t ↦ rw (t.1, eq-eqb n n refl) refl | inr f ↦ absurd (let e = rw f.1 at h in cc) ]
has-behind_new y n a (x ∷ xs) h = elim (split_eq y a) [
  | inl t ↦ rw (t.1, eq-eqb n n refl) refl
  | inr f ↦ rw f.1 (elim (cases_Bool (eqb n x)) [
    | inl s ↦ rw s refl
    | inr s ↦ rw s (has-behind_new y n x xs (rw f.1 at h))
  ])
]

pub has-without : (n : ℕ) (xs : List ℕ) (m : ℕ) → m ≢ n → has xs m ≡ true → has (without n xs) m ≡ true
has-without n [] m ne h = absurd cc
has-without n (x ∷ xs) m ne h = elim (split_eq n x) [
  | inl t ↦ rw t.1 (has-without n xs m ne (rw (ne_eqb m x (λ e. ne (e ∙ sym t.0))) at h))
  | inr f ↦ rw f.1 (elim (split_eq m x) [
    | inl s ↦ rw s.1 refl
    | inr s ↦ rw s.1 (has-without n xs m ne (rw s.1 at h))
  ])
]

pub behind_apart : (y n a : ℕ) (xs : List ℕ) → y ≢ a → has xs y ≡ false → behind y n a xs ≡ xs
behind_apart y n a [] ne h = rw (ne_eqb y a ne) refl
behind_apart y n a (x ∷ xs) ne h = elim (split_eq y x) [
  | inl t ↦ absurd (let e = rw t.1 at h in cc)
  | inr f ↦ rw (ne_eqb y a ne) (ap (λ ys. x ∷ ys) (behind_apart y n x xs f.0 (rw f.1 at h)))
]

pub without_apart : (n : ℕ) (xs : List ℕ) → has xs n ≡ false → without n xs ≡ xs
without_apart n [] h = refl
without_apart n (x ∷ xs) h = elim (split_eq n x) [
  | inl t ↦ absurd (let e = rw t.1 at h in cc)
  | inr f ↦ rw f.1 (ap (λ ys. x ∷ ys) (without_apart n xs (rw f.1 at h)))
]

-- behind a sentinel: at the front
pub behind_first : (n a : ℕ) (xs : List ℕ) → has xs a ≡ false → behind a n a xs ≡ n ∷ xs
behind_first n a [] h = rw (eq-eqb a a refl) refl
behind_first n a (x ∷ xs) h = elim (split_eq a x) [
  | inl t ↦ absurd (let e = rw t.1 at h in cc)
  | inr f ↦ rw (eq-eqb a a refl) (ap (λ ys. n ∷ x ∷ ys) (behind_apart a n x xs f.0 (rw f.1 at h)))
]

-- behind a node of the list
pub behind_put : (y n a : ℕ) (xs : List ℕ) → behind y n a xs ≡ cond (eqb y a) (n ∷ put_after y n xs) (put_after y n xs)
behind_put y n a [] = refl
behind_put y n a (x ∷ xs) = rw (behind_put y n x xs) (elim (cases_Bool (eqb y x)) [ inl t ↦ rw t refl | inr f ↦ rw f refl ])

All-any : (xs : List ℕ) → AllByRecursion (λ _. Unit {0}) xs
All-any [] = tt
All-any (x ∷ xs) = (tt, All-any xs)

all_differ : (x : ℕ) (xs : List ℕ) → has xs x ≡ false → AllByRecursion (λ y. eqb x y ≡ false) xs
all_differ x [] h = tt
all_differ x (y ∷ ys) h = elim (split_eq x y) [
  | inl t ↦ absurd (let e = rw t.1 at h in cc)
  | inr f ↦ (f.1, all_differ x ys (rw f.1 at h))
]

module _ (next prev : ℕ → ℕ) where
  -- behind the last place: at the end
  pub behind_last : (n a : ℕ) (xs : List ℕ) (b : ℕ) → has xs b ≡ false → IsLinked next prev a xs b → behind (prev b) n a xs ≡ xs ++ n ∷ []
  behind_last n a [] b h l = rw (eq-eqb (prev b) a l.1) refl
  behind_last n a (x ∷ xs) b h l = elim (split_eq b x) [
    | inl t ↦ absurd (let e = rw t.1 at h in cc)
    | inr f ↦
        let last = IsLinked-last next prev (λ _. Unit {0}) x xs b tt (All-any xs) l.2 in
        let ne : prev b ≢ a = λ e. f.0 (sym last.0 ∙ ap next e ∙ l.0) in
        rw (ne_eqb (prev b) a ne) (ap (λ ys. x ∷ ys) (behind_last n x xs b (rw f.1 at h) l.2))
  ]

  pub IsDistinct-IsLinked : (a : ℕ) (xs : List ℕ) (b : ℕ) → has xs a ≡ false → IsLinked next prev a xs b → IsDistinct eqb xs
  unfolding IsDistinct
  IsDistinct-IsLinked a [] b h l = tt
  IsDistinct-IsLinked a (x ∷ xs) b h l = elim (split_eq a x) [
    | inl t ↦ absurd (let e = rw t.1 at h in cc)
    | inr f ↦
        let apart = apart_behind next prev x x xs b a l.1 f.0 (rw f.1 at h) l.2 in
        (all_differ x xs apart, IsDistinct-IsLinked x xs b apart l.2)
  ]

  -- the first place behind an end, where the places of the list are below the ends
  pub first_is : (nodes a : ℕ) (xs : List ℕ) (b : ℕ) → nodes ≤ b → IsLinked next prev a xs b
      → (next a < nodes → Some (next a) ≡ slice_get xs 0) × (AllByRecursion (λ x. x < nodes) xs → nodes ≤ next a → None ≡ slice_get xs 0)
  first_is nodes a [] b le l = (λ lt. absurd (omega (arith, l.0)), λ all ge. refl)
  first_is nodes a (x ∷ xs) b le l = (λ lt. ap Some l.0, λ all ge. absurd (omega (arith, l.0, all.0)))

  pub after_is : (nodes n a : ℕ) (xs : List ℕ) (b : ℕ) → nodes ≤ b → AllByRecursion (λ x. x < nodes) xs → IsLinked next prev a xs b → has xs n ≡ true
      → (next n < nodes → Some (next n) ≡ after n xs) × (nodes ≤ next n → None ≡ after n xs)
  after_is nodes n a [] b le all l h = absurd cc
  after_is nodes n a (x ∷ xs) b le all l h = elim (split_eq n x) [
    | inl t ↦
        let first = first_is nodes x xs b le l.2 in
        rw (t.1, ap next t.0) (first.0, λ ge. first.1 all.1 ge)
    | inr f ↦ rw f.1 (after_is nodes n x xs b le all.1 l.2 (rw f.1 at h))
  ]

pub has-list_any : (xs : List ℕ) (q : ℕ) → list_any (eqb q) xs ≡ has xs q
has-list_any [] q = refl
has-list_any (x ∷ xs) q = ap (λ b. eqb q x || b) (has-list_any xs q)

pub IsDistinct-nil : IsDistinct eqb (let none : List ℕ = [] in none)
unfolding IsDistinct
IsDistinct-nil = tt

pub without_first : (xs : List ℕ) (n : ℕ) → Some n ≡ slice_get xs 0 → IsDistinct eqb xs → without n xs ≡ drop 1 xs
unfolding IsDistinct
without_first [] n h d = absurd cc
without_first (x ∷ xs) n h d =
    let same : n ≡ x = cc in
    rw (eq-eqb n x same) (without_apart n xs (rw same (has_false (λ y. eqb x y ≡ false) xs x d.0 (λ e. let t = eq-eqb x x refl in cc))))
