-- Lists that links spell, before and after some links change.
use Rattle.std.proofs.Common.{◌≡◌, ◌≢◌, ℕ, zero, suc, ◌+◌, ◌<◌, ◌≤◌, true, false, eqb, ◌⊎◌, inl, inr, List, [], ◌∷◌, ◌++◌, length, refl, sym, ap, subst, ◌∙◌, arith}
use Rattle.std.specs.List.{AllByRecursion, IsDistinct}
use Rattle.std.proofs.lemmas.Bool.{cases_Bool, eqb-true, eqb-false, eq-eqb, ne_eqb}
use Rattle.kv_offload.specs.Found.{last_of}
use Rattle.kv_offload.specs.Links.{has, IsLinked, chain}

-- a split by whether two numbers are equal, with what the test gives
pub split_eq : (a b : ℕ) → ((a ≡ b) × (eqb a b ≡ true)) ⊎ ((a ≢ b) × (eqb a b ≡ false))
split_eq a b = elim (cases_Bool (eqb a b)) [ inl t ↦ inl (eqb-true a b t, t) | inr f ↦ inr (eqb-false a b f, f) ]

pub has_head : (x : ℕ) (xs : List ℕ) → has (x ∷ xs) x ≡ true
has_head x xs = rw (eq-eqb x x refl) refl

pub has_more : (x n : ℕ) (xs : List ℕ) → has xs n ≡ true → has (x ∷ xs) n ≡ true
has_more x n xs h = elim (cases_Bool (eqb n x)) [ inl t ↦ rw t refl | inr f ↦ rw f h ]

pub has_cases : (x n : ℕ) (xs : List ℕ) → has (x ∷ xs) n ≡ true → (n ≡ x) ⊎ (has xs n ≡ true)
has_cases x n xs h = elim (split_eq n x) [ inl t ↦ inl t.0 | inr f ↦ inr (rw f.1 at h) ]

pub has_not : (x n : ℕ) (xs : List ℕ) → has (x ∷ xs) n ≡ false → (n ≢ x) × (has xs n ≡ false)
has_not x n xs h = elim (split_eq n x) [
  | inl t ↦ absurd (let e = rw t.1 at h in cc)
  | inr f ↦ (f.0, rw f.1 at h)
]

-- a number that is there and one that isn't differ
pub has_differ : (xs : List ℕ) (n m : ℕ) → has xs n ≡ true → has xs m ≡ false → n ≢ m
has_differ xs n m h g e = let there : has xs m ≡ true = subst (λ k. has xs k ≡ true) e h in cc

pub has_mid : (seen rest : List ℕ) (n : ℕ) → has (seen ++ n ∷ rest) n ≡ true
has_mid [] rest n = has_head n rest
has_mid (x ∷ seen) rest n = has_more x n (seen ++ n ∷ rest) (has_mid seen rest n)

pub has_seen : (seen rest : List ℕ) (n : ℕ) → has seen n ≡ true → has (seen ++ rest) n ≡ true
has_seen [] rest n h = absurd cc
has_seen (x ∷ seen) rest n h = elim (has_cases x n seen h) [
  | inl e ↦ rw (eq-eqb n x e) refl
  | inr there ↦ has_more x n (seen ++ rest) (has_seen seen rest n there)
]

pub has_push : (seen : List ℕ) (n m : ℕ) → has (seen ++ n ∷ []) m ≡ true → (has seen m ≡ true) ⊎ (m ≡ n)
has_push [] n m h = elim (has_cases n m [] h) [ inl e ↦ inr e | inr there ↦ inl there ]
has_push (x ∷ seen) n m h = elim (has_cases x m (seen ++ n ∷ []) h) [
  | inl e ↦ inl (rw (eq-eqb m x e) refl)
  | inr there ↦ elim (has_push seen n m there) [ inl was ↦ inl (has_more x m seen was) | inr e ↦ inr e ]
]

-- the last node stands among those that lead to it
pub last_in : (x : ℕ) (seen rest : List ℕ) → has (x ∷ (seen ++ rest)) (last_of x seen) ≡ true
last_in x [] rest = has_head x rest
last_in x (y ∷ seen) rest = has_more x (last_of y seen) (y ∷ (seen ++ rest)) (last_in y seen rest)

pub last_more : (x n : ℕ) (seen : List ℕ) → last_of x (seen ++ n ∷ []) ≡ n
last_more x n [] = refl
last_more x n (y ∷ seen) = last_more y n seen

-- the others stay where one is taken out
pub has_others : (seen rest : List ℕ) (n m : ℕ) → m ≢ n → has (seen ++ n ∷ rest) m ≡ true → has (seen ++ rest) m ≡ true
has_others [] rest n m ne h = elim (has_cases n m rest h) [ inl e ↦ absurd (ne e) | inr there ↦ there ]
has_others (x ∷ seen) rest n m ne h = elim (has_cases x m (seen ++ n ∷ rest) h) [
  | inl e ↦ rw (eq-eqb m x e) refl
  | inr there ↦ has_more x m (seen ++ rest) (has_others seen rest n m ne there)
]

pub has_before : (seen rest : List ℕ) (n m : ℕ) → has (seen ++ rest) m ≡ true → has (seen ++ n ∷ rest) m ≡ true
has_before [] rest n m h = has_more n m rest h
has_before (x ∷ seen) rest n m h = elim (has_cases x m (seen ++ rest) h) [
  | inl e ↦ rw (eq-eqb m x e) refl
  | inr there ↦ has_more x m (seen ++ n ∷ rest) (has_before seen rest n m there)
]

pub length_split : (seen rest : List ℕ) (n : ℕ) → length (seen ++ n ∷ rest) ≡ length (seen ++ rest) + 1
length_split [] rest n = omega arith
length_split (x ∷ seen) rest n = let h = length_split seen rest n in omega (arith, h)

all_differ : (x : ℕ) (xs : List ℕ) → has xs x ≡ false → AllByRecursion (λ y. eqb x y ≡ false) xs
all_differ x [] h = tt
all_differ x (y ∷ ys) h = let both = has_not y x ys h in (ne_eqb x y both.0, all_differ x ys both.1)

-- what the links behind a node of a list spell
pub record From (link : ℕ → ℕ) (node n : ℕ) : Type 0 where
  pub left : List ℕ
  pub linked : IsLinked link node left
  pub less : length left < n

module _ (link : ℕ → ℕ) where
  -- the links behind a node spell one list
  pub linked_once : (node : ℕ) (xs ys : List ℕ) → IsLinked link node xs → IsLinked link node ys → xs ≡ ys
  linked_once node [] [] l m = refl
  linked_once node [] (y ∷ ys) l m = let e : y ≡ 0 = sym m.0 ∙ l in absurd (omega (arith, e, m.1))
  linked_once node (x ∷ xs) [] l m = let e : x ≡ 0 = sym l.0 ∙ m in absurd (omega (arith, e, l.1))
  linked_once node (x ∷ xs) (y ∷ ys) l m =
      let same : x ≡ y = sym l.0 ∙ m.0 in
      let rest : xs ≡ ys = linked_once y xs ys (subst (λ z. IsLinked link z xs) same l.2) m.2 in
      cc

  pub linked_from : (node x : ℕ) (xs : List ℕ) → IsLinked link node xs → has xs x ≡ true → From link x (length xs)
  linked_from node x [] l h = absurd cc
  linked_from node x (y ∷ ys) l h = elim (split_eq x y) [
    | inl t ↦ record { left = ys; linked = subst (λ z. IsLinked link z ys) (sym t.0) l.2; less = omega arith }
    | inr f ↦
        let r = linked_from y x ys l.2 (rw f.1 at h) in
        record { left = r.left; linked = r.linked; less = omega (arith, r.less) }
  ]

  -- no node stands behind itself
  pub linked_apart : (node : ℕ) (xs : List ℕ) → IsLinked link node xs → has xs node ≡ false
  linked_apart node xs l = elim (cases_Bool (has xs node)) [
    | inl t ↦
        let r = linked_from node node xs l t in
        let e : length r.left ≡ length xs = ap length (linked_once node r.left xs r.linked l) in
        absurd (omega (arith, r.less, e))
    | inr f ↦ f
  ]

  pub linked_some : (node : ℕ) (xs : List ℕ) (n : ℕ) → IsLinked link node xs → has xs n ≡ true → 0 < n
  linked_some node [] n l h = absurd cc
  linked_some node (x ∷ xs) n l h = elim (has_cases x n xs h) [
    | inl e ↦ omega (arith, e, l.1)
    | inr there ↦ linked_some x xs n l.2 there
  ]

  pub IsDistinct-linked : (node : ℕ) (xs : List ℕ) → IsLinked link node xs → IsDistinct eqb xs
  unfolding IsDistinct
  IsDistinct-linked node [] l = tt
  IsDistinct-linked node (x ∷ xs) l = (all_differ x xs (linked_apart x xs l.2), IsDistinct-linked x xs l.2)

  -- the walk along the links gives the list
  pub chain_is : (fuel node : ℕ) (xs : List ℕ) → IsLinked link node xs → length xs ≤ fuel → chain fuel link node ≡ xs
  chain_is zero node [] l le = refl
  chain_is zero node (x ∷ xs) l le = absurd (omega arith)
  chain_is (suc f) node [] l le = rw (eq-eqb _ _ l) refl
  chain_is (suc f) node (x ∷ xs) l le =
      let ne : eqb x 0 ≡ false = ne_eqb x 0 (λ h. omega (arith, h, l.1)) in
      rw (l.0, ne) (ap (λ ys. x ∷ ys) (chain_is f x xs l.2 (omega arith)))

  -- a node whose link leads nowhere has nothing behind it
  pub linked_end : (node : ℕ) (xs : List ℕ) → link node ≡ 0 → IsLinked link node xs → xs ≡ []
  linked_end node [] e l = refl
  linked_end node (x ∷ xs) e l = let z : x ≡ 0 = sym l.0 ∙ e in absurd (omega (arith, z, l.1))

  pub linked_append : (node : ℕ) (seen rest : List ℕ) → IsLinked link node (seen ++ rest) → IsLinked link (last_of node seen) rest
  linked_append node [] rest l = l
  linked_append node (x ∷ seen) rest l = linked_append x seen rest l.2

module _ (link link' : ℕ → ℕ) where
  -- the same nodes by other links, and behind another one
  pub relinked : (node other : ℕ) (xs : List ℕ) → link' other ≡ link node
      → ((n : ℕ) → has xs n ≡ true → link' n ≡ link n) → IsLinked link node xs → IsLinked link' other xs
  relinked node other [] first same l = first ∙ l
  relinked node other (x ∷ xs) first same l =
      (first ∙ l.0, l.1, relinked x x xs (same x (has_head x xs)) (λ n h. same n (has_more x n xs h)) l.2)

  -- a node is taken out behind the last of these
  pub unlinked : (node n : ℕ) (seen rest : List ℕ) → 0 < node
      → link' (last_of node seen) ≡ link n
      → ((m : ℕ) → 0 < m → m ≢ last_of node seen → m ≢ n → link' m ≡ link m)
      → IsLinked link node (seen ++ n ∷ rest) → IsLinked link' node (seen ++ rest)
  unlinked node n [] rest some first same l =
      let whole = has_not n node rest (linked_apart link node (n ∷ rest) l) in
      let own = linked_apart link n rest l.2 in
      relinked n node rest first (λ m h. same m (linked_some link n rest m l.2 h) (has_differ rest m node h whole.1) (has_differ rest m n h own)) l.2
  unlinked node n (x ∷ seen) rest some first same l =
      let apart = linked_apart link node (x ∷ (seen ++ n ∷ rest)) l in
      let last : last_of x seen ≢ node = has_differ (x ∷ (seen ++ n ∷ rest)) (last_of x seen) node (last_in x seen (n ∷ rest)) apart in
      let mid : n ≢ node = has_differ (x ∷ (seen ++ n ∷ rest)) n node (has_more x n (seen ++ n ∷ rest) (has_mid seen rest n)) apart in
      (same node some (λ e. last (sym e)) (λ e. mid (sym e)) ∙ l.0, l.1, unlinked x n seen rest l.1 first same l.2)

-- the node that was taken out is nowhere
pub gone : (link : ℕ → ℕ) (node n : ℕ) (seen rest : List ℕ) → IsLinked link node (seen ++ n ∷ rest) → has (seen ++ rest) n ≡ false
gone link node n [] rest l = linked_apart link n rest l.2
gone link node n (x ∷ seen) rest l =
    let apart = linked_apart link x (seen ++ n ∷ rest) l.2 in
    rw (ne_eqb n x (has_differ (seen ++ n ∷ rest) n x (has_mid seen rest n) apart)) (gone link x n seen rest l.2)
