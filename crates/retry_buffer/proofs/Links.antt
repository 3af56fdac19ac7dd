-- Which nodes are in which lists, after one is put in front of a list or taken out of it.
use Rattle.std.proofs.Common.{◌≡◌, ◌≢◌, ℕ, ◌<◌, true, false, ◌⊎◌, inl, inr, List, [], ◌∷◌, length, refl}
use Rattle.std.proofs.lemmas.Bool.{cases_Bool}
use Rattle.std.proofs.lemmas.List.{get_or-set_same, get_or-set_other}
use Rattle.index_lists.specs.NodeLists.{NodeLists, has, list_at, without, with_list, IsIn, IsFree, IsValid}
use Rattle.index_lists.proofs.Linking.{split_eq}
use Rattle.index_lists.proofs.Edits.{has-without}

-- ---- of one list
has-without_self : (n : ℕ) (xs : List ℕ) → has (without n xs) n ≡ false
has-without_self n [] = refl
has-without_self n (x ∷ xs) = elim (split_eq n x) [
  | inl t ↦ rw t.1 (has-without_self n xs)
  | inr f ↦ rw (f.1, f.1) (has-without_self n xs)
]

has-without_back : (n : ℕ) (xs : List ℕ) (m : ℕ) → has (without n xs) m ≡ true → has xs m ≡ true
has-without_back n [] m h = h
has-without_back n (x ∷ xs) m h = elim (split_eq m x) [
  | inl t ↦ rw t.1 refl
  | inr f ↦ rw f.1 (elim (split_eq n x) [
    | inl s ↦ has-without_back n xs m (rw s.1 at h)
    | inr s ↦ has-without_back n xs m (rw (s.1, f.1) at h)
  ])
]

module _ (s : NodeLists) (l : ℕ) (there : l < length s.lists) where
  -- the list that was put in, and the others
  list_here : (xs : List ℕ) → list_at (with_list s l xs) l ≡ xs
  list_here xs = get_or-set_same s.lists l xs [] there

  list_other : (xs : List ℕ) (m : ℕ) → m ≢ l → list_at (with_list s l xs) m ≡ list_at s m
  list_other xs m other = get_or-set_other s.lists l m xs [] other

  -- ---- node n is put in front of list l
  pub in_front : (n : ℕ) → IsIn (with_list s l (n ∷ list_at s l)) l n
  in_front n = elim (split_eq n n) [
    | inl t ↦ rw (list_here (n ∷ list_at s l), t.1) refl
    | inr f ↦ absurd (f.0 refl)
  ]

  pub in_front_kept : (n m place : ℕ) → IsIn s m place → IsIn (with_list s l (n ∷ list_at s l)) m place
  in_front_kept n m place h = elim (split_eq m l) [
    | inl t ↦ rw (t.0, list_here (n ∷ list_at s l)) (elim (split_eq place n) [
      | inl u ↦ rw u.1 refl
      | inr u ↦ rw u.1 (rw t.0 at h)
    ])
    | inr f ↦ rw (list_other (n ∷ list_at s l) m f.0) h
  ]

  pub in_front_cases : (n m place : ℕ) → IsIn (with_list s l (n ∷ list_at s l)) m place → (place ≡ n) ⊎ IsIn s m place
  in_front_cases n m place h = elim (split_eq m l) [
    | inl t ↦ elim (split_eq place n) [
      | inl u ↦ inl u.0
      | inr u ↦ inr (rw t.0 (rw (t.0, list_here (n ∷ list_at s l), u.1) at h))
    ]
    | inr f ↦ inr (rw (list_other (n ∷ list_at s l) m f.0) at h)
  ]

  -- ---- node n is taken out of list l
  pub out_kept : (n m place : ℕ) → place ≢ n → IsIn s m place → IsIn (with_list s l (without n (list_at s l))) m place
  out_kept n m place other h = elim (split_eq m l) [
    | inl t ↦ rw (t.0, list_here (without n (list_at s l))) (has-without n (list_at s l) place other (rw t.0 at h))
    | inr f ↦ rw (list_other (without n (list_at s l)) m f.0) h
  ]

  pub out_back : (n m place : ℕ) → IsIn (with_list s l (without n (list_at s l))) m place → IsIn s m place
  out_back n m place h = elim (split_eq m l) [
    | inl t ↦ rw t.0 (has-without_back n (list_at s l) place (rw (t.0, list_here (without n (list_at s l))) at h))
    | inr f ↦ rw (list_other (without n (list_at s l)) m f.0) at h
  ]

  pub out_free : (n : ℕ) → IsValid s → IsIn s l n → IsFree (with_list s l (without n (list_at s l))) n
  out_free n valid h m = elim (split_eq m l) [
    | inl t ↦ rw (t.0, list_here (without n (list_at s l))) (has-without_self n (list_at s l))
    | inr f ↦ rw (list_other (without n (list_at s l)) m f.0) (elim (cases_Bool (has (list_at s m) n)) [
      | inl two ↦ absurd (f.0 (valid.apart m l n two h))
      | inr apart ↦ apart
    ])
  ]
