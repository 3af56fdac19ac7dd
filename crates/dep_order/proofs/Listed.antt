-- Lists of numbers after one was put in or taken out.
use Rattle.std.proofs.Common.{◌≡◌, ◌≢◌, ℕ, ◌<◌, inl, inr, [], ◌∷◌, ◌++◌, length, sym, ap, ◌∙◌}
use Rattle.std.proofs.lemmas.Bool.{cases_eq, false_from_ne_true}
use Rattle.index_lists.specs.NodeLists.{NodeLists, has, list_at, IsIn, with_list, without}
use Rattle.index_lists.proofs.Edits.{has-without, without_apart}
use Rattle.index_lists.proofs.Members.{has-push_old, has-push_new, has-without_cases, list_at_same, list_at_other}

-- ---- one list of several
-- node n put at the end of list l
module _ (v : NodeLists) (l n : ℕ) (new : NodeLists) (e : new ≡ with_list v l (list_at v l ++ n ∷ [])) (within : l < length v.lists) where
  pub pushed_here : list_at new l ≡ list_at v l ++ n ∷ []
  pushed_here = ap (λ w. list_at w l) e ∙ list_at_same v l _ within

  pub pushed_there : (m : ℕ) → m ≢ l → list_at new m ≡ list_at v m
  pushed_there m ne = ap (λ w. list_at w m) e ∙ list_at_other v l m _ ne

  pub pushed_old : (m x : ℕ) → IsIn v m x → IsIn new m x
  pushed_old m x h = elim (cases_eq m l) [
    | inl same ↦ ap (λ k. has (list_at new k) x) same ∙ ap (λ xs. has xs x) pushed_here ∙ has-push_old (list_at v l) n x (ap (λ k. has (list_at v k) x) (sym same) ∙ h)
    | inr ne ↦ ap (λ xs. has xs x) (pushed_there m ne) ∙ h
  ]

  pub pushed_new : IsIn new l n
  pushed_new = ap (λ xs. has xs n) pushed_here ∙ has-push_new (list_at v l) n

-- node n taken out of list l
module _ (v : NodeLists) (l n : ℕ) (new : NodeLists) (e : new ≡ with_list v l (without n (list_at v l))) (within : l < length v.lists) where
  left : list_at new l ≡ without n (list_at v l)
  left = ap (λ w. list_at w l) e ∙ list_at_same v l _ within

  same_else : (m : ℕ) → m ≢ l → list_at new m ≡ list_at v m
  same_else m ne = ap (λ w. list_at w m) e ∙ list_at_other v l m _ ne

  -- where it is in no other list
  pub removed_in : (m x : ℕ) → ((k : ℕ) → IsIn v k n → k ≡ l) → IsIn new m x → IsIn v m x × (x ≢ n)
  removed_in m x alone h = elim (cases_eq m l) [
    | inl same ↦
        let old = has-without_cases n (list_at v l) x (ap (λ xs. has xs x) (sym left) ∙ ap (λ k. has (list_at new k) x) (sym same) ∙ h) in
        (ap (λ k. has (list_at v k) x) same ∙ old.0, old.1)
    | inr ne ↦
        let old : IsIn v m x = ap (λ xs. has xs x) (sym (same_else m ne)) ∙ h in
        (old, λ is. ne (alone m (ap (λ y. has (list_at v m) y) (sym is) ∙ old)))
  ]

  -- each list is now without it
  pub removed_there : (m : ℕ) → ((k : ℕ) → IsIn v k n → k ≡ l) → list_at new m ≡ without n (list_at v m)
  removed_there m alone = elim (cases_eq m l) [
    | inl same ↦ ap (list_at new) same ∙ left ∙ ap (λ k. without n (list_at v k)) (sym same)
    | inr ne ↦ same_else m ne ∙ sym (without_apart n (list_at v m) (false_from_ne_true _ (λ h. ne (alone m h))))
  ]

  pub removed_old : (m x : ℕ) → IsIn v m x → x ≢ n → IsIn new m x
  removed_old m x h ne = elim (cases_eq m l) [
    | inl same ↦ ap (λ k. has (list_at new k) x) same ∙ ap (λ xs. has xs x) left ∙ has-without n (list_at v l) x ne (ap (λ k. has (list_at v k) x) (sym same) ∙ h)
    | inr ne' ↦ ap (λ xs. has xs x) (same_else m ne') ∙ h
  ]
