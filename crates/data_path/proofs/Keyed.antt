-- Lists of entries in the order of their keys: an entry that is put where one of its key stands, or where none does.
use Rattle.std.proofs.Common.{T, ◌≡◌, cond, inl, inr, List, [], ◌∷◌, ◌++◌, length, Some, None, refl, sym, ap, ◌∙◌, arith}
use Rattle.std.specs.Cmp.{IsTotalOrder}
use Rattle.std.specs.FinMap.{IsAntisymmetric}
use Rattle.std.specs.FinMap.Entries.{find, put, is_sorted, find-put, is_sorted-put, same_entries, by_order}
use Rattle.std.specs.Ordering.{eq_by_cmp, is_eq}
use Rattle.std.specs.declared.cmp.Ordering.{Ordering}
use Rattle.std.specs.declared.cmp.Ordering.TheVariants.{Less, Equal, Greater}
use Rattle.std.proofs.lemmas.Bool.{cases_Bool}
use Rattle.cl_types.proofs.PlaceLemmas.{equal_of}
use Rattle.flat_model.proofs.PutLemmas.{tail_of}

module _ {K X : Type 0} (R : K → K → Ordering) (total : IsTotalOrder R) (exact : IsAntisymmetric R) where
  -- an entry that stands is put there again
  pub put_same : (k : K) (v : X) (es : List (K × X)) → T (is_sorted R es) → find R k es ≡ Some v → put R k v es ≡ es
  put_same k v es sorted there = same_entries R total exact (put R k v es) es (is_sorted-put R total k v es sorted) sorted (λ q. find-put R total q k v es ∙ at q)
    where
      at : (q : K) → cond (eq_by_cmp R q k) (Some v) (find R q es) ≡ find R q es
      at q = elim (cases_Bool (eq_by_cmp R q k)) [ inl t ↦ rw t (sym (ap (λ x. find R x es) (exact q k (equal_of _ t)) ∙ there)) | inr f ↦ rw f refl ]

  -- of two values put at one key the later stays
  pub put_put : (k : K) (v w : X) (es : List (K × X)) → T (is_sorted R es) → put R k w (put R k v es) ≡ put R k w es
  put_put k v w es sorted =
      let once = is_sorted-put R total k v es sorted in
      same_entries R total exact (put R k w (put R k v es)) (put R k w es) (is_sorted-put R total k w (put R k v es) once) (is_sorted-put R total k w es sorted) (λ q.
      find-put R total q k w (put R k v es) ∙ at q ∙ sym (find-put R total q k w es))
    where
      at : (q : K) → cond (eq_by_cmp R q k) (Some w) (find R q (put R k v es)) ≡ cond (eq_by_cmp R q k) (Some w) (find R q es)
      at q = elim (cases_Bool (eq_by_cmp R q k)) [ inl t ↦ rw t refl | inr f ↦ rw f (find-put R total q k v es ∙ rw f refl) ]

  -- a list around the entry of a key
  pub record Around (k : K) (v : X) (es : List (K × X)) : Type 0 where
    pub before : List (K × X)
    pub after : List (K × X)
    pub is : es ≡ before ++ (k, v) ∷ after
    pub puts : (w : X) → put R k w es ≡ before ++ (k, w) ∷ after

  pub around : (k : K) (v : X) (es : List (K × X)) → T (is_sorted R es) → find R k es ≡ Some v → Around k v es
  around k v [] sorted there = absurd cc
  around k v (e ∷ es) sorted there = step (R k e.0) refl (around k v es (tail_of _ _ sorted))
    where
      step : (r : Ordering) → R k e.0 ≡ r → (find R k es ≡ Some v → Around k v es) → Around k v (e ∷ es)
      step Less is rest =
          let grown : put R k v (e ∷ es) ≡ (k, v) ∷ e ∷ es = ap (λ o. by_order o ((k, v) ∷ e ∷ es) ((e.0, v) ∷ es) (e ∷ put R k v es)) is in
          absurd (omega (arith, ap length (sym (put_same k v (e ∷ es) sorted there) ∙ grown)))
      step Equal is rest =
          let key : k ≡ e.0 = exact k e.0 is in
          let found : Some e.1 ≡ Some v = rw (ap is_eq is) at there in
          let value : e.1 ≡ v = cc in
          record {
            before = [];
            after = es;
            is = λ i. (sym key i, value i) ∷ es;
            puts = λ w. ap (λ o. by_order o ((k, w) ∷ e ∷ es) ((e.0, w) ∷ es) (e ∷ put R k w es)) is ∙ (λ i. (sym key i, w) ∷ es);
          }
      step Greater is rest =
          let found : find R k es ≡ Some v = rw (ap is_eq is) at there in
          let r = rest found in
          record {
            before = e ∷ r.before;
            after = r.after;
            is = ap (λ l. e ∷ l) r.is;
            puts = λ w. ap (λ o. by_order o ((k, w) ∷ e ∷ es) ((e.0, w) ∷ es) (e ∷ put R k w es)) is ∙ ap (λ l. e ∷ l) (r.puts w);
          }

  -- a list around the place at which the entry of a new key goes
  pub record AroundNew (k : K) (es : List (K × X)) : Type 0 where
    pub before : List (K × X)
    pub after : List (K × X)
    pub is : es ≡ before ++ after
    pub puts : (w : X) → put R k w es ≡ before ++ (k, w) ∷ after

  pub around_new : (k : K) (es : List (K × X)) → find R k es ≡ None → AroundNew k es
  around_new k [] new = record { before = []; after = []; is = refl; puts = λ w. refl }
  around_new k (e ∷ es) new = step (R k e.0) refl (around_new k es)
    where
      step : (r : Ordering) → R k e.0 ≡ r → (find R k es ≡ None → AroundNew k es) → AroundNew k (e ∷ es)
      step Less is rest = record {
        before = [];
        after = e ∷ es;
        is = refl;
        puts = λ w. ap (λ o. by_order o ((k, w) ∷ e ∷ es) ((e.0, w) ∷ es) (e ∷ put R k w es)) is;
      }
      step Equal is rest = absurd (let found = rw (ap is_eq is) at new in cc)
      step Greater is rest =
          let r = rest (rw (ap is_eq is) at new) in
          record {
            before = e ∷ r.before;
            after = r.after;
            is = ap (λ l. e ∷ l) r.is;
            puts = λ w. ap (λ o. by_order o ((k, w) ∷ e ∷ es) ((e.0, w) ∷ es) (e ∷ put R k w es)) is ∙ ap (λ l. e ∷ l) (r.puts w);
          }
