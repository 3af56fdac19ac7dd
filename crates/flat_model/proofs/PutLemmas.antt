-- What putting an entry does to a list in the order of its keys, by position.
use Rattle.std.proofs.Common.{not, cond, Some, None, ◌≡◌, ℕ, zero, suc, ◌+◌, ◌<◌, T, Bool, true, false, ◌&&◌, List, [], ◌∷◌, length, get_or, refl, sym, ap, subst, ◌∙◌, arith}
use Rattle.std.proofs.Math.ListN.{set}
use Rattle.std.specs.declared.cmp.Ordering.{Ordering}
use Rattle.std.specs.declared.cmp.Ordering.TheVariants.{Less, Equal, Greater}
use Rattle.std.specs.Ordering.{is_lt, is_eq, ordering_reverse}
use Rattle.std.specs.List.{insert, position_or_len}
use Rattle.std.specs.Cmp.{IsTotalOrder, tied_itself}
use Rattle.std.specs.FinMap.Entries.{find, put, where_key, is_sorted, is_sorted-put, is_sorted-where_key, below_all, by_order}

pub T_of : (b : Bool) → b ≡ true → T b
T_of true h = tt
T_of false h = absurd cc

pub of_T : (b : Bool) → T b → b ≡ true
of_T true h = refl
of_T false h = absurd h

pub head_of : (a b : Bool) → T (a && b) → T a
head_of true b h = tt
head_of false b h = absurd h

pub tail_of : (a b : Bool) → T (a && b) → T b
tail_of true b h = h
tail_of false b h = absurd h

is_less : (o : Ordering) → T (is_lt o) → o ≡ Less
is_less Less h = refl
is_less Equal h = absurd h
is_less Greater h = absurd h

module _ {K X : Type 0} (R : K → K → Ordering) (total : IsTotalOrder R) where
  below_at : (k : K) (entries : List (K × X)) (i : ℕ) (d : K × X) → T (below_all R k entries) → i < length entries → R k (get_or entries i d).0 ≡ Less
  below_at k [] i d below within = absurd (omega (arith, within))
  below_at k (e ∷ es) zero d below within = is_less _ (head_of _ _ below)
  below_at k (e ∷ es) (suc i) d below within = below_at k es i d (tail_of _ _ below) (omega (arith, within))

  put_greater : (k : K) (v : X) (entry : K × X) (entries : List (K × X)) → R entry.0 k ≡ Less → put R k v (entry ∷ entries) ≡ entry ∷ put R k v entries
  put_greater k v entry entries less =
      ap (λ o. by_order o ((k, v) ∷ entry ∷ entries) ((entry.0, v) ∷ entries) (entry ∷ put R k v entries)) (total.antisymm k entry.0 ∙ ap ordering_reverse less)

  put_tied : (k : K) (v : X) (entry : K × X) (entries : List (K × X)) → entry.0 ≡ k → put R k v (entry ∷ entries) ≡ (k, v) ∷ entries
  put_tied k v entry entries same =
      ap (λ o. by_order o ((k, v) ∷ entry ∷ entries) ((entry.0, v) ∷ entries) (entry ∷ put R k v entries)) (ap (R k) same ∙ tied_itself total k)
      ∙ ap (λ (key : K). (key, v) ∷ entries) same

  -- a value put at a key that stands is a change of its entry
  pub put_at : (k : K) (v : X) (entries : List (K × X)) (i : ℕ) (d : K × X) → T (is_sorted R entries) → i < length entries → (get_or entries i d).0 ≡ k
      → put R k v entries ≡ set entries i (k, v)
  put_at k v [] i d sorted within same = absurd (omega (arith, within))
  put_at k v (e ∷ es) zero d sorted within same = put_tied k v e es same
  put_at k v (e ∷ es) (suc i) d sorted within same =
      put_greater k v e es (subst (λ (key : K). R e.0 key ≡ Less) same (below_at e.0 es i d (head_of _ _ sorted) (omega (arith, within))))
      ∙ ap (λ rest. e ∷ rest) (put_at k v es i d (tail_of _ _ sorted) (omega (arith, within)) same)

  -- where the first entry behind a key stands
  abbrev pub behind : K → List (K × X) → ℕ
  behind k entries = position_or_len (λ e. is_lt (R k e.0)) entries

  insert_step : (k : K) (v : X) (e : K × X) (entries : List (K × X)) (order : Ordering) → R k e.0 ≡ order → find R k (e ∷ entries) ≡ None
      → (find R k entries ≡ None → insert entries (behind k entries) (k, v) ≡ put R k v entries) → insert (e ∷ entries) (behind k (e ∷ entries)) (k, v) ≡ put R k v (e ∷ entries)
  insert_step k v e entries Less is none rest =
      let here : behind k (e ∷ entries) ≡ 0 = ap (λ o. cond (not (is_lt o)) (1 + behind k entries) 0) is in
      ap (λ i. insert (e ∷ entries) i (k, v)) here ∙ sym (ap (λ o. by_order o ((k, v) ∷ e ∷ entries) ((e.0, v) ∷ entries) (e ∷ put R k v entries)) is)
  insert_step k v e entries Equal is none rest =
      let found : find R k (e ∷ entries) ≡ Some e.1 = ap (λ o. cond (is_eq o) (Some e.1) (find R k entries)) is in
      absurd (cc (found, none))
  insert_step k v e entries Greater is none rest =
      let later : behind k (e ∷ entries) ≡ suc (behind k entries) = ap (λ o. cond (not (is_lt o)) (1 + behind k entries) 0) is ∙ omega arith in
      let absent : find R k entries ≡ None = sym (ap (λ o. cond (is_eq o) (Some e.1) (find R k entries)) is) ∙ none in
      ap (λ i. insert (e ∷ entries) i (k, v)) later ∙ ap (λ es. e ∷ es) (rest absent)
      ∙ sym (ap (λ o. by_order o ((k, v) ∷ e ∷ entries) ((e.0, v) ∷ entries) (e ∷ put R k v entries)) is)

  -- a new entry is put in front of the first behind it
  pub insert_is_put : (k : K) (v : X) (entries : List (K × X)) → find R k entries ≡ None → insert entries (behind k entries) (k, v) ≡ put R k v entries
  insert_is_put k v [] none = refl
  insert_is_put k v (e ∷ es) none = insert_step k v e es (R k e.0) refl none (insert_is_put k v es)

  pub sorted_put : (k : K) (v : X) (entries new : List (K × X)) → is_sorted R entries ≡ true → new ≡ put R k v entries → is_sorted R new ≡ true
  sorted_put k v entries new sorted is = ap (is_sorted R) is ∙ of_T _ (is_sorted-put R total k v entries (T_of _ sorted))

-- a list from which entries were taken out is in order
pub sorted_kept : {K X : Type 0} (R : K → K → Ordering) (test : K → Bool) (entries kept : List (K × X)) → is_sorted R entries ≡ true → kept ≡ where_key R test entries
    → is_sorted R kept ≡ true
sorted_kept R test entries kept sorted is = ap (is_sorted R) is ∙ of_T _ (is_sorted-where_key R test entries (T_of _ sorted))
