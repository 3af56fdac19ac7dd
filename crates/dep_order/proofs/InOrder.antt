-- Lists along which numbers never fall.
use Rattle.std.proofs.Common.{◌≡◌, ℕ, ◌≤◌, ◌++◌, inl, inr, Bool, true, false, eqb, nat_lt, List, [], ◌∷◌, find, Option, Some, None, refl, sym, ap, subst, ◌∙◌, arith, nat_eq}
use Rattle.std.specs.List.{AllByRecursion, IsDistinct}
use Rattle.std.proofs.lemmas.Bool.{or_left, or_right, eq-eqb, ne_eqb, eqb-false, le-ltb, and_left}
use Rattle.client_model.specs.Order.{waits_for}
use Rattle.index_lists.specs.NodeLists.{has, without, after}
use Rattle.index_lists.proofs.Linking.{split_eq}
use Rattle.dep_order.specs.declared.row.WaitRow.{WaitRow}
use Rattle.dep_order.specs.declared.walk.Wanted.{Wanted}
use Rattle.dep_order.specs.declared.walk.Wanted.TheVariants.{Number, AwaitedBy}
use Rattle.dep_order.specs.Rows.{print_of}
use Rattle.dep_order.specs.WaitLists.{IsInOrder, number_at, number_wanted, place_of, row_at, wanted_at}
use Rattle.dep_order.proofs.Walks.{HasCome, left_here}
use Rattle.index_lists.proofs.Walks.{rest_from}

module _ (number : ℕ → ℕ) where
  above_without : (low n : ℕ) (xs : List ℕ) → AllByRecursion (λ m. low ≤ number m) xs → AllByRecursion (λ m. low ≤ number m) (without n xs)
  above_without low n [] h = tt
  above_without low n (x ∷ xs) h = elim (split_eq n x) [
    | inl t ↦ rw t.1 (above_without low n xs h.1)
    | inr f ↦ rw f.1 (h.0, above_without low n xs h.1)
  ]

  -- a node taken out
  pub order_without : (n : ℕ) (xs : List ℕ) → IsInOrder number xs → IsInOrder number (without n xs)
  order_without n [] h = tt
  order_without n (x ∷ xs) h = elim (split_eq n x) [
    | inl t ↦ rw t.1 (order_without n xs h.1)
    | inr f ↦ rw f.1 (above_without (number x) n xs h.0, order_without n xs h.1)
  ]

  -- what a walk has before it
  order_rest : (at : Option ℕ) (xs : List ℕ) → IsInOrder number xs → IsInOrder number (rest_from at xs)
  order_rest None xs h = tt
  order_rest (Some n) [] h = tt
  order_rest (Some n) (x ∷ xs) h = elim (split_eq n x) [
    | inl t ↦ rw t.1 h
    | inr f ↦ rw f.1 (order_rest (Some n) xs h.1)
  ]

  none_above : (test : ℕ → Bool) (low : ℕ) → ((m : ℕ) → low ≤ number m → test m ≡ false) → (xs : List ℕ) → AllByRecursion (λ m. low ≤ number m) xs → find test xs ≡ None
  none_above test low none [] h = refl
  none_above test low none (x ∷ xs) h = let f = none x h.0 in rw f (none_above test low none xs h.1)

  -- a walk that stands at n may stop, where nothing with a number from that of n on passes the test
  pub may_stop : {test : ℕ → Bool} {xs : List ℕ} {at : Option ℕ} → HasCome test xs at → (n : ℕ) → at ≡ Some n → IsDistinct nat_eq xs → IsInOrder number xs
      → ((m : ℕ) → number n ≤ number m → test m ≡ false) → find test xs ≡ None
  may_stop {test} {xs} {at} come n e apart order none =
      let behind : List ℕ = rest_from (after n xs) xs in
      let split : rest_from at xs ≡ n ∷ behind = left_here come n e apart in
      let rest : IsInOrder number (n ∷ behind) = subst (IsInOrder number) split (order_rest at xs order) in
      let f = none n (omega arith) in
      sym come.left ∙ ap (find test) split ∙ rw f (none_above test (number n) none behind rest.0)

-- where a wanted row is none from this number on
pub none_past : (rows : List WaitRow) (wanted : Wanted) (n m : ℕ) → wanted_at rows wanted n ≡ false → number_wanted wanted ≤ number_at rows n → number_at rows n ≤ number_at rows m → wanted_at rows wanted m ≡ false
none_past rows (Number its) n m f past le = let ne = eqb-false (number_at rows n) its.0 f in ne_eqb (number_at rows m) its.0 (λ same. ne (omega arith))
none_past rows (AwaitedBy later) n m f past le =
    and_left (nat_lt (number_at rows m) later.no.0) (waits_for (print_of (row_at rows (place_of m))).1 (print_of later).1) (le-ltb (number_at rows m) later.no.0 (omega arith))

-- a list in order, with nodes of one number put at the end, which is no less than the others
module _ (number number' : ℕ → ℕ) (top : ℕ) where
  above_grown : (low : ℕ) (xs added : List ℕ) → AllByRecursion (λ m. low ≤ number m) xs → ((n : ℕ) → has xs n ≡ true → (number' n ≡ number n) × (number n ≤ top)) → low ≤ top
      → AllByRecursion (λ n. number' n ≡ top) added → AllByRecursion (λ m. low ≤ number' m) (xs ++ added)
  above_grown low [] [] h old le new = tt
  above_grown low [] (y ∷ ys) h old le new = (omega (arith, new.0), above_grown low [] ys tt old le new.1)
  above_grown low (x ∷ xs) added h old le new =
      let here = old x (or_left (eqb x x) (has xs x) (eq-eqb x x refl)) in
      (omega (arith, here.0, h.0), above_grown low xs added h.1 (λ n there. old n (or_right (eqb n x) (has xs n) there)) le new)

  pub order_grown : (xs added : List ℕ) → IsInOrder number xs → ((n : ℕ) → has xs n ≡ true → (number' n ≡ number n) × (number n ≤ top)) → AllByRecursion (λ n. number' n ≡ top) added → IsInOrder number' (xs ++ added)
  order_grown [] [] h old new = tt
  order_grown [] (y ∷ ys) h old new = (same_above y ys new.0 new.1, order_grown [] ys tt old new.1)
    where
      same_above : (y : ℕ) (ys : List ℕ) → number' y ≡ top → AllByRecursion (λ n. number' n ≡ top) ys → AllByRecursion (λ m. number' y ≤ number' m) ys
      same_above y [] e h = tt
      same_above y (z ∷ ys) e h = (omega (arith, e, h.0), same_above y ys e h.1)
  order_grown (x ∷ xs) added h old new =
      let here = old x (or_left (eqb x x) (has xs x) (eq-eqb x x refl)) in (
        subst (λ k. AllByRecursion (λ m. k ≤ number' m) (xs ++ added)) (sym here.0) (above_grown (number x) xs added h.0 (λ n there. old n (or_right (eqb n x) (has xs n) there)) here.1 new),
        order_grown xs added h.1 (λ n there. old n (or_right (eqb n x) (has xs n) there)) new,
      )
