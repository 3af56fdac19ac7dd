-- A `Lists` after a node is put in or taken out.
use Rattle.std.proofs.Common.{◌≡◌, ◌≢◌, ℕ, ◌+◌, ◌<◌, true, false, ◌⊎◌, inl, inr, List, [], ◌∷◌, map, length, set, get_or, Option, Some, None, refl, sym, ap, ◌∙◌, arith}
use Rattle.std.specs.List.{range_with_len}
use Rattle.std.proofs.lemmas.Bool.{eq-eqb, ne_eqb}
use Rattle.std.proofs.lemmas.List.{length-set, get_or-set_same, get_or-set_other, same_lists}
use Rattle.std.proofs.lemmas.List.FromFn.{length-map-range_with_len, get_or-map-range_with_len}
use Rattle.std.proofs.lemmas.Map.Steps.{length-le_from_distinct_below}
use Rattle.index_lists.specs.NodeLists.{has, without}
use Rattle.index_lists.specs.Linked.{IsTied, chain}
use Rattle.index_lists.proofs.Linking.{split_eq, behind, Inserts, Removes, Around, IsLinked-behind, IsLinked-without, IsLinked-first, IsLinked-last, IsLinked-at, chain-IsLinked}
use Rattle.index_lists.proofs.Edits.{All-has, has_false, All-behind, All-without, All-weaken, has-behind_old, has-behind_new, has-without, behind_apart, IsDistinct-IsLinked, has-list_any}

-- a place of list l: its sentinel or one of its nodes
abbrev pub IsPlaceOf : ℕ → (ℕ → Option ℕ) → ℕ → ℕ → Type 0
IsPlaceOf nodes owner l i = (i ≡ nodes + l) ⊎ ((i < nodes) × (owner i ≡ Some l))

module _ {nodes lists : ℕ} {next prev : ℕ → ℕ} {owner : ℕ → Option ℕ} {at : ℕ → List ℕ} (tied : IsTied nodes lists next prev owner at) where
  -- the sentinel is not in its list
  pub sentinel_apart : (l : ℕ) → l < lists → has (at l) (nodes + l) ≡ false
  sentinel_apart l lt = has_false _ (at l) (nodes + l) (tied.owned l lt) (λ p. omega (arith, p.0))

  -- the node is in no other list
  pub other_apart : (n l m : ℕ) → owner n ≡ Some l → m < lists → m ≢ l → has (at m) n ≡ false
  other_apart n l m e lt ne = has_false _ (at m) n (tied.owned m lt) (λ p. ne (let h = sym p.1 ∙ e in cc))

  pub free_apart : (n m : ℕ) → owner n ≡ None → m < lists → has (at m) n ≡ false
  free_apart n m e lt = has_false _ (at m) n (tied.owned m lt) (λ p. let h = sym p.1 ∙ e in cc)

  -- the walk along the links of list l
  pub chain_is : (l : ℕ) → l < lists → chain nodes next (next (nodes + l)) (nodes + l) ≡ at l
  chain_is l lt =
      let apart = sentinel_apart l lt in
      let linked = tied.linked l lt in
      let distinct = IsDistinct-IsLinked next prev _ (at l) _ apart linked in
      let few = length-le_from_distinct_below (at l) nodes distinct (λ q h. (All-has _ (at l) q (tied.owned l lt) (sym (has-list_any (at l) q) ∙ h)).0) in
      chain-IsLinked next prev nodes (nodes + l) (at l) (nodes + l) apart few linked

  -- the links at the ends of list l lead to its places
  pub first_place : (l : ℕ) → l < lists → (prev (next (nodes + l)) ≡ nodes + l) × IsPlaceOf nodes owner l (next (nodes + l))
  first_place l lt = IsLinked-first next prev (IsPlaceOf nodes owner l) _ (at l) _ (All-weaken _ _ (λ x p. inr p) (at l) (tied.owned l lt)) (inl refl) (tied.linked l lt)

  pub last_place : (l : ℕ) → l < lists → (next (prev (nodes + l)) ≡ nodes + l) × IsPlaceOf nodes owner l (prev (nodes + l))
  last_place l lt = IsLinked-last next prev (IsPlaceOf nodes owner l) _ (at l) _ (inl refl) (All-weaken _ _ (λ x p. inr p) (at l) (tied.owned l lt)) (tied.linked l lt)

  pub around : (n l : ℕ) → n < nodes → owner n ≡ Some l → Around next prev (IsPlaceOf nodes owner l) n
  around n l lt e =
      let held = tied.held n l lt e in
      IsLinked-at next prev (IsPlaceOf nodes owner l) n _ (at l) _ (inl refl) (All-weaken _ _ (λ x p. inr p) (at l) (tied.owned l held.0)) (inl refl) (tied.linked l held.0) held.1

  -- node n is put in behind the place y of list l
  pub IsTied-behind : {next' prev' : ℕ → ℕ} {owner' : ℕ → Option ℕ} (y n l : ℕ) → l < lists → n < nodes → owner n ≡ None
      → IsPlaceOf nodes owner l y → Inserts next prev next' prev' y n → owner' n ≡ Some l → ((i : ℕ) → i ≢ n → owner' i ≡ owner i)
      → IsTied nodes lists next' prev' owner' (λ m. behind y n (nodes + m) (at m))
  IsTied-behind {owner' = owner'} y n l ll ln free place ins now same = record {
    linked = λ m lt. IsLinked-behind ins (nodes + m) (at m) (nodes + m) (λ h. omega arith) (free_apart n m free lt) (λ h. omega arith) (tied.linked m lt);
    owned = λ m lt.
        let kept = All-weaken _ (λ x. (x < nodes) × (owner' x ≡ Some m)) (λ x p. (p.0, same x (λ h. let e = sym p.1 ∙ ap owner h ∙ free in cc) ∙ p.1)) (at m) (tied.owned m lt) in
        elim (split_eq m l) [
          | inl t ↦ All-behind _ y n (nodes + m) (at m) (ln, now ∙ ap Some (sym t.0)) kept
          | inr f ↦
              let apart : (y ≢ nodes + m) × (has (at m) y ≡ false) = elim place [
                | inl s ↦ (λ h. f.0 (omega arith), has_false _ (at m) y (tied.owned m lt) (λ p. omega (arith, p.0)))
                | inr s ↦ (λ h. omega (arith, s.0), other_apart y l m s.1 lt f.0)
              ] in
              rw (behind_apart y n (nodes + m) (at m) apart.0 apart.1) kept
        ];
    held = λ i m li e. elim (split_eq i n) [
      | inl t ↦
          let same_list : l ≡ m = let h = sym now ∙ ap owner' (sym t.0) ∙ e in cc in
          let there : has ((nodes + l) ∷ at l) y ≡ true = elim place [
            | inl s ↦ rw (eq-eqb y (nodes + l) s) refl
            | inr s ↦ rw (ne_eqb y (nodes + l) (λ h. omega (arith, s.0))) (tied.held y l s.0 s.1).1
          ] in
          rw (t.0, ← same_list) (ll, has-behind_new y n (nodes + l) (at l) there)
      | inr f ↦
          let was = tied.held i m li (sym (same i f.0) ∙ e) in
          (was.0, has-behind_old y n (nodes + m) (at m) i was.1)
    ];
  }

  -- node n is taken out
  pub IsTied-without : {next' prev' : ℕ → ℕ} {owner' : ℕ → Option ℕ} (n : ℕ) → n < nodes
      → Removes next prev next' prev' n → owner' n ≡ None → ((i : ℕ) → i ≢ n → owner' i ≡ owner i)
      → IsTied nodes lists next' prev' owner' (λ m. without n (at m))
  IsTied-without {owner' = owner'} n ln r now same = record {
    linked = λ m lt. IsLinked-without r (nodes + m) (at m) (nodes + m) (λ h. omega arith) (λ h. omega arith) (tied.linked m lt);
    owned = λ m lt. All-weaken _ (λ x. (x < nodes) × (owner' x ≡ Some m)) (λ x p. (p.0.0, same x (λ h. p.1 (sym h)) ∙ p.0.1)) (without n (at m)) (All-without _ n (at m) (tied.owned m lt));
    held = λ i m li e. elim (split_eq i n) [
      | inl t ↦ absurd (let h = sym now ∙ ap owner' (sym t.0) ∙ e in cc)
      | inr f ↦
          let was = tied.held i m li (sym (same i f.0) ∙ e) in
          (was.0, has-without n (at m) i f.0 was.1)
    ];
  }

  -- the same of other spellings of the lists
  pub IsTied-same : (at' : ℕ → List ℕ) → ((l : ℕ) → l < lists → at' l ≡ at l) → IsTied nodes lists next prev owner at'
  IsTied-same at' same = record {
    linked = λ l lt. rw (same l lt) (tied.linked l lt);
    owned = λ l lt. rw (same l lt) (tied.owned l lt);
    held = λ n l ln e. let was = tied.held n l ln e in (was.0, rw (same l was.0) was.1);
  }

-- lists made from equal functions
pub map-range_same : (f g : ℕ → List ℕ) (n : ℕ) → ((l : ℕ) → l < n → f l ≡ g l) → map f (range_with_len 0 n) ≡ map g (range_with_len 0 n)
map-range_same f g n same = same_lists _ _ (length-map-range_with_len f 0 n ∙ sym (length-map-range_with_len g 0 n)) (λ k d lt.
    let h : k < n = omega (arith, length-map-range_with_len f 0 n) in
    get_or-map-range_with_len f 0 n k k d h (omega arith) ∙ same k h ∙ sym (get_or-map-range_with_len g 0 n k k d h (omega arith)))

-- one list is another
pub map-range_set : (f g : ℕ → List ℕ) (n l : ℕ) (v : List ℕ) → l < n → f l ≡ v → ((m : ℕ) → m < n → m ≢ l → f m ≡ g m)
    → map f (range_with_len 0 n) ≡ set (map g (range_with_len 0 n)) l v
map-range_set f g n l v ln now same =
    let lf = length-map-range_with_len f 0 n in
    let lg = length-map-range_with_len g 0 n in
    same_lists _ _ (lf ∙ sym (length-set _ l v ∙ lg)) (λ k d lt.
    let h : k < n = omega arith in
    let lin : l < length (map g (range_with_len 0 n)) = omega arith in
    get_or-map-range_with_len f 0 n k k d h (omega arith) ∙ elim (split_eq k l) [
      | inl t ↦ rw t.0 (now ∙ sym (get_or-set_same _ l v d lin))
      | inr t ↦ same k h t.0 ∙ sym (get_or-set_other _ l k v d t.0 ∙ get_or-map-range_with_len g 0 n k k d h (omega arith))
    ])

pub map-range_at : (f : ℕ → List ℕ) (n l : ℕ) → l < n → get_or (map f (range_with_len 0 n)) l [] ≡ f l
map-range_at f n l lt = get_or-map-range_with_len f 0 n l l [] lt (omega arith)
