-- What a contract sees of vectors that are sound.
use Rattle.std.proofs.Common.{◌≡◌, ◌≢◌, ℕ, ◌+◌, ◌<◌, inl, inr, List, [], map, length, Option, Some, None, refl, sym, ap, ◌∙◌, arith, slice_index}
use Rattle.std.specs.List.{range_with_len}
use Rattle.std.proofs.lemmas.Bool.{cases_Bool, cases_lt}
use Rattle.std.proofs.lemmas.List.{get_or_past}
use Rattle.std.proofs.lemmas.List.FromFn.{length-map-range_with_len}
use Rattle.index_lists.specs.NodeLists.{NodeLists, has, list_at, IsIn, IsFree, IsValid}
use Rattle.index_lists.specs.Linked.{IsTied, IsSound, chain_at, owner_at, node_lists}
use Rattle.index_lists.proofs.Edits.{All-has, IsDistinct-IsLinked, IsDistinct-nil}
use Rattle.index_lists.proofs.Tied.{IsPlaceOf, sentinel_apart, chain_is, IsTied-same, map-range_same, map-range_at}

-- the vectors are sound, and a contract sees these lists, which are valid
pub record Stands (nodes lists : ℕ) (next prev : List ℕ) (owner : List (Option ℕ)) (v : NodeLists) : Type 0 where
  pub sound : IsSound nodes lists next prev owner
  pub seen : node_lists nodes lists next ≡ v
  pub valid : IsValid (node_lists nodes lists next)

module _ {nodes lists : ℕ} {next prev : List ℕ} {owner : List (Option ℕ)} (s : IsSound nodes lists next prev owner) where
  -- a place of a list is within the vectors
  pub place_below : (l i : ℕ) → l < lists → IsPlaceOf nodes (owner_at owner) l i → i < nodes + lists
  place_below l i lt p = elim p [ inl e ↦ omega arith | inr h ↦ omega (arith, h.0) ]

  -- a node that is in no list is no place of a list
  pub place_not_free : (l i n : ℕ) → n < nodes → owner_at owner n ≡ None → IsPlaceOf nodes (owner_at owner) l i → n ≢ i
  place_not_free l i n ln free p = elim p [
    | inl e ↦ λ h. omega arith
    | inr h ↦ λ e. let both = sym free ∙ ap (owner_at owner) e ∙ h.1 in cc
  ]

  module _ {v : NodeLists} (e : node_lists nodes lists next ≡ v) where
    -- the list of this number
    pub seen_list : (l : ℕ) → l < lists → list_at v l ≡ chain_at nodes next l
    seen_list l lt = ap (λ w. list_at w l) (sym e) ∙ map-range_at (chain_at nodes next) lists l lt

    -- how many lists there are
    pub seen_lists : length v.lists ≡ lists
    seen_lists = ap (λ w. length w.lists) (sym e) ∙ length-map-range_with_len (chain_at nodes next) 0 lists

    -- how many nodes there are
    pub seen_nodes : v.nodes ≡ nodes
    seen_nodes = ap (λ w. w.nodes) (sym e)

    -- a node that is seen in a list has it as its owner
    pub owner_from_in : (l n : ℕ) → IsIn v l n → (l < lists) × (n < nodes) × (owner_at owner n ≡ Some l)
    owner_from_in l n h = elim (cases_lt l lists) [
      | inl lt ↦
          let p = All-has _ (chain_at nodes next l) n (s.tied.owned l lt) (ap (λ xs. has xs n) (sym (seen_list l lt)) ∙ h) in
          (lt, p.0, p.1)
      | inr ge ↦ absurd (let past = ap (λ xs. has xs n) (sym (get_or_past v.lists l [] (omega (arith, seen_lists)))) ∙ h in cc)
    ]

    -- and the other way round
    pub in_from_owner : (l n : ℕ) → n < nodes → owner_at owner n ≡ Some l → IsIn v l n
    in_from_owner l n ln o = let held = s.tied.held n l ln o in ap (λ xs. has xs n) (seen_list l held.0) ∙ held.1

    -- a node in no list has no owner
    pub none_from_free : (n : ℕ) → n < nodes → IsFree v n → (o : Option ℕ) → owner_at owner n ≡ o → owner_at owner n ≡ None
    none_from_free n ln free None is = is
    none_from_free n ln free (Some l) is = absurd (let h = sym (free l) ∙ in_from_owner l n ln is in cc)

    -- and the other way round
    pub free_from_none : (n : ℕ) → owner_at owner n ≡ None → IsFree v n
    free_from_none n none l = elim (cases_Bool (has (list_at v l) n)) [
      | inl t ↦ absurd (let h = sym none ∙ (owner_from_in l n t).2 in cc)
      | inr f ↦ f
    ]

    -- the lists that are seen are valid
    pub seen_valid : IsValid v
    seen_valid = record {
      in_range = λ l n h. let o = owner_from_in l n h in (omega (arith, seen_lists, o.0), omega (arith, seen_nodes, o.1));
      apart = λ l m n h k. let same = sym (owner_from_in l n h).2 ∙ (owner_from_in m n k).2 in cc;
      distinct = λ l. elim (cases_lt l lists) [
        | inl lt ↦ rw (seen_list l lt) (IsDistinct-IsLinked _ _ (nodes + l) (chain_at nodes next l) (nodes + l) (sentinel_apart s.tied l lt) (s.tied.linked l lt))
        | inr ge ↦ rw (get_or_past v.lists l [] (omega (arith, seen_lists))) (IsDistinct-nil)
      ];
    }

-- vectors of these lengths, whose links spell the lists `at`, stand for any value that has these lists
pub stands_from : {nodes lists : ℕ} {next prev : List ℕ} {owner : List (Option ℕ)} {at : ℕ → List ℕ} {v : NodeLists}
    → length next ≡ nodes + lists → length prev ≡ nodes + lists → length owner ≡ nodes
    → IsTied nodes lists (slice_index next) (slice_index prev) (owner_at owner) at
    → record { nodes = nodes; lists = map at (range_with_len 0 lists) } ≡ v
    → Stands nodes lists next prev owner v
stands_from {nodes} {lists} {next} {prev} {owner} {at} {v} nl pl ol t is =
    let sound : IsSound nodes lists next prev owner = record {
      next_len = nl;
      prev_len = pl;
      owner_len = ol;
      tied = IsTied-same t (chain_at nodes next) (λ l lt. chain_is t l lt);
    } in
    let seen : node_lists nodes lists next ≡ v =
    ap (λ ls. record { nodes = nodes; lists = ls }) (map-range_same (chain_at nodes next) at lists (λ l lt. chain_is t l lt)) ∙ is in
    record { sound = sound; seen = seen; valid = seen_valid sound refl }
