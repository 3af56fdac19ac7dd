-- What each changing call leaves, over the vectors.
use Rattle.std.proofs.Common.{◌≡◌, ◌≢◌, ℕ, zero, suc, ◌+◌, ◌<◌, inl, inr, List, [], ◌∷◌, ◌++◌, map, length, set, get_or, drop, true, Option, Some, None, refl, sym, ap, ◌∙◌, arith, slice_index, slice_get, replicate, zero-add}
use Rattle.std.specs.List.{range_with_len}
use Rattle.std.proofs.lemmas.Bool.{eq-eqb, ne_eqb}
use Rattle.std.proofs.lemmas.List.{length-set, get_or-set_same, get_or-set_other, get_or_read, map-id, get_or-replicate, length-replicate}
use Rattle.std.proofs.lemmas.List.FromFn.{map-range_with_len_more, length-range_with_len, get_or-range_with_len}
use Rattle.index_lists.specs.NodeLists.{NodeLists, has, without, put_after, list_at, with_list, IsIn, IsFree, IsValid}
use Rattle.index_lists.specs.Linked.{IsTied, IsSound, chain_at, owner_at, node_lists, next_put, prev_put, next_cut, prev_cut}
use Rattle.index_lists.proofs.Linking.{behind, Inserts, Removes}
use Rattle.index_lists.proofs.Edits.{has_false, behind_apart, without_apart, behind_first, behind_last, behind_put, without_first}
use Rattle.index_lists.proofs.Tied.{IsPlaceOf, sentinel_apart, other_apart, first_place, last_place, around, IsTied-behind, IsTied-without, map-range_set}
use Rattle.index_lists.proofs.Seen.{Stands, place_below, place_not_free, seen_list, seen_lists, seen_nodes, owner_from_in, none_from_free, stands_from}

-- two writes put n in behind y
inserts : (next prev : List ℕ) {y n : ℕ} → let z = slice_index next y in
    n < length next → n < length prev → y < length next → z < length prev → n ≢ y → n ≢ z → slice_index prev z ≡ y
    → Inserts (slice_index next) (slice_index prev) (slice_index (next_put next y n)) (slice_index (prev_put next prev y n)) y n
inserts next prev {y} {n} nl pl yl zl ny nz back =
    let z = slice_index next y in
    let yl' : y < length (set next n z) = omega (arith, length-set next n z) in
    let zl' : z < length (set prev n y) = omega (arith, length-set prev n y) in
    record {
      next_y = get_or-set_same (set next n z) y n 0 yl';
      next_n = get_or-set_other (set next n z) y n n 0 ny ∙ get_or-set_same next n z 0 nl;
      prev_n = get_or-set_other (set prev n y) z n n 0 nz ∙ get_or-set_same prev n y 0 pl;
      prev_z = get_or-set_same (set prev n y) z n 0 zl';
      back = back;
      next_other = λ i iy ni. get_or-set_other (set next n z) y i n 0 iy ∙ get_or-set_other next n i z 0 ni;
      prev_other = λ i iz ni. get_or-set_other (set prev n y) z i n 0 iz ∙ get_or-set_other prev n i y 0 ni;
    }

-- two writes take n out
removes : (next prev : List ℕ) {n : ℕ} → let p = slice_index prev n in let q = slice_index next n in
    p < length next → q < length prev → slice_index next p ≡ n → slice_index prev q ≡ n
    → Removes (slice_index next) (slice_index prev) (slice_index (next_cut next prev n)) (slice_index (prev_cut next prev n)) n
removes next prev {n} pl ql here_next here_prev =
    let p = slice_index prev n in
    let q = slice_index next n in
    record {
      next_p = get_or-set_same next p q 0 pl;
      prev_q = get_or-set_same prev q p 0 ql;
      here_next = here_next;
      here_prev = here_prev;
      next_other = λ i ne. get_or-set_other next p i q 0 ne;
      prev_other = λ i ne. get_or-set_other prev q i p 0 ne;
    }

module _ {nodes lists : ℕ} {next prev : List ℕ} {owner : List (Option ℕ)} (s : IsSound nodes lists next prev owner) {v : NodeLists} (e : node_lists nodes lists next ≡ v) where
  -- where list l alone gets other nodes
  seen_with : (f : ℕ → List ℕ) (l : ℕ) (xs : List ℕ) → l < lists → f l ≡ xs → ((m : ℕ) → m < lists → m ≢ l → f m ≡ chain_at nodes next m)
      → record { nodes = nodes; lists = map f (range_with_len 0 lists) } ≡ with_list v l xs
  seen_with f l xs lt now same =
      ap (λ ls. record { nodes = nodes; lists = ls }) (map-range_set f (chain_at nodes next) lists l xs lt now same)
      ∙ ap (λ w. with_list w l xs) e

  -- a node put in behind a place of list l
  put_done : {y n l : ℕ} {next' prev' : List ℕ} (xs : List ℕ) → l < length v.lists → n < v.nodes → IsFree v n
      → IsPlaceOf nodes (owner_at owner) l y → slice_index prev (slice_index next y) ≡ y → IsPlaceOf nodes (owner_at owner) l (slice_index next y)
      → next' ≡ next_put next y n → prev' ≡ prev_put next prev y n
      → behind y n (nodes + l) (chain_at nodes next l) ≡ xs
      → Stands nodes lists next' prev' (set owner n (Some l)) (with_list v l xs)
  put_done {y} {n} {l} xs li ni free py back pz en ep ex =
      let z = slice_index next y in
      let ll : l < lists = omega (arith, seen_lists s e) in
      let ln : n < nodes = omega (arith, seen_nodes s e) in
      let none = none_from_free s e n ln free _ refl in
      let ins = inserts next prev
      (omega (arith, s.next_len)) (omega (arith, s.prev_len))
      (omega (arith, s.next_len, place_below s l y ll py)) (omega (arith, s.prev_len, place_below s l z ll pz))
      (place_not_free s l y n ln none py) (place_not_free s l z n ln none pz) back in
      let no : n < length owner = omega (arith, s.owner_len) in
      let t = IsTied-behind s.tied {owner' = owner_at (set owner n (Some l))} y n l ll ln none py ins
      (get_or-set_same owner n (Some l) None no) (λ i ne. get_or-set_other owner n i (Some l) None ne) in
      let there : (m : ℕ) → m < lists → m ≢ l → behind y n (nodes + m) (chain_at nodes next m) ≡ chain_at nodes next m = λ m lt ne.
      elim py [
        | inl q ↦ behind_apart y n (nodes + m) _ (λ h. ne (omega arith)) (has_false _ _ y (s.tied.owned m lt) (λ r. omega (arith, r.0)))
        | inr h ↦ behind_apart y n (nodes + m) _ (λ q. omega (arith, h.0)) (other_apart s.tied y l m h.1 lt ne)
      ] in
      rw (en, ep) (stands_from
      (length-set _ y n ∙ length-set next n z ∙ s.next_len)
      (length-set _ z n ∙ length-set prev n y ∙ s.prev_len)
      (length-set owner n (Some l) ∙ s.owner_len)
      t (seen_with _ l xs ll ex there))

  -- a node put in before the end of list l
  pub push_back_done : {y n l : ℕ} {next' prev' : List ℕ} → l < length v.lists → n < v.nodes → IsFree v n → y ≡ get_or prev (nodes + l) y
      → next' ≡ next_put next y n → prev' ≡ prev_put next prev y n
      → Stands nodes lists next' prev' (set owner n (Some l)) (with_list v l (list_at v l ++ n ∷ []))
  push_back_done {y} {n} {l} li ni free read en ep =
      let ll : l < lists = omega (arith, seen_lists s e) in
      let ey = get_or_read prev (nodes + l) y (omega (arith, s.prev_len)) read 0 in
      let last = last_place s.tied l ll in
      let to_sentinel : slice_index next y ≡ nodes + l = ap (slice_index next) ey ∙ last.0 in
      put_done _ li ni free (rw ey last.1) (ap (slice_index prev) to_sentinel ∙ sym ey) (inl to_sentinel) en ep
      (rw (ey, seen_list s e l ll) (behind_last _ _ n (nodes + l) (chain_at nodes next l) (nodes + l) (sentinel_apart s.tied l ll) (s.tied.linked l ll)))

  -- a node put in behind the start of list l
  pub push_front_done : {n l : ℕ} {next' prev' : List ℕ} → l < length v.lists → n < v.nodes → IsFree v n
      → next' ≡ next_put next (nodes + l) n → prev' ≡ prev_put next prev (nodes + l) n
      → Stands nodes lists next' prev' (set owner n (Some l)) (with_list v l (n ∷ list_at v l))
  push_front_done {n} {l} li ni free en ep =
      let ll : l < lists = omega (arith, seen_lists s e) in
      let first = first_place s.tied l ll in
      put_done _ li ni free (inl refl) first.0 first.1 en ep
      (rw (seen_list s e l ll) (behind_first n (nodes + l) _ (sentinel_apart s.tied l ll)))

  -- a node put in behind another of list l
  pub insert_after_done : (y l : ℕ) {n : ℕ} {next' prev' : List ℕ} {o : Option ℕ} → n < v.nodes → IsFree v n → IsIn v l y → o ≡ get_or owner y o
      → next' ≡ next_put next y n → prev' ≡ prev_put next prev y n
      → Stands nodes lists next' prev' (set owner n o) (with_list v l (put_after y n (list_at v l)))
  insert_after_done y l {n} {o = o} ni free yin read en ep =
      let in_l = owner_from_in s e l y yin in
      let is : o ≡ Some l = get_or_read owner y o (omega (arith, s.owner_len, in_l.1)) read None ∙ in_l.2 in
      let near = around s.tied y l in_l.1 in_l.2 in
      rw is (put_done _ (omega (arith, seen_lists s e, in_l.0)) ni free (inr (in_l.1, in_l.2)) near.here_prev near.next_in en ep
      (rw (seen_list s e l in_l.0) (behind_put y n (nodes + l) _ ∙ (rw (ne_eqb y (nodes + l) (λ h. omega (arith, in_l.1))) refl))))

  -- a node of list l taken out
  pub remove_done : (n l : ℕ) {next' prev' : List ℕ} → IsIn v l n → next' ≡ next_cut next prev n → prev' ≡ prev_cut next prev n
      → Stands nodes lists next' prev' (set owner n None) (with_list v l (without n (list_at v l)))
  remove_done n l nin en ep =
      let in_l = owner_from_in s e l n nin in
      let near = around s.tied n l in_l.1 in_l.2 in
      let out = removes next prev
      (omega (arith, s.next_len, place_below s l _ in_l.0 near.prev_in)) (omega (arith, s.prev_len, place_below s l _ in_l.0 near.next_in))
      near.here_next near.here_prev in
      let no : n < length owner = omega (arith, s.owner_len, in_l.1) in
      let t = IsTied-without s.tied {owner' = owner_at (set owner n None)} n in_l.1 out
      (get_or-set_same owner n None None no) (λ i ne. get_or-set_other owner n i None None ne) in
      let now = ap (without n) (sym (seen_list s e l in_l.0)) in
      let there : (m : ℕ) → m < lists → m ≢ l → without n (chain_at nodes next m) ≡ chain_at nodes next m =
      λ m lt ne. without_apart n _ (other_apart s.tied n l m in_l.2 lt ne) in
      rw (en, ep) (stands_from (length-set next _ _ ∙ s.next_len) (length-set prev _ _ ∙ s.prev_len) (length-set owner n None ∙ s.owner_len)
      t (seen_with _ l (without n (list_at v l)) in_l.0 now there))

-- the first node of a list is in it
pub first_is_in : (v : NodeLists) (l n : ℕ) → Some n ≡ slice_get (list_at v l) 0 → IsIn v l n
first_is_in v l n h = from (list_at v l) h
  where
    from : (xs : List ℕ) → Some n ≡ slice_get xs 0 → has xs n ≡ true
    from [] h = absurd cc
    from (x ∷ xs) h = let same : n ≡ x = cc in rw (eq-eqb n x same) refl

-- without its first node a list is the rest
pub without_first_at : (v : NodeLists) (l n : ℕ) → IsValid v → Some n ≡ slice_get (list_at v l) 0 → without n (list_at v l) ≡ drop 1 (list_at v l)
without_first_at v l n valid h = without_first (list_at v l) n h (valid.distinct l)

map-range_const : (n a : ℕ) → map (λ (_ : ℕ). let none : List ℕ = [] in none) (range_with_len a n) ≡ replicate n []
map-range_const zero a = refl
map-range_const (suc n) a = ap (λ ys. [] ∷ ys) (map-range_const n (a + 1))

-- where each place is a ring of its own, the lists are empty
pub create_done : {nodes lists : ℕ} {next prev : List ℕ} {owner : List (Option ℕ)} → next ≡ range_with_len 0 (nodes + lists) → prev ≡ range_with_len 0 (nodes + lists)
    → owner ≡ replicate nodes None
    → Stands nodes lists next prev owner (record { nodes = nodes; lists = replicate lists [] })
create_done {nodes} {lists} {next} {prev} {owner} en ep eo =
    let alone : (l : ℕ) → l < lists → get_or (range_with_len 0 (nodes + lists)) (nodes + l) 0 ≡ nodes + l =
    λ l lt. get_or-range_with_len 0 (nodes + lists) (nodes + l) 0 (omega arith) ∙ zero-add (nodes + l) in
    let t : IsTied nodes lists (slice_index next) (slice_index prev) (owner_at owner) (λ _. []) = record {
      linked = λ l lt. (rw en (alone l lt), rw ep (alone l lt));
      owned = λ l lt. tt;
      held = λ n l lt o. let none = sym o ∙ ap (λ os. owner_at os n) eo ∙ get_or-replicate nodes n None None lt in cc;
    } in
    stands_from (rw en (length-range_with_len 0 _)) (rw ep (length-range_with_len 0 _)) (rw eo (length-replicate nodes None)) t
    (ap (λ ls. record { nodes = nodes; lists = ls }) (map-range_const lists 0))

-- one more place
pub range_more : (n : ℕ) → range_with_len 0 (n + 1) ≡ range_with_len 0 n ++ n ∷ []
range_more n = sym (map-id _) ∙ map-range_with_len_more (λ x. x) 0 n n (omega arith) ∙ ap (λ xs. xs ++ n ∷ []) (map-id _)
