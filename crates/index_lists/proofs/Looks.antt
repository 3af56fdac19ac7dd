-- Where the calls read and write, and what the calls that only look answer.
use Rattle.std.proofs.Common.{◌≡◌, ℕ, ◌+◌, ◌<◌, ◌≤◌, List, length, get_or, Option, Some, None, sym, arith, slice_index, slice_get, IfSome, IfNone}
use Rattle.std.proofs.lemmas.List.{get_or_read}
use Rattle.index_lists.specs.NodeLists.{NodeLists, after, list_at, IsIn, IsFree, IsHeld}
use Rattle.index_lists.specs.Linked.{IsSound, chain_at, node_lists}
use Rattle.index_lists.proofs.Edits.{All-weaken, first_is, after_is}
use Rattle.index_lists.proofs.Tied.{first_place, last_place, around}
use Rattle.index_lists.proofs.Seen.{place_below, seen_list, seen_lists, seen_nodes, owner_from_in, in_from_owner, free_from_none}

-- node n, and the places around it, are within the vectors
pub record IsInBounds (next prev : List ℕ) (owner : List (Option ℕ)) (n : ℕ) : Type 0 where
  pub owner_in : n < length owner
  pub next_in : n < length next
  pub before_in : slice_index prev n < length next
  pub behind_in : slice_index next n < length prev

module _ {nodes lists : ℕ} {next prev : List ℕ} {owner : List (Option ℕ)} (s : IsSound nodes lists next prev owner) {v : NodeLists} (e : node_lists nodes lists next ≡ v) where
  -- the place of a list is within the vectors
  pub list_below : {l : ℕ} → l < length v.lists → (nodes + l < length next) × (nodes + l < length prev)
  list_below li = (omega (arith, seen_lists s e, s.next_len), omega (arith, seen_lists s e, s.prev_len))

  -- and so is the place before it
  pub last_below : {y l : ℕ} → l < length v.lists → y ≡ get_or prev (nodes + l) y → (y < length next) × (slice_index next y < length prev)
  last_below {y} {l} li read =
      let ll : l < lists = omega (arith, seen_lists s e) in
      let last = last_place s.tied l ll in
      let ey = get_or_read prev (nodes + l) y (omega (arith, s.prev_len)) read 0 in
      (rw ey (omega (arith, s.next_len, place_below s l _ ll last.1)), rw (ey, last.0) (omega (arith, s.prev_len)))

  -- and the place behind it
  pub first_below : {l : ℕ} → l < length v.lists → slice_index next (nodes + l) < length prev
  first_below {l} li =
      let ll : l < lists = omega (arith, seen_lists s e) in
      omega (arith, s.prev_len, place_below s l _ ll (first_place s.tied l ll).1)

  pub held_below : {n : ℕ} → IsHeld v n → IsInBounds next prev owner n
  held_below {n} (l, h) =
      let in_l = owner_from_in s e l n h in
      let near = around s.tied n l in_l.1 in_l.2 in
      record {
        owner_in = omega (arith, s.owner_len, in_l.1);
        next_in = omega (arith, s.next_len, in_l.1);
        before_in = omega (arith, s.next_len, place_below s l _ in_l.0 near.prev_in);
        behind_in = omega (arith, s.prev_len, place_below s l _ in_l.0 near.next_in);
      }

  -- a place behind that of a list is its first node
  pub first_some : {y l : ℕ} → l < length v.lists → y ≡ get_or next (nodes + l) y → y < nodes → Some y ≡ slice_get (list_at v l) 0
  first_some {y} {l} li read lt =
      let ll : l < lists = omega (arith, seen_lists s e) in
      let ey = get_or_read next (nodes + l) y (omega (arith, s.next_len)) read 0 in
      rw (seen_list s e l ll, ey) ((first_is _ _ nodes (nodes + l) (chain_at nodes next l) (nodes + l) (omega arith) (s.tied.linked l ll)).0 (rw ey at lt))

  -- or the list is empty
  pub first_none : {y l : ℕ} → l < length v.lists → y ≡ get_or next (nodes + l) y → nodes ≤ y → None ≡ slice_get (list_at v l) 0
  first_none {y} {l} li read le =
      let ll : l < lists = omega (arith, seen_lists s e) in
      let ey = get_or_read next (nodes + l) y (omega (arith, s.next_len)) read 0 in
      rw (seen_list s e l ll) ((first_is _ _ nodes (nodes + l) (chain_at nodes next l) (nodes + l) (omega arith) (s.tied.linked l ll)).1 (All-weaken _ _ (λ x p. p.0) _ (s.tied.owned l ll)) (rw ey at le))

  -- a place behind that of a node is the node behind it
  pub next_some : {y : ℕ} (n : ℕ) → y ≡ get_or next n y → y < nodes → (l : ℕ) → IsIn v l n → Some y ≡ after n (list_at v l)
  next_some {y} n read lt l h =
      let in_l = owner_from_in s e l n h in
      let ey = get_or_read next n y (omega (arith, s.next_len, in_l.1)) read 0 in
      rw (seen_list s e l in_l.0, ey) ((after_is _ _ nodes n (nodes + l) (chain_at nodes next l) (nodes + l) (omega arith) (All-weaken _ _ (λ x p. p.0) _ (s.tied.owned l in_l.0)) (s.tied.linked l in_l.0) (s.tied.held n l in_l.1 in_l.2).1).0 (rw ey at lt))

  -- or the node is the last
  pub next_none : {y : ℕ} (n : ℕ) → y ≡ get_or next n y → nodes ≤ y → (l : ℕ) → IsIn v l n → None ≡ after n (list_at v l)
  next_none {y} n read le l h =
      let in_l = owner_from_in s e l n h in
      let ey = get_or_read next n y (omega (arith, s.next_len, in_l.1)) read 0 in
      rw (seen_list s e l in_l.0) ((after_is _ _ nodes n (nodes + l) (chain_at nodes next l) (nodes + l) (omega arith) (All-weaken _ _ (λ x p. p.0) _ (s.tied.owned l in_l.0)) (s.tied.linked l in_l.0) (s.tied.held n l in_l.1 in_l.2).1).1 (rw ey at le))

  -- the owner of a node is the list that it is in
  pub list_of_some : {n : ℕ} (o : Option ℕ) → n < v.nodes → o ≡ get_or owner n o → IfSome o (λ l. IsIn v l n)
  list_of_some None ni read = tt
  list_of_some {n} (Some l) ni read = in_from_owner s e l n (omega (arith, seen_nodes s e)) (sym (get_or_read owner n (Some l) (omega (arith, s.owner_len, seen_nodes s e)) read None))

  -- and with none it is in no list
  pub list_of_none : {n : ℕ} (o : Option ℕ) → n < v.nodes → o ≡ get_or owner n o → IfNone o (IsFree v n)
  list_of_none (Some l) ni read = tt
  list_of_none {n} None ni read = free_from_none s e n (sym (get_or_read owner n None (omega (arith, s.owner_len, seen_nodes s e)) read None))
