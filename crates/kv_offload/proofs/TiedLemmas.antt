-- The chains of a store when a node joins one, or leaves one.
use Rattle.std.proofs.Common.{◌≡◌, ◌≢◌, ℕ, ◌+◌, ◌<◌, ◌≤◌, true, eqb, ◌||◌, ◌⊎◌, inl, inr, List, [], ◌∷◌, ◌++◌, length, length-append, drop, refl, sym, ap, subst, ◌∙◌, arith}
use Rattle.std.specs.List.{list_any}
use Rattle.std.proofs.lemmas.Bool.{cases_eq}
use Rattle.std.proofs.lemmas.Map.Steps.{length-le_from_distinct_below}
use Rattle.kv_offload.specs.declared.layout.TheConstants.{HEADS}
use Rattle.kv_offload.specs.Found.{last_of}
use Rattle.kv_offload.specs.Links.{has, IsLinked, behind, IsAtHome, IsTied}
use Rattle.kv_offload.proofs.LinkLemmas.{has_head, has_more, has_cases, has_mid, last_in, has_others, has_before, linked_apart, IsDistinct-linked, chain_is, linked_append, relinked, unlinked, gone}

has-list_any : (xs : List ℕ) (q : ℕ) → list_any (eqb q) xs ≡ has xs q
has-list_any [] q = refl
has-list_any (x ∷ xs) q = ap (λ b. eqb q x || b) (has-list_any xs q)

-- the first node of a chain that has one
pub linked_first : (link : ℕ → ℕ) (node : ℕ) (xs : List ℕ) → IsLinked link node xs → link node ≢ 0 → xs ≡ link node ∷ drop 1 xs
linked_first link node [] l ne = absurd (ne l)
linked_first link node (x ∷ xs) l ne = ap (λ y. y ∷ xs) (sym l.0)

module _ {records : ℕ} {link home : ℕ → ℕ} {at : ℕ → List ℕ} (tied : IsTied records link home at) where
  length_at : (head : ℕ) → head < HEADS → length (at head) ≤ HEADS + records
  length_at head less =
      length-le_from_distinct_below (at head) (HEADS + records) (IsDistinct-linked link head (at head) (tied.linked head less))
      (λ q h. (tied.member head q less (sym (has-list_any (at head) q) ∙ h)).below)

  -- the walk from a head gives its chain
  pub behind_is : (head : ℕ) → head < HEADS → behind records link head ≡ at head
  unfolding behind
  behind_is head less = chain_is link (HEADS + records) head (at head) (tied.linked head less) (length_at head less)

  -- and from a node of the chain what is behind it
  pub behind_rest : (head : ℕ) (seen rest : List ℕ) → head < HEADS → at head ≡ seen ++ rest → behind records link (last_of head seen) ≡ rest
  unfolding behind
  behind_rest head seen rest less split =
      let few = length_at head less in
      let long : length (at head) ≡ length seen + length rest = ap length split ∙ length-append seen rest in
      chain_is link (HEADS + records) (last_of head seen) rest
      (linked_append link head seen rest (subst (λ xs. IsLinked link head xs) split (tied.linked head less))) (omega (arith, few, long))

  pub tied_behind : ((node : ℕ) → home node < HEADS) → IsTied records link home (behind records link)
  tied_behind below = record {
    linked = λ head less. subst (λ xs. IsLinked link head xs) (sym (behind_is head less)) (tied.linked head less);
    member = λ head node less h. tied.member head node less (subst (λ xs. has xs node ≡ true) (behind_is head less) h);
    held = λ node more less. subst (λ xs. has xs node ≡ true) (sym (behind_is (home node) (below node))) (tied.held node more less);
  }

  -- other functions that say the same of the nodes
  pub tied_same : (link' home' : ℕ → ℕ) → ((node : ℕ) → node < HEADS + records → link' node ≡ link node)
      → ((node : ℕ) → HEADS ≤ node → node < HEADS + records → home' node ≡ home node) → IsTied records link' home' at
  tied_same link' home' links homes = record {
    linked = λ head less. relinked link link' head head (at head) (links head (omega arith)) (λ n h. links n (tied.member head n less h).below) (tied.linked head less);
    member = λ head node less h.
        let was = tied.member head node less h in
        record { above = was.above; below = was.below; at_home = homes node was.above was.below ∙ was.at_home };
    held = λ node more less. subst (λ head. has (at head) node ≡ true) (sym (homes node more less)) (tied.held node more less);
  }

-- a free node joins the chain of a head
pub record Joins (link link' : ℕ → ℕ) (at at' : ℕ → List ℕ) (head node : ℕ) (free : List ℕ) : Type 0 where
  pub was : at 0 ≡ node ∷ free
  pub first : link' 0 ≡ link node
  pub second : link' node ≡ link head
  pub third : link' head ≡ node
  pub others : (n : ℕ) → n ≢ 0 → n ≢ node → n ≢ head → link' n ≡ link n
  pub at_free : at' 0 ≡ free
  pub at_head : at' head ≡ node ∷ at head
  pub at_others : (h : ℕ) → h ≢ 0 → h ≢ head → at' h ≡ at h

module _ {records head node : ℕ} {link home link' home' : ℕ → ℕ} {at at' : ℕ → List ℕ} {free : List ℕ} (tied : IsTied records link home at)
    (joins : Joins link link' at at' head node free) (some : 1 ≤ head) (below : head < HEADS)
    (here : home' node ≡ head) (same : (n : ℕ) → HEADS ≤ n → n < HEADS + records → n ≢ node → home' n ≡ home n) where
  free_node : IsAtHome records home 0 node
  free_node = tied.member 0 node (omega arith) (subst (λ xs. has xs node ≡ true) (sym joins.was) (has_head node free))

  free_linked : IsLinked link 0 (node ∷ free)
  free_linked = subst (λ xs. IsLinked link 0 xs) joins.was (tied.linked 0 (omega arith))

  in_free : (m : ℕ) → has free m ≡ true → IsAtHome records home 0 m
  in_free m h = tied.member 0 m (omega arith) (subst (λ xs. has xs m ≡ true) (sym joins.was) (has_more node m free h))

  -- a node of another chain is not the free node
  joins_apart : (h m : ℕ) → h ≢ 0 → IsAtHome records home h m → m ≢ node
  joins_apart h m ne is e = ne (sym is.at_home ∙ ap home e ∙ free_node.at_home)

  free_apart : (m : ℕ) → has free m ≡ true → m ≢ node
  free_apart m h e =
      let apart = linked_apart link node free free_linked.2 in
      let there : has free node ≡ true = subst (λ k. has free k ≡ true) e h in
      absurd cc

  joins_linked : (h : ℕ) → h < HEADS → IsLinked link' h (at' h)
  joins_linked h less = elim (cases_eq h 0) [
    | inl e ↦ rw (e, joins.at_free) (relinked link link' node 0 free joins.first
        (λ m hm. let is = in_free m hm in joins.others m (λ z. omega (arith, z, is.above)) (free_apart m hm) (λ z. omega (arith, z, is.above))) free_linked.2)
    | inr full ↦ elim (cases_eq h head) [
      | inl e ↦ rw (e, joins.at_head) (
        joins.third,
        free_linked.1,
        relinked link link' head node (at head) joins.second
            (λ m hm. let is = tied.member head m below hm in joins.others m (λ z. omega (arith, z, is.above)) (joins_apart head m (λ z. omega (arith, z)) is) (λ z. omega (arith, z, is.above))) (tied.linked head below),
      )
      | inr other ↦ rw (joins.at_others h full other) (relinked link link' h h (at h) (joins.others h full (λ z. omega (arith, z, free_node.above)) other)
          (λ m hm. let is = tied.member h m less hm in joins.others m (λ z. omega (arith, z, is.above)) (joins_apart h m full is) (λ z. omega (arith, z, is.above))) (tied.linked h less))
    ]
  ]

  kept_home : (h m : ℕ) → m ≢ node → IsAtHome records home h m → IsAtHome records home' h m
  kept_home h m ne is = record { above = is.above; below = is.below; at_home = same m is.above is.below ne ∙ is.at_home }

  joins_member : (h m : ℕ) → h < HEADS → has (at' h) m ≡ true → IsAtHome records home' h m
  joins_member h m less hm = elim (cases_eq h 0) [
    | inl e ↦
        let there : has free m ≡ true = subst (λ xs. has xs m ≡ true) (ap at' e ∙ joins.at_free) hm in
        rw e (kept_home 0 m (free_apart m there) (in_free m there))
    | inr full ↦ elim (cases_eq h head) [
      | inl e ↦ elim (has_cases node m (at head) (subst (λ xs. has xs m ≡ true) (ap at' e ∙ joins.at_head) hm)) [
        | inl is ↦ rw (e, is) (record { above = free_node.above; below = free_node.below; at_home = here })
        | inr there ↦ let was = tied.member head m below there in rw e (kept_home head m (joins_apart head m (λ z. omega (arith, z)) was) was)
      ]
      | inr other ↦
          let was = tied.member h m less (subst (λ xs. has xs m ≡ true) (joins.at_others h full other) hm) in
          kept_home h m (joins_apart h m full was) was
    ]
  ]

  joins_stays : (h m : ℕ) → m ≢ node → has (at h) m ≡ true → has (at' h) m ≡ true
  joins_stays h m ne hm = elim (cases_eq h 0) [
    | inl e ↦ elim (has_cases node m free (subst (λ xs. has xs m ≡ true) (ap at e ∙ joins.was) hm)) [
      | inl is ↦ absurd (ne is)
      | inr there ↦ rw (e, joins.at_free) there
    ]
    | inr full ↦ elim (cases_eq h head) [
      | inl e ↦ rw (e, joins.at_head) (has_more node m (at head) (subst (λ xs. has xs m ≡ true) (ap at e) hm))
      | inr other ↦ rw (joins.at_others h full other) hm
    ]
  ]

  joins_held : (m : ℕ) → HEADS ≤ m → m < HEADS + records → has (at' (home' m)) m ≡ true
  joins_held m more less = elim (cases_eq m node) [
    | inl e ↦ rw (e, here, joins.at_head) (has_head node (at head))
    | inr ne ↦ rw (same m more less ne) (joins_stays (home m) m ne (tied.held m more less))
  ]

  pub tied_joins : IsTied records link' home' at'
  tied_joins = record { linked = joins_linked; member = joins_member; held = joins_held }

-- a node leaves the chain of a head, and is free
pub record Parts (link link' : ℕ → ℕ) (at at' : ℕ → List ℕ) (head node : ℕ) (seen rest : List ℕ) : Type 0 where
  pub was : at head ≡ seen ++ node ∷ rest
  pub first : link' (last_of head seen) ≡ link node
  pub second : link' node ≡ link 0
  pub third : link' 0 ≡ node
  pub others : (n : ℕ) → n ≢ 0 → n ≢ last_of head seen → n ≢ node → link' n ≡ link n
  pub at_free : at' 0 ≡ node ∷ at 0
  pub at_head : at' head ≡ seen ++ rest
  pub at_others : (h : ℕ) → h ≢ 0 → h ≢ head → at' h ≡ at h

module _ {records head node : ℕ} {link home link' home' : ℕ → ℕ} {at at' : ℕ → List ℕ} {seen rest : List ℕ} (tied : IsTied records link home at)
    (parts : Parts link link' at at' head node seen rest) (some : 1 ≤ head) (below : head < HEADS)
    (here : home' node ≡ 0) (same : (n : ℕ) → HEADS ≤ n → n < HEADS + records → n ≢ node → home' n ≡ home n) where
  own_node : IsAtHome records home head node
  own_node = tied.member head node below (subst (λ xs. has xs node ≡ true) (sym parts.was) (has_mid seen rest node))

  own_linked : IsLinked link head (seen ++ node ∷ rest)
  own_linked = subst (λ xs. IsLinked link head xs) parts.was (tied.linked head below)

  -- the node before it is the head or in its chain
  last_is : (last_of head seen ≡ head) ⊎ IsAtHome records home head (last_of head seen)
  last_is = elim (has_cases head (last_of head seen) (seen ++ node ∷ rest) (last_in head seen (node ∷ rest))) [
    | inl e ↦ inl e
    | inr there ↦ inr (tied.member head (last_of head seen) below (subst (λ xs. has xs (last_of head seen) ≡ true) (sym parts.was) there))
  ]

  last_apart : (h m : ℕ) → h ≢ head → IsAtHome records home h m → m ≢ last_of head seen
  last_apart h m ne is e = elim last_is [
    | inl own ↦ let z : m ≡ head = e ∙ own in omega (arith, z, is.above)
    | inr there ↦ ne (sym is.at_home ∙ ap home e ∙ there.at_home)
  ]

  head_apart : (h : ℕ) → h < HEADS → h ≢ head → h ≢ last_of head seen
  head_apart h less ne e = elim last_is [
    | inl own ↦ ne (e ∙ own)
    | inr there ↦ omega (arith, e, there.above)
  ]

  parts_apart : (h m : ℕ) → h ≢ head → IsAtHome records home h m → m ≢ node
  parts_apart h m ne is e = ne (sym is.at_home ∙ ap home e ∙ own_node.at_home)

  parts_linked : (h : ℕ) → h < HEADS → IsLinked link' h (at' h)
  parts_linked h less = elim (cases_eq h 0) [
    | inl e ↦ rw (e, parts.at_free) (
      parts.third,
      (let z = own_node.above in omega (arith, z)),
      relinked link link' 0 node (at 0) parts.second
          (λ m hm. let is = tied.member 0 m (omega arith) hm in let ne : 0 ≢ head = λ z. omega (arith, z) in parts.others m (λ z. omega (arith, z, is.above)) (last_apart 0 m ne is) (parts_apart 0 m ne is)) (tied.linked 0 (omega arith)),
    )
    | inr full ↦ elim (cases_eq h head) [
      | inl e ↦ rw (e, parts.at_head) (unlinked link link' head node seen rest (omega arith) parts.first (λ m pos last own. parts.others m (λ z. omega (arith, z, pos)) last own) own_linked)
      | inr other ↦ rw (parts.at_others h full other) (relinked link link' h h (at h) (parts.others h full (head_apart h less other) (λ z. omega (arith, z, own_node.above)))
          (λ m hm. let is = tied.member h m less hm in parts.others m (λ z. omega (arith, z, is.above)) (last_apart h m other is) (parts_apart h m other is)) (tied.linked h less))
    ]
  ]

  left_home : (h m : ℕ) → m ≢ node → IsAtHome records home h m → IsAtHome records home' h m
  left_home h m ne is = record { above = is.above; below = is.below; at_home = same m is.above is.below ne ∙ is.at_home }

  not_gone : (m : ℕ) → has (seen ++ rest) m ≡ true → m ≢ node
  not_gone m hm e =
      let there : has (seen ++ rest) node ≡ true = subst (λ k. has (seen ++ rest) k ≡ true) e hm in
      let out = gone link head node seen rest own_linked in
      absurd cc

  parts_member : (h m : ℕ) → h < HEADS → has (at' h) m ≡ true → IsAtHome records home' h m
  parts_member h m less hm = elim (cases_eq h 0) [
    | inl e ↦ elim (has_cases node m (at 0) (subst (λ xs. has xs m ≡ true) (ap at' e ∙ parts.at_free) hm)) [
      | inl is ↦ rw (e, is) (record { above = own_node.above; below = own_node.below; at_home = here })
      | inr there ↦ let was = tied.member 0 m (omega arith) there in rw e (left_home 0 m (parts_apart 0 m (λ z. omega (arith, z)) was) was)
    ]
    | inr full ↦ elim (cases_eq h head) [
      | inl e ↦
          let there : has (seen ++ rest) m ≡ true = subst (λ xs. has xs m ≡ true) (ap at' e ∙ parts.at_head) hm in
          rw e (left_home head m (not_gone m there) (tied.member head m below (subst (λ xs. has xs m ≡ true) (sym parts.was) (has_before seen rest node m there))))
      | inr other ↦
          let was = tied.member h m less (subst (λ xs. has xs m ≡ true) (parts.at_others h full other) hm) in
          left_home h m (parts_apart h m other was) was
    ]
  ]

  parts_stays : (h m : ℕ) → m ≢ node → has (at h) m ≡ true → has (at' h) m ≡ true
  parts_stays h m ne hm = elim (cases_eq h 0) [
    | inl e ↦ rw (e, parts.at_free) (has_more node m (at 0) (subst (λ xs. has xs m ≡ true) (ap at e) hm))
    | inr full ↦ elim (cases_eq h head) [
      | inl e ↦ rw (e, parts.at_head) (has_others seen rest node m ne (subst (λ xs. has xs m ≡ true) (ap at e ∙ parts.was) hm))
      | inr other ↦ rw (parts.at_others h full other) hm
    ]
  ]

  parts_held : (m : ℕ) → HEADS ≤ m → m < HEADS + records → has (at' (home' m)) m ≡ true
  parts_held m more less = elim (cases_eq m node) [
    | inl e ↦ rw (e, here, parts.at_free) (has_head node (at 0))
    | inr ne ↦ rw (same m more less ne) (parts_stays (home m) m ne (tied.held m more less))
  ]

  pub tied_parts : IsTied records link' home' at'
  tied_parts = record { linked = parts_linked; member = parts_member; held = parts_held }
