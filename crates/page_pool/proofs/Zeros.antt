-- Which pages of an arena are zero, after one of them is written or leaves the ring.
use Rattle.std.proofs.Common.{◌≡◌, ℕ, ◌<◌, true, false, inl, inr, List, [], ◌∷◌, ◌++◌, length, drop, refl, sym, ap, ◌∙◌, arith, append_assoc, set, replicate}
use Rattle.std.proofs.lemmas.List.{get_or-set_same, get_or-set_other, get_or-replicate}
use Rattle.circular_buffer.specs.Buffer.{Buffer, buffer, keep_last}
use Rattle.cl_types.specs.Bytes.{fresh_bytes}
use Rattle.index_lists.specs.NodeLists.{NodeLists, has, list_at, with_list}
use Rattle.index_lists.proofs.Linking.{split_eq}
use Rattle.page_arena.specs.Arena.{page_at, zero_page}
use Rattle.page_pool.specs.PoolPages.{PoolPages, free_list, IsTaken, IsPartition, AreZero}
use Rattle.index_lists.proofs.Members.{has-append_false, has-append_cases, has-append_left, has-append_right, has-drop}

-- what the arena calls a page of zeros is a fresh page
pub zero_page_is : zero_page ≡ fresh_bytes
unfolding zero_page fresh_bytes
zero_page_is = refl

-- in a new arena
pub AreZero-new : (v : PoolPages) → IsPartition v → (arena : List (List ℕ)) → arena ≡ replicate v.pages zero_page → AreZero arena (v.ring ++ v.clean)
AreZero-new v parted arena new p h =
    let free : has (free_list v) p ≡ true = rw (← append_assoc) (has-append_left (v.ring ++ v.clean) v.dirty p h) in
    ap (λ (pages : List (List ℕ)). page_at pages p) new ∙ get_or-replicate v.pages p zero_page [] (parted.in_range p free) ∙ zero_page_is

-- without the first page of the ring
pub AreZero-take : (arena : List (List ℕ)) (v : PoolPages) → AreZero arena (v.ring ++ v.clean) → AreZero arena (drop 1 v.ring ++ v.clean)
AreZero-take arena v zeros p h = zeros p (elim (has-append_cases (drop 1 v.ring) v.clean p h) [
  | inl a ↦ has-append_left v.ring v.clean p (has-drop 1 v.ring p a)
  | inr b ↦ has-append_right v.ring v.clean p b
])

-- after a write to a taken page
pub AreZero-write : (arena : List (List ℕ)) (v : PoolPages) (page : ℕ) (bytes : List ℕ) → IsTaken v page → AreZero arena (v.ring ++ v.clean) → AreZero (set arena page bytes) (v.ring ++ v.clean)
AreZero-write arena v page bytes taken zeros p h =
    let joined : has ((v.ring ++ v.clean) ++ v.dirty) page ≡ false = rw append_assoc taken.not_free in
    let apart = has-append_false (v.ring ++ v.clean) v.dirty page joined in
    elim (split_eq p page) [
      | inl t ↦ absurd (let k = sym h ∙ ap (has (v.ring ++ v.clean)) t.0 ∙ apart.0 in cc)
      | inr f ↦ rw (get_or-set_other arena page p bytes [] f.0) (zeros p h)
    ]

-- the pages of the new ring and clean list are the old ones and the one that was zeroed
pub refill_zero : (ring ring' : Buffer ℕ) (lists lists' last : NodeLists) (page : ℕ) (arena : List (List ℕ)) (ds : List ℕ)
    → ring' ≡ buffer (keep_last ring.capacity (ring.items ++ page ∷ [])) ring.capacity → lists' ≡ with_list lists 0 (drop 1 (list_at lists 0)) → last ≡ with_list lists' 1 ds → length lists.lists ≡ 2
    → page < length arena → AreZero arena (ring.items ++ list_at lists 0)
    → AreZero (set arena page zero_page) (ring'.items ++ list_at last 0)
refill_zero ring ring' lists lists' last page arena ds er el ed two lt zeros p h =
    elim (split_eq p page) [
      | inl t ↦ rw (t.0, get_or-set_same arena page zero_page [] lt) zero_page_is
      | inr f ↦
          let old : has (ring.items ++ list_at lists 0) p ≡ true = elim (has-append_cases ring'.items (list_at last 0) p h) [
            | inl a ↦
                let b = has-drop _ (ring.items ++ page ∷ []) p (ap (λ (r : Buffer ℕ). has r.items p) (sym er) ∙ a) in
                elim (has-append_cases ring.items (page ∷ []) p b) [
                  | inl c ↦ has-append_left ring.items (list_at lists 0) p c
                  | inr c ↦ absurd (let d = rw f.1 at c in cc)
                ]
            | inr a ↦
                let same : list_at last 0 ≡ drop 1 (list_at lists 0) = ap (λ (w : NodeLists). list_at w 0) ed ∙ get_or-set_other lists'.lists 1 0 ds [] (λ k. omega arith) ∙ ap (λ (w : NodeLists). list_at w 0) el ∙ get_or-set_same lists.lists 0 (drop 1 (list_at lists 0)) [] (omega arith) in
                has-append_right ring.items (list_at lists 0) p (has-drop 1 (list_at lists 0) p (ap (λ xs. has xs p) (sym same) ∙ a))
          ] in
          rw (get_or-set_other arena page p zero_page [] f.0) (zeros p old)
    ]
