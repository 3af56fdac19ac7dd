-- The parts of a pool after a page leaves one of them or joins one.
use Rattle.std.proofs.Common.{◌≡◌, ℕ, zero, suc, ◌+◌, ◌-◌, ◌<◌, ◌≤◌, Bool, true, false, eqb, ◌||◌, inl, inr, List, [], ◌∷◌, ◌++◌, length, drop, slice_get, Some, refl, sym, ap, ◌∙◌, arith, append_assoc, length-append, subst}
use Rattle.std.specs.List.{IsDistinct}
use Rattle.std.proofs.lemmas.Bool.{cases_Bool, eqb-true, eq-eqb}
use Rattle.std.proofs.lemmas.List.{get_or_past, get_or-set_same, get_or-set_other, length-set, length-drop}
use Rattle.std.proofs.lemmas.Map.Steps.{length-le_from_distinct_below}
use Rattle.circular_buffer.specs.Buffer.{Buffer, buffer}
use Rattle.index_lists.specs.NodeLists.{NodeLists, has, list_at, IsFree, with_list}
use Rattle.index_lists.proofs.Edits.{has-list_any}
use Rattle.page_pool.specs.PoolPages.{PoolPages, free_list, free_pages, IsTaken, IsPartition}
use Rattle.page_pool.specs.Kept.{IsSound, pool_pages}
use Rattle.index_lists.proofs.Members.{has-append, has-append_false, has-append_right, apart_has, head_apart, IsDistinct-push, IsDistinct-tail}

-- no more pages are free than there are
pub few_free : (v : PoolPages) → IsPartition v → free_pages v ≤ v.pages
few_free v parted =
    let few = length-le_from_distinct_below (free_list v) v.pages parted.once (λ q h. parted.in_range q (sym (has-list_any (free_list v) q) ∙ h)) in
    omega (arith, few, length-append v.ring (v.clean ++ v.dirty), length-append v.clean v.dirty)

-- with a page more in the dirty list
pub released : (v : PoolPages) (p : ℕ) → IsPartition v → IsTaken v p → IsPartition (record v { dirty = v.dirty ++ p ∷ [] })
released v p parted taken =
    let same : v.ring ++ (v.clean ++ (v.dirty ++ p ∷ [])) ≡ free_list v ++ p ∷ [] = simp append_assoc in
    record {
      in_range = λ q h. elim (cases_Bool (eqb q p)) [
        | inl t ↦ rw (eqb-true q p t) taken.in_range
        | inr f ↦ parted.in_range q (let k = sym (has-append (free_list v) (p ∷ []) q) ∙ ap (λ xs. has xs q) (sym same) ∙ h in last_false (has (free_list v) q) (eqb q p) f k)
      ];
      once = rw same (IsDistinct-push (free_list v) p parted.once taken.not_free);
    }
  where
    last_false : (a b : Bool) → b ≡ false → (a || (b || false)) ≡ true → a ≡ true
    last_false true b f k = refl
    last_false false true f k = absurd cc
    last_false false false f k = absurd cc

-- with the first page of the ring taken
pub taken_first : (v : PoolPages) (p : ℕ) → Some p ≡ slice_get v.ring 0 → IsPartition v → IsPartition (record v { ring = drop 1 v.ring }) × (free_pages (record v { ring = drop 1 v.ring }) + 1 ≡ free_pages v)
taken_first v p h parted = go v.ring refl h
  where
    go : (ring : List ℕ) → v.ring ≡ ring → Some p ≡ slice_get ring 0 → IsPartition (record v { ring = drop 1 ring }) × (length (drop 1 ring) + length v.clean + length v.dirty + 1 ≡ free_pages v)
    go [] e h = absurd cc
    go (x ∷ ring) e h =
        let whole : free_list v ≡ x ∷ (ring ++ (v.clean ++ v.dirty)) = ap (λ r. r ++ (v.clean ++ v.dirty)) e in (
          record {
            in_range = λ q k. parted.in_range q (rw whole (elim (cases_Bool (eqb q x)) [ inl t ↦ rw t refl | inr f ↦ rw f k ]));
            once = IsDistinct-tail x _ (rw whole at parted.once);
          },
          omega (arith, ap length e),
        )

module _ (ring : Buffer ℕ) (lists : NodeLists) (free : ℕ) (s : IsSound ring lists free) (v : PoolPages) (e : pool_pages ring lists ≡ v) where
  -- a taken page is in neither list
  pub IsFree-taken : (p : ℕ) → IsTaken v p → IsFree lists p
  IsFree-taken p taken l =
      let parts = has-append_false ring.items (list_at lists 0 ++ list_at lists 1) p (ap (λ (w : PoolPages). has (free_list w) p) e ∙ taken.not_free) in
      let both = has-append_false (list_at lists 0) (list_at lists 1) p parts.1 in
      at_list l both.0 both.1
    where
      at_list : (l : ℕ) → has (list_at lists 0) p ≡ false → has (list_at lists 1) p ≡ false → has (list_at lists l) p ≡ false
      at_list zero a b = a
      at_list (suc zero) a b = b
      at_list (suc (suc l)) a b = let past : list_at lists (suc (suc l)) ≡ [] = get_or_past lists.lists (suc (suc l)) [] (omega (arith, s.two)) in rw past refl

  -- the count of free pages has room for one more
  pub free_fits : free ≤ 65536
  free_fits = omega (arith, s.counted, s.few, few_free (pool_pages ring lists) s.parted)

  -- the fields after a release
  pub released_sound : (p : ℕ) (lists' : NodeLists) → IsTaken v p → lists' ≡ with_list lists 1 (list_at lists 1 ++ p ∷ []) → IsSound ring lists' (free + 1)
  released_sound p lists' taken el =
      let here : list_at (with_list lists 1 (list_at lists 1 ++ p ∷ [])) 1 ≡ list_at lists 1 ++ p ∷ [] = get_or-set_same lists.lists 1 (list_at lists 1 ++ p ∷ []) [] (omega (arith, s.two)) in
      let there : list_at (with_list lists 1 (list_at lists 1 ++ p ∷ [])) 0 ≡ list_at lists 0 = get_or-set_other lists.lists 1 0 (list_at lists 1 ++ p ∷ []) [] (λ h. omega arith) in
      let new : pool_pages ring (with_list lists 1 (list_at lists 1 ++ p ∷ [])) ≡ (let w : PoolPages = record (pool_pages ring lists) { dirty = list_at lists 1 ++ p ∷ [] } in w) =
      rw (here, there) refl in
      let was : IsTaken (pool_pages ring lists) p = let P : PoolPages → Type 0 = λ w. IsTaken w p in subst P (sym e) taken in
      rw el (record {
        two = length-set lists.lists 1 _ ∙ s.two;
        few = s.few;
        fits = s.fits;
        some = s.some;
        counted = rw (here, there) (omega (arith, s.counted, length-append (list_at lists 1) (p ∷ [])));
        parted = rw new (released (pool_pages ring lists) p s.parted was);
      })

  -- the fields after a take
  pub take_sound : (p : ℕ) (ring' : Buffer ℕ) → Some p ≡ slice_get ring.items 0 → ring' ≡ buffer (drop 1 ring.items) ring.capacity → IsSound ring' lists (free - 1)
  take_sound p ring' h er =
      let t = taken_first (pool_pages ring lists) p h s.parted in
      rw er (record {
        two = s.two;
        few = s.few;
        fits = omega (arith, length-drop 1 ring.items, s.fits);
        some = s.some;
        counted = omega (arith, s.counted, t.1);
        parted = t.0;
      })

-- a page at the head of the dirty list is one of the pool
pub dirty_in_range : (ring : Buffer ℕ) (lists lists' : NodeLists) (free page : ℕ) → IsSound ring lists free → lists' ≡ with_list lists 0 (drop 1 (list_at lists 0))
    → Some page ≡ slice_get (list_at lists' 1) 0 → page < lists.nodes
dirty_in_range ring lists lists' free page s el h =
    let same : list_at lists' 1 ≡ list_at lists 1 = ap (λ (w : NodeLists). list_at w 1) el ∙ get_or-set_other lists.lists 0 1 (drop 1 (list_at lists 0)) [] (λ k. omega arith) in
    let there : has (list_at lists 1) page ≡ true = has_head (list_at lists 1) page (h ∙ ap (λ xs. slice_get xs 0) same) in
    s.parted.in_range page (has-append_right ring.items (list_at lists 0 ++ list_at lists 1) page (has-append_right (list_at lists 0) (list_at lists 1) page there))
  where
    has_head : (xs : List ℕ) (n : ℕ) → Some n ≡ slice_get xs 0 → has xs n ≡ true
    has_head [] n h = absurd cc
    has_head (x ∷ xs) n h = let k : n ≡ x = cc in rw (eq-eqb n x k) refl

-- a list from its first number on
front_is : (xs : List ℕ) (p : ℕ) → slice_get xs 0 ≡ Some p → xs ≡ p ∷ drop 1 xs
front_is [] p h = absurd cc
front_is (x ∷ xs) p h = let e : x ≡ p = cc in ap (λ y. y ∷ xs) e

-- the page that was first in the ring is taken
pub took : (v w : PoolPages) (p : ℕ) → IsPartition v → w.pages ≡ v.pages → slice_get v.ring 0 ≡ Some p → free_list w ≡ drop 1 v.ring ++ (v.clean ++ v.dirty) → IsTaken w p
took v w p parted same first rest =
    let whole : free_list v ≡ p ∷ free_list w = ap (λ l. l ++ (v.clean ++ v.dirty)) (front_is v.ring p first) ∙ ap (λ l. p ∷ l) (sym rest) in
    record {
      in_range = let below = parted.in_range p (ap (λ l. has l p) whole ∙ rw (eq-eqb p p refl) refl) in omega (arith, below, same);
      not_free = apart_has p (free_list w) (head_apart p (free_list w) (subst (IsDistinct eqb) whole parted.once));
    }
