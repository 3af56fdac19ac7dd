-- The frames of pages that leave the table: each was taken, and is released once.
use Rattle.std.proofs.Common.{◌≡◌, ◌≢◌, inl, inr, ℕ, ◌+◌, Bool, true, false, cond, List, [], ◌∷◌, ◌++◌, Option, Some, None, refl, sym, ap, ◌∙◌, append_assoc}
use Rattle.std.specs.List.{cons_option, filter_map}
use Rattle.std.proofs.lemmas.Bool.{ne_eqb}
use Rattle.std.proofs.lemmas.List.Elements.{filter_map-append}
use Rattle.std.proofs.lemmas.List.FromFn.{map-range_with_len_more}
use Rattle.cl_types.specs.Places.{Place}
use Rattle.cl_types.proofs.PlaceLemmas.{same_place, split_place}
use Rattle.hash_buckets.specs.PageMap.{PageMap, entry_of, without_entry}
use Rattle.page_pool.specs.PoolPages.{PoolPages, IsTaken, free_list}
use Rattle.index_lists.proofs.Members.{has-append}
use Rattle.flat_model.specs.State.{places_of}
use Rattle.range_alloc.specs.Ranges.{AreTaken, frame_at, frames_of}
use Rattle.range_alloc.proofs.Entries.{entry-without, frame_in}

-- the pool with a page more in the dirty list
abbrev pub with_dirty : PoolPages → List ℕ → PoolPages
with_dirty pool frames = record pool { dirty = pool.dirty ++ frames }

-- a page that is taken is still taken when another is released
still_taken : (pool : PoolPages) (released frame : ℕ) → IsTaken pool frame → frame ≢ released → IsTaken (with_dirty pool (released ∷ [])) frame
still_taken pool released frame taken other =
    let same : pool.ring ++ (pool.clean ++ (pool.dirty ++ released ∷ [])) ≡ free_list pool ++ released ∷ [] = simp append_assoc in
    record {
      in_range = taken.in_range;
      not_free = rw same (has-append (free_list pool) (released ∷ []) frame ∙ rw (taken.not_free, ne_eqb frame released other) refl);
    }

-- a page that leaves names no frame, and each other page names what it named
frame-without : (table : PageMap) (place q : Place) → frame_at (without_entry table place) q ≡ cond (same_place q place) None (frame_at table q)
frame-without table place q = ap frame_in (entry-without table place q) ∙ choice (same_place q place)
  where
    choice : (b : Bool) → frame_in (cond b None (entry_of table q)) ≡ cond b None (frame_at table q)
    choice true = refl
    choice false = refl

-- a table with no page names no frame
pub taken_empty : (buckets : ℕ) (pool : PoolPages) → AreTaken (record { buckets = buckets; entries = [] }) pool
taken_empty buckets pool = record {
  taken = λ place frame named. absurd (cc named);
  once = λ p q frame left right. absurd (cc left);
}

-- what is said of frames stays where each page's frame stays
pub taken_same : (table new : PageMap) (pool : PoolPages) → AreTaken table pool → ((q : Place) → frame_at new q ≡ frame_at table q) → AreTaken new pool
taken_same table new pool frames same = record {
  taken = λ place frame named. frames.taken place frame (sym (same place) ∙ named);
  once = λ p q frame left right. frames.once p q frame (sym (same p) ∙ left) (sym (same q) ∙ right);
}

module _ (table : PageMap) (pool : PoolPages) (place : Place) (frames : AreTaken table pool) where
  -- a page whose frame stays is another
  stays : (q : Place) (frame : ℕ) → frame_at (without_entry table place) q ≡ Some frame → (frame_at table q ≡ Some frame) × (q ≢ place)
  stays q frame is = elim (split_place q place) [
    | inl one ↦
        let none : frame_at (without_entry table place) q ≡ None = frame-without table place q ∙ rw one.1 refl in
        absurd (cc (none, is))
    | inr two ↦ (sym (frame-without table place q ∙ rw two.1 refl) ∙ is, two.0)
  ]

  -- the frame of each other page is still taken
  pub record AreStill (left : PoolPages) : Type 0 where
    pub each : (q : Place) (frame : ℕ) → frame_at table q ≡ Some frame → q ≢ place → IsTaken left frame

  -- so it is after the page left
  pub taken_left : (new : PageMap) (left : PoolPages) → new ≡ without_entry table place → AreStill left → AreTaken new left
  taken_left new left is still = record {
    taken = λ q frame named. let was = stays q frame (sym (ap (λ (t : PageMap). frame_at t q) is) ∙ named) in still.each q frame was.0 was.1;
    once = λ p q frame one two.
        frames.once p q frame (stays p frame (sym (ap (λ (t : PageMap). frame_at t p) is) ∙ one)).0 (stays q frame (sym (ap (λ (t : PageMap). frame_at t q) is) ∙ two)).0;
  }

  -- the frame of the page that leaves is released
  pub still_released : (released : ℕ) (left : PoolPages) → frame_at table place ≡ Some released → left ≡ with_dirty pool (released ∷ []) → AreStill left
  still_released released left named is = record {
    each = λ q frame mine other.
        let apart : frame ≢ released = λ same. other (frames.once q place released (mine ∙ ap (λ (f : ℕ). Some f) same) named) in
        rw is (still_taken pool released frame (frames.taken q frame mine) apart);
  }

  -- it has none, and the pool stays
  pub still_same : (left : PoolPages) → left ≡ pool → AreStill left
  still_same left is = record { each = λ q frame mine other. rw is (frames.taken q frame mine) }

-- the frames of the pages, one page more
frames_more : (table : PageMap) (space start n : ℕ) → frames_of table space start (n + 1) ≡ frames_of table space start n ++ cons_option (frame_at table (space, start + n)) []
frames_more table space start n =
    ap (filter_map (frame_at table)) (map-range_with_len_more (λ (page : ℕ). let place : Place = (space, page) in place) start n (start + n) refl)
    ∙ filter_map-append (frame_at table) (places_of space start n) ((space, start + n) ∷ [])

-- and they are released, one page more
pub dirty_more : (table part : PageMap) (pool some new : PoolPages) (space start n : ℕ) → entry_of part (space, start + n) ≡ entry_of table (space, start + n)
    → some ≡ with_dirty pool (frames_of table space start n) → new ≡ with_dirty some (cons_option (frame_at part (space, start + n)) [])
    → new ≡ with_dirty pool (frames_of table space start (n + 1))
dirty_more table part pool some new space start n entry before is =
    let more : List ℕ = cons_option (frame_at table (space, start + n)) [] in
    let named : frame_at part (space, start + n) ≡ frame_at table (space, start + n) = ap frame_in entry in
    let joined : (pool.dirty ++ frames_of table space start n) ++ more ≡ pool.dirty ++ frames_of table space start (n + 1) =
    simp append_assoc (ap (λ xs. pool.dirty ++ xs) (sym (frames_more table space start n))) in
    is ∙ ap (λ (frame : Option ℕ). with_dirty some (cons_option frame [])) named ∙ ap (λ (p : PoolPages). with_dirty p more) before ∙ ap (λ xs. record pool { dirty = xs }) joined
