-- What a table has at a page, before and after a write to one slot.
use Rattle.std.proofs.Common.{Bool, true, false, T, not, ◌≡◌, ◌≢◌, ℕ, zero, suc, ◌+◌, ◌<◌, ◌≤◌, cond, eqb, ◌⊎◌, inl, inr, List, [], ◌∷◌, ◌++◌, length, set, Option, Some, None, map, is_some, count_by, refl, sym, ap, ◌∙◌, arith}
use Rattle.std.specs.FinMap.Entries.{find, where_key, is_sorted, find-put, is_sorted-put, find-where_key, is_sorted-where_key, same_entries}
use Rattle.std.proofs.lemmas.Bool.{cases_Bool, cases_eq, cases_lt, eq-eqb, ne_eqb}
use Rattle.std.proofs.lemmas.List.{length-set, get_or-set_same, get_or-set_other, get_or_past}
use Rattle.std.proofs.lemmas.List.Sums.{sum_by-cons, count_by-le-length}
use Rattle.cl_types.specs.declared.page.Pte.{Pte}
use Rattle.cl_types.specs.Places.{Place, place_cmp, home_of, homes_at}
use Rattle.cl_types.proofs.PlaceLemmas.{place_total, place_exact, same_place, split_place, same_place-sym}
use Rattle.hash_buckets.specs.declared.buckets.Slot.{Slot}
use Rattle.hash_buckets.specs.PageMap.{entry_of, load, with_entry, without_page, without_entry, IsValid}
use Rattle.hash_buckets.specs.Slots.{slot_entries, look, all_entries, in_order, IsHome, IsApart, IsSound, bucket_at, page_map}
use Rattle.hash_buckets.proofs.Bucket.{look-other, length-slot_entries, find-in_order, is_sorted-in_order, IsWrite}

-- a search through one list of entries, and then another
find-append_none : (es fs : List (Place × Pte)) (q : Place) → find place_cmp q es ≡ None → find place_cmp q (es ++ fs) ≡ find place_cmp q fs
find-append_none [] fs q h = refl
find-append_none (e ∷ es) fs q h = elim (cases_Bool (same_place q e.0)) [
  | inl t ↦ absurd (let n = rw t at h in cc)
  | inr f ↦ rw f (find-append_none es fs q (rw f at h))
]

find-append_some : (es fs : List (Place × Pte)) (q : Place) (v : Pte) → find place_cmp q es ≡ Some v → find place_cmp q (es ++ fs) ≡ Some v
find-append_some [] fs q v h = absurd cc
find-append_some (e ∷ es) fs q v h = elim (cases_Bool (same_place q e.0)) [
  | inl t ↦ rw t (rw t at h)
  | inr f ↦ rw f (find-append_some es fs q v (rw f at h))
]

-- the buckets from a on hold pages of their homes
abbrev pub AreHomes : ℕ → ℕ → List (List (Option Slot)) → Type 0
AreHomes buckets a bs = (i : ℕ) → i < length bs → IsHome buckets (a + i) (bucket_at bs i)

AreHomes-rest : (buckets a : ℕ) (b : List (Option Slot)) (bs : List (List (Option Slot))) → AreHomes buckets a (b ∷ bs) → AreHomes buckets (a + 1) bs
AreHomes-rest buckets a b bs homes i lt = let e : a + 1 + i ≡ a + suc i = omega arith in rw e (homes (suc i) (omega arith))

-- a page is not found where no bucket is its home
find-all_none : (buckets a : ℕ) (bs : List (List (Option Slot))) (q : Place) → AreHomes buckets a bs → ((i : ℕ) → i < length bs → home_of buckets q ≢ a + i)
    → find place_cmp q (all_entries bs) ≡ None
find-all_none buckets a [] q homes other = refl
find-all_none buckets a (b ∷ bs) q homes other =
    find-append_none (slot_entries b) (all_entries bs) q (look-other buckets (a + 0) b q (homes 0 (omega arith)) (other 0 (omega arith)))
    ∙ find-all_none buckets (a + 1) bs q (AreHomes-rest buckets a b bs homes) (λ i lt e. other (suc i) (omega arith) (omega arith))

-- and else it is found in the bucket of its home
find-all_at : (buckets a : ℕ) (bs : List (List (Option Slot))) (q : Place) (i : ℕ) → AreHomes buckets a bs → i < length bs → home_of buckets q ≡ a + i
    → find place_cmp q (all_entries bs) ≡ look (bucket_at bs i) q
find-all_at buckets a [] q i homes lt at = absurd (omega arith)
find-all_at buckets a (b ∷ bs) q zero homes lt at = first (look b q) refl
  where
    first : (o : Option Pte) → look b q ≡ o → find place_cmp q (all_entries (b ∷ bs)) ≡ look b q
    first None h = find-append_none (slot_entries b) (all_entries bs) q h
        ∙ find-all_none buckets (a + 1) bs q (AreHomes-rest buckets a b bs homes) (λ i lt e. omega arith) ∙ sym h
    first (Some v) h = find-append_some (slot_entries b) (all_entries bs) q v h ∙ sym h
find-all_at buckets a (b ∷ bs) q (suc i) homes lt at =
    find-append_none (slot_entries b) (all_entries bs) q (look-other buckets (a + 0) b q (homes 0 (omega arith)) (λ e. omega arith))
    ∙ find-all_at buckets (a + 1) bs q i (AreHomes-rest buckets a b bs homes) (omega arith) (omega arith)

-- a count of homes is the length of what has them
pub homes_at-where_key : (buckets h : ℕ) (es : List (Place × Pte)) → homes_at buckets h (map (λ e. e.0) es) ≡ length (where_key place_cmp (λ q. eqb (home_of buckets q) h) es)
homes_at-where_key buckets h [] = refl
homes_at-where_key buckets h (e ∷ es) =
    let rest = homes_at-where_key buckets h es in
    let one = sum_by-cons (λ q. cond (eqb (home_of buckets q) h) 1 0) e.0 (map (λ (e : Place × Pte). e.0) es) in
    elim (cases_Bool (eqb (home_of buckets e.0) h)) [
      | inl t ↦ rw t (one ∙ rw t (omega (arith, rest)))
      | inr f ↦ rw f (one ∙ rw f (omega (arith, rest)))
    ]

pub not_same : (b : Bool) (x : Option Pte) → cond (not b) x None ≡ cond b None x
not_same true x = refl
not_same false x = refl

-- what is found when a page is taken out
pub find-without_page : (es : List (Place × Pte)) (k q : Place) → find place_cmp q (without_page k es) ≡ cond (same_place q k) None (find place_cmp q es)
find-without_page es k q =
    find-where_key place_cmp (λ x. not (same_place k x)) q (λ x e. ap (λ y. not (same_place k y)) (sym (place_exact q x e))) es
    ∙ not_same (same_place k q) _ ∙ ap (λ b. cond b None (find place_cmp q es)) (same_place-sym k q)

T-true : (b : Bool) → T b → b ≡ true
T-true true h = refl
T-true false h = absurd h

-- a page has this home or another
split_home : (buckets : ℕ) (q : Place) (h : ℕ) → ((home_of buckets q ≡ h) × (eqb (home_of buckets q) h ≡ true)) ⊎ ((home_of buckets q ≢ h) × (eqb (home_of buckets q) h ≡ false))
split_home buckets q h = elim (cases_eq (home_of buckets q) h) [ inl e ↦ inl (e, eq-eqb _ _ e) | inr n ↦ inr (n, ne_eqb _ _ n) ]

module _ {bs : List (List (Option Slot))} (sound : IsSound bs) where
  homes_from : AreHomes (length bs) 0 bs
  homes_from i lt = let e : 0 + i ≡ i = omega arith in rw e (sound.homes i lt)

  -- what a table has at a page is in the bucket of its home
  pub entry_of-page_map : (q : Place) → entry_of (page_map bs) q ≡ look (bucket_at bs (home_of (length bs) q)) q
  entry_of-page_map q =
      let h = home_of (length bs) q in
      find-in_order (all_entries bs) q ∙ elim (cases_lt h (length bs)) [
        | inl lt ↦ find-all_at (length bs) 0 bs q h homes_from lt (omega arith)
        | inr ge ↦ find-all_none (length bs) 0 bs q homes_from (λ i lt e. omega arith) ∙ rw (get_or_past bs h [] ge) refl
      ]

  past : (h : ℕ) → length bs ≤ h → bucket_at bs h ≡ []
  past h ge = get_or_past bs h [] ge

  home_any : (h : ℕ) → IsHome (length bs) h (bucket_at bs h)
  home_any h = elim (cases_lt h (length bs)) [ inl lt ↦ sound.homes h lt | inr ge ↦ rw (past h ge) tt ]

  apart_any : (h : ℕ) → IsApart (bucket_at bs h)
  apart_any h = elim (cases_lt h (length bs)) [ inl lt ↦ sound.apart h lt | inr ge ↦ rw (past h ge) tt ]

  -- the pages of a home are those of its bucket
  pub load-page_map : (h : ℕ) → load (page_map bs) h ≡ count_by is_some (bucket_at bs h)
  load-page_map h =
      let B = length bs in
      let p : Place → Bool = λ q. eqb (home_of B q) h in
      let es = in_order (all_entries bs) in
      let kept : where_key place_cmp p es ≡ in_order (slot_entries (bucket_at bs h)) =
      same_entries place_cmp place_total place_exact _ _ (is_sorted-where_key place_cmp p es (is_sorted-in_order (all_entries bs))) (is_sorted-in_order (slot_entries (bucket_at bs h))) (λ q.
      find-where_key place_cmp p q (λ x e. ap p (sym (place_exact q x e))) es
      ∙ elim (split_home B q h) [
        | inl t ↦ rw t.1 (entry_of-page_map q ∙ rw t.0 (sym (find-in_order (slot_entries (bucket_at bs h)) q)))
        | inr f ↦ rw f.1 (sym (find-in_order (slot_entries (bucket_at bs h)) q ∙ look-other B h (bucket_at bs h) q (home_any h) f.0))
      ]) in
      homes_at-where_key B h es ∙ ap length kept ∙ length-slot_entries (bucket_at bs h) (apart_any h)

  at_most_four : (h : ℕ) → length (bucket_at bs h) ≤ 4
  at_most_four h = elim (cases_lt h (length bs)) [ inl lt ↦ omega (arith, sound.slots h lt) | inr ge ↦ omega (arith, ap length (past h ge)) ]

  -- what contracts see is valid
  pub valid_map : IsValid (page_map bs)
  valid_map = record {
    counted = sound.counted;
    sorted = T-true _ (is_sorted-in_order (all_entries bs));
    four = λ h. omega (arith, load-page_map h, count_by-le-length is_some (bucket_at bs h), at_most_four h);
  }

-- a bucket of the table changed at one page of its home
module _ {bs : List (List (Option Slot))} (sound : IsSound bs) (h : ℕ) (k : Place) (pte : Option Pte) (b : List (Option Slot)) (at : h ≡ home_of (length bs) k) (lt : h < length bs) (writes : IsWrite (length bs) h k pte (bucket_at bs h) b) where
  pub IsSound-write : IsSound (set bs h b)
  IsSound-write =
      let len = length-set bs h b in
      record {
        counted = rw len sound.counted;
        few = omega (arith, sound.few, len);
        slots = λ i below. elim (cases_eq i h) [
          | inl e ↦ rw (e, get_or-set_same bs h b [] lt) writes.slots
          | inr n ↦ rw (get_or-set_other bs h i b [] n) (sound.slots i (omega arith))
        ];
        homes = λ i below. rw len (elim (cases_eq i h) [
          | inl e ↦ rw (e, get_or-set_same bs h b [] lt) writes.homes
          | inr n ↦ rw (get_or-set_other bs h i b [] n) (sound.homes i (omega arith))
        ]);
        apart = λ i below. elim (cases_eq i h) [
          | inl e ↦ rw (e, get_or-set_same bs h b [] lt) writes.apart
          | inr n ↦ rw (get_or-set_other bs h i b [] n) (sound.apart i (omega arith))
        ];
      }

  -- is one page changed in the table
  find-write : (q : Place) → find place_cmp q (page_map (set bs h b)).entries ≡ cond (same_place q k) pte (find place_cmp q (page_map bs).entries)
  find-write q =
      entry_of-page_map IsSound-write q ∙ rw (length-set bs h b) (elim (cases_eq (home_of (length bs) q) h) [
        | inl e ↦ rw (e, get_or-set_same bs h b [] lt) (writes.says q ∙ ap (λ x. cond (same_place q k) pte x) (ap (λ i. look (bucket_at bs i) q) (sym e) ∙ sym (entry_of-page_map sound q)))
        | inr n ↦
            let other : same_place q k ≡ false = elim (split_place q k) [ inl u ↦ absurd (n (ap (home_of (length bs)) u.0 ∙ sym at)) | inr u ↦ u.1 ] in
            rw (get_or-set_other bs h (home_of (length bs) q) b [] n, other) (sym (entry_of-page_map sound q))
      ])

  -- what contracts see then, by what is found
  page_map-write : (entries : List (Place × Pte)) → T (is_sorted place_cmp entries) → ((q : Place) → find place_cmp q entries ≡ cond (same_place q k) pte (find place_cmp q (page_map bs).entries))
      → page_map (set bs h b) ≡ record (page_map bs) { entries = entries }
  page_map-write entries sorted finds =
      let same : (page_map (set bs h b)).entries ≡ entries = same_entries place_cmp place_total place_exact _ _ (is_sorted-in_order (all_entries (set bs h b))) sorted (λ q. find-write q ∙ sym (finds q)) in
      rw (length-set bs h b) (ap (λ n. record { buckets = length bs; entries = n }) same)

  -- a page has this entry
  pub page_map-put : (new : Pte) → pte ≡ Some new → page_map (set bs h b) ≡ with_entry (page_map bs) k new
  page_map-put new is = page_map-write _ (is_sorted-put place_cmp place_total k new _ (is_sorted-in_order (all_entries bs)))
      (λ q. find-put place_cmp place_total q k new (page_map bs).entries ∙ ap (λ o. cond (same_place q k) o (find place_cmp q (page_map bs).entries)) (sym is))

  -- a page has none
  pub page_map-cut : pte ≡ None → page_map (set bs h b) ≡ without_entry (page_map bs) k
  page_map-cut is = page_map-write _ (is_sorted-where_key place_cmp (λ x. not (same_place k x)) (page_map bs).entries (is_sorted-in_order (all_entries bs)))
      (λ q. find-without_page (page_map bs).entries k q ∙ ap (λ o. cond (same_place q k) o (find place_cmp q (page_map bs).entries)) (sym is))
