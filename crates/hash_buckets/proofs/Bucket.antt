-- What a bucket has at a page, before and after a write to one slot.
use Rattle.std.proofs.Common.{subst, option_map, true, ◌≡◌, ◌≢◌, ℕ, zero, suc, ◌+◌, ◌<◌, false, cond, inl, inr, List, [], ◌∷◌, length, set, get_or, Option, Some, None, T, is_some, count_by, refl, sym, ap, ◌∙◌, arith}
use Rattle.std.specs.FinMap.Entries.{find, is_sorted, find-put, is_sorted-put, length-put}
use Rattle.std.proofs.lemmas.List.{length-set, set-set, get_or-set_same}
use Rattle.std.proofs.lemmas.List.Sums.{sum_by-cons}
use Rattle.cl_types.specs.declared.page.Pte.{Pte}
use Rattle.cl_types.specs.Places.{Place, place_cmp, home_of}
use Rattle.cl_types.proofs.PlaceLemmas.{place_total, same_place, same_place-self, split_place}
use Rattle.hash_buckets.specs.declared.buckets.Slot.{Slot}
use Rattle.hash_buckets.specs.Slots.{place_of, place_at, slot_entries, look, in_order, IsHome, IsApart}

-- a page of another home is not in the bucket
pub look-other : (buckets h : ℕ) (b : List (Option Slot)) (q : Place) → IsHome buckets h b → home_of buckets q ≢ h → look b q ≡ None
look-other buckets h [] q home ne = refl
look-other buckets h (None ∷ ss) q home ne = look-other buckets h ss q home ne
look-other buckets h (Some s ∷ ss) q home ne = elim (split_place q (place_of s)) [
  | inl t ↦ absurd (ne (ap (home_of buckets) t.0 ∙ home.0))
  | inr f ↦ rw f.1 (look-other buckets h ss q home.1 ne)
]

-- a page is put in a free slot
pub look-put : (b : List (Option Slot)) (i : ℕ) (s : Slot) → i < length b → get_or b i None ≡ None → look b (place_of s) ≡ None
    → (q : Place) → look (set b i (Some s)) q ≡ cond (same_place q (place_of s)) (Some s.pte) (look b q)
look-put [] i s lt free absent q = absurd (omega arith)
look-put (None ∷ ss) zero s lt free absent q = refl
look-put (Some t ∷ ss) zero s lt free absent q = absurd cc
look-put (None ∷ ss) (suc i) s lt free absent q = look-put ss i s (omega arith) free absent q
look-put (Some t ∷ ss) (suc i) s lt free absent q = elim (split_place (place_of s) (place_of t)) [
  | inl u ↦ absurd (let h = rw u.1 at absent in cc)
  | inr u ↦
      let rest = look-put ss i s (omega arith) free (rw u.1 at absent) q in
      elim (split_place q (place_of t)) [
        | inl v ↦ elim (split_place q (place_of s)) [
          | inl w ↦ absurd (u.0 (sym w.0 ∙ v.0))
          | inr w ↦ rw (v.1, w.1) refl
        ]
        | inr v ↦ rw v.1 rest
      ]
]

-- a page that stands at a place
pub look-at : (b : List (Option Slot)) (i : ℕ) (t : Slot) → i < length b → get_or b i None ≡ Some t → IsApart b → look b (place_of t) ≡ Some t.pte
look-at [] i t lt is apart = absurd (omega arith)
look-at (None ∷ ss) zero t lt is apart = absurd cc
look-at (Some u ∷ ss) zero t lt is apart = let e : u ≡ t = cc in rw (e, same_place-self (place_of t)) refl
look-at (None ∷ ss) (suc i) t lt is apart = look-at ss i t (omega arith) is apart
look-at (Some u ∷ ss) (suc i) t lt is apart =
    let rest = look-at ss i t (omega arith) is apart.1 in
    elim (split_place (place_of t) (place_of u)) [
      | inl v ↦ absurd (let h = sym rest ∙ ap (look ss) v.0 ∙ apart.0 in cc)
      | inr v ↦ rw v.1 rest
    ]

-- a page is taken out
pub look-cut : (b : List (Option Slot)) (i : ℕ) (t : Slot) → i < length b → get_or b i None ≡ Some t → IsApart b
    → (q : Place) → look (set b i None) q ≡ cond (same_place q (place_of t)) None (look b q)
look-cut [] i t lt is apart q = absurd (omega arith)
look-cut (None ∷ ss) zero t lt is apart q = absurd cc
look-cut (Some u ∷ ss) zero t lt is apart q =
    let e : u ≡ t = cc in
    elim (split_place q (place_of t)) [
      | inl v ↦ rw v.1 (ap (look ss) (v.0 ∙ sym (ap place_of e)) ∙ apart.0)
      | inr v ↦ rw (e, v.1) refl
    ]
look-cut (None ∷ ss) (suc i) t lt is apart q = look-cut ss i t (omega arith) is apart q
look-cut (Some u ∷ ss) (suc i) t lt is apart q =
    let rest = look-cut ss i t (omega arith) is apart.1 q in
    let there = look-at ss i t (omega arith) is apart.1 in
    elim (split_place q (place_of u)) [
      | inl v ↦ elim (split_place q (place_of t)) [
        | inl w ↦ absurd (let h = sym there ∙ ap (look ss) (sym w.0 ∙ v.0) ∙ apart.0 in cc)
        | inr w ↦ rw (v.1, w.1) refl
      ]
      | inr v ↦ rw v.1 rest
    ]

-- what a bucket lacks it lacks with a slot emptied
pub look-cut_none : (b : List (Option Slot)) (i : ℕ) (q : Place) → look b q ≡ None → look (set b i None) q ≡ None
look-cut_none [] i q h = refl
look-cut_none (None ∷ ss) zero q h = h
look-cut_none (None ∷ ss) (suc i) q h = look-cut_none ss i q h
look-cut_none (Some t ∷ ss) zero q h = elim (split_place q (place_of t)) [
  | inl v ↦ absurd (let e = rw v.1 at h in cc)
  | inr v ↦ rw v.1 at h
]
look-cut_none (Some t ∷ ss) (suc i) q h = elim (split_place q (place_of t)) [
  | inl v ↦ absurd (let e = rw v.1 at h in cc)
  | inr v ↦ rw v.1 (look-cut_none ss i q (rw v.1 at h))
]

-- no page stands twice after a slot is emptied
pub IsApart-cut : (b : List (Option Slot)) (i : ℕ) → IsApart b → IsApart (set b i None)
IsApart-cut [] i apart = tt
IsApart-cut (None ∷ ss) zero apart = apart
IsApart-cut (Some t ∷ ss) zero apart = apart.1
IsApart-cut (None ∷ ss) (suc i) apart = IsApart-cut ss i apart
IsApart-cut (Some t ∷ ss) (suc i) apart = (look-cut_none ss i (place_of t) apart.0, IsApart-cut ss i apart.1)

-- nor after a new page is put in a free one
pub IsApart-put : (b : List (Option Slot)) (i : ℕ) (s : Slot) → i < length b → get_or b i None ≡ None → look b (place_of s) ≡ None → IsApart b → IsApart (set b i (Some s))
IsApart-put [] i s lt free absent apart = absurd (omega arith)
IsApart-put (None ∷ ss) zero s lt free absent apart = (absent, apart)
IsApart-put (Some t ∷ ss) zero s lt free absent apart = absurd cc
IsApart-put (None ∷ ss) (suc i) s lt free absent apart = IsApart-put ss i s (omega arith) free absent apart
IsApart-put (Some t ∷ ss) (suc i) s lt free absent apart = elim (split_place (place_of s) (place_of t)) [
  | inl u ↦ absurd (let h = rw u.1 at absent in cc)
  | inr u ↦
      let rest : look ss (place_of s) ≡ None = rw u.1 at absent in
      let other : same_place (place_of t) (place_of s) ≡ false = elim (split_place (place_of t) (place_of s)) [ inl v ↦ absurd (u.0 (sym v.0)) | inr v ↦ v.1 ] in
      (look-put ss i s (omega arith) free rest (place_of t) ∙ rw other apart.0, IsApart-put ss i s (omega arith) free rest apart.1)
]

module _ (buckets h : ℕ) where
  -- all pages are of their home after a slot is emptied
  pub IsHome-cut : (b : List (Option Slot)) (i : ℕ) → IsHome buckets h b → IsHome buckets h (set b i None)
  IsHome-cut [] i home = tt
  IsHome-cut (None ∷ ss) zero home = home
  IsHome-cut (Some t ∷ ss) zero home = home.1
  IsHome-cut (None ∷ ss) (suc i) home = IsHome-cut ss i home
  IsHome-cut (Some t ∷ ss) (suc i) home = (home.0, IsHome-cut ss i home.1)

  -- and after a page of this home is put in
  pub IsHome-put : (b : List (Option Slot)) (i : ℕ) (s : Slot) → home_of buckets (place_of s) ≡ h → IsHome buckets h b → IsHome buckets h (set b i (Some s))
  IsHome-put [] i s at home = tt
  IsHome-put (None ∷ ss) zero s at home = (at, home)
  IsHome-put (Some t ∷ ss) zero s at home = (at, home.1)
  IsHome-put (None ∷ ss) (suc i) s at home = IsHome-put ss i s at home
  IsHome-put (Some t ∷ ss) (suc i) s at home = (home.0, IsHome-put ss i s at home.1)

-- a search in order finds what a search as they stand finds
pub find-in_order : (es : List (Place × Pte)) (q : Place) → find place_cmp q (in_order es) ≡ find place_cmp q es
find-in_order [] q = refl
find-in_order (e ∷ es) q = find-put place_cmp place_total q e.0 e.1 (in_order es) ∙ ap (cond (same_place q e.0) (Some e.1)) (find-in_order es q)

-- and the order is that of the pages
pub is_sorted-in_order : (es : List (Place × Pte)) → T (is_sorted place_cmp (in_order es))
is_sorted-in_order [] = tt
is_sorted-in_order (e ∷ es) = is_sorted-put place_cmp place_total e.0 e.1 (in_order es) (is_sorted-in_order es)

-- as many pages as full slots
pub length-slot_entries : (b : List (Option Slot)) → IsApart b → length (in_order (slot_entries b)) ≡ count_by is_some b
length-slot_entries [] apart = refl
length-slot_entries (None ∷ ss) apart = omega (arith, length-slot_entries ss apart, sum_by-cons (λ o. cond (is_some o) 1 0) None ss)
length-slot_entries (Some s ∷ ss) apart =
    let absent : is_some (find place_cmp (place_of s) (in_order (slot_entries ss))) ≡ false = ap is_some (find-in_order (slot_entries ss) (place_of s) ∙ apart.0) in
    let more : length (in_order (slot_entries (Some s ∷ ss))) ≡ length (in_order (slot_entries ss)) + 1 =
    length-put place_cmp place_total (place_of s) s.pte (in_order (slot_entries ss)) (is_sorted-in_order (slot_entries ss)) ∙ rw absent refl in
    omega (arith, more, length-slot_entries ss apart.1, sum_by-cons (λ o. cond (is_some o) 1 0) (Some s) ss)

-- what a bucket's slots are after a change at one page
pub record IsWrite (buckets h : ℕ) (k : Place) (pte : Option Pte) (old new : List (Option Slot)) : Type 0 where
  pub slots : length new ≡ 4
  pub homes : IsHome buckets h new
  pub apart : IsApart new
  pub says : (q : Place) → look new q ≡ cond (same_place q k) pte (look old q)

-- a page is put in a free slot
pub put_writes : (buckets h : ℕ) (b : List (Option Slot)) → length b ≡ 4 → IsHome buckets h b → IsApart b → (i : ℕ) → i < length b → (s : Slot) → home_of buckets (place_of s) ≡ h → get_or b i None ≡ None → look b (place_of s) ≡ None
    → IsWrite buckets h (place_of s) (Some s.pte) b (set b i (Some s))
put_writes buckets h b four homes apart i inside s at free absent = record {
  slots = length-set b i (Some s) ∙ four;
  homes = IsHome-put buckets h b i s at homes;
  apart = IsApart-put b i s inside free absent apart;
  says = look-put b i s inside free absent;
}

module _ (buckets h : ℕ) (b : List (Option Slot)) (four : length b ≡ 4) (homes : IsHome buckets h b) (apart : IsApart b) (i : ℕ) (inside : i < length b) where
  cut_writes : (t : Slot) → get_or b i None ≡ Some t → IsWrite buckets h (place_of t) None b (set b i None)
  cut_writes t there = record {
    slots = length-set b i None ∙ four;
    homes = IsHome-cut buckets h b i homes;
    apart = IsApart-cut b i apart;
    says = look-cut b i t inside there apart;
  }

  -- a page is taken out of its slot, and put in again with another entry
  replace_writes : (t s : Slot) → get_or b i None ≡ Some t → place_of t ≡ place_of s → home_of buckets (place_of s) ≡ h → IsWrite buckets h (place_of s) (Some s.pte) b (set b i (Some s))
  replace_writes t s there one at =
      let cut = cut_writes t there in
      let again : set (set b i None) i (Some s) ≡ set b i (Some s) = set-set b i None (Some s) in
      let gone : same_place (place_of s) (place_of t) ≡ true = ap (same_place (place_of s)) one ∙ same_place-self (place_of s) in
      let absent : look (set b i None) (place_of s) ≡ None = cut.says (place_of s) ∙ rw gone refl in
      let put = put_writes buckets h (set b i None) cut.slots cut.homes cut.apart i (omega (arith, length-set b i None)) s at (get_or-set_same b i None None inside) absent in
      record {
        slots = length-set b i (Some s) ∙ four;
        homes = rw (← again) put.homes;
        apart = rw (← again) put.apart;
        says = λ q. rw (← again) (put.says q ∙ elim (split_place q (place_of s)) [
          | inl u ↦ rw u.1 refl
          | inr u ↦ rw u.1 (cut.says q ∙ (let other : same_place q (place_of t) ≡ false = ap (same_place q) one ∙ u.1 in rw other refl))
        ]);
      }

  -- the same of the page that a slot has
  pub cut_at : (q : Place) → place_at b i ≡ Some q → IsWrite buckets h q None b (set b i None)
  cut_at q found = slot (get_or b i None) refl found
    where
      slot : (o : Option Slot) → get_or b i None ≡ o → option_map place_of o ≡ Some q → IsWrite buckets h q None b (set b i None)
      slot None is has = absurd cc
      slot (Some t) is has = let one : place_of t ≡ q = cc in subst (λ k. IsWrite buckets h k None b (set b i None)) one (cut_writes t is)

  pub replace_at : (s : Slot) → place_at b i ≡ Some (place_of s) → home_of buckets (place_of s) ≡ h → IsWrite buckets h (place_of s) (Some s.pte) b (set b i (Some s))
  replace_at s found at = slot (get_or b i None) refl found
    where
      slot : (o : Option Slot) → get_or b i None ≡ o → option_map place_of o ≡ Some (place_of s) → IsWrite buckets h (place_of s) (Some s.pte) b (set b i (Some s))
      slot None is has = absurd cc
      slot (Some t) is has = let one : place_of t ≡ place_of s = cc in replace_writes t s is one at
