-- What each call leaves, and what is then found at each page.
use Rattle.std.proofs.Common.{subst, Result, Ok, Err, true, slice_get, ◌≡◌, ◌≢◌, ◌-◌, ◌⊎◌, inl, inr, take, Option, Some, None, IsSome, IfSome, refl, sym, ap, ◌∙◌, arith}
use Rattle.std.specs.Prelude.{OnOk, OnErr, IsOk}
use Rattle.std.specs.Option.{option_map_or}
use Rattle.std.specs.Map.{remove_entry}
use Rattle.std.proofs.lemmas.List.{take_all, length-take}
use Rattle.lru.specs.LruCache.{LruCache, lru_cache, promoted, put_entries}
use Rattle.cl_types.specs.declared.page.Pte.{Pte}
use Rattle.cl_types.specs.Places.{Place}
use Rattle.translate_cache.specs.Cached.{Cached, is_place, entry_of, IsFirst, forgotten, noted, used, IsValid}
use Rattle.translate_cache.proofs.Entries.{split_place, lookup_entry-is, lookup-lacks, lacks-lookup, apart-remove, lacks_removed, apart-cons, lookup-remove_other, lookup-take, remove-lacks, length-remove, length-remove-le}

is_place-self : (p : Place) → is_place p p ≡ true
is_place-self p = elim (split_place p p) [ inl t ↦ t.1 | inr f ↦ absurd (f.0 refl) ]

module _ (c : Cached) (valid : IsValid c) (p : Place) where
  -- the other entries fit with that of the page
  all_others : (x : Pte) → entry_of c p ≡ Some x → take (c.capacity - 1) (forgotten c p).entries ≡ (forgotten c p).entries
  all_others x found = take_all (c.capacity - 1) (forgotten c p).entries (omega (arith, valid.within, length-remove p c.entries x found))

  -- what `put` leaves, if it finds memory
  put_is : (pte : Pte) (o : Option Pte) → entry_of c p ≡ o → record c { entries = put_entries is_place (lru_cache c.entries c.capacity) p pte } ≡ noted c p pte
  put_is pte None is = rw (lookup_entry-is p c.entries, is, remove-lacks p c.entries (lacks-lookup p c.entries is)) refl
  put_is pte (Some x) is = rw (lookup_entry-is p c.entries, is, all_others x is) refl

  -- what `get` leaves
  get_is : (o : Option Pte) → entry_of c p ≡ o → record c { entries = promoted (is_place p) c.entries } ≡ used c p
  get_is None is = rw (lookup_entry-is p c.entries, is) refl
  get_is (Some x) is = rw (lookup_entry-is p c.entries, is, all_others x is) refl

  -- what `forget` leaves
  pub forgotten_valid : IsValid (forgotten c p)
  forgotten_valid = record {
    some = valid.some;
    within = omega (arith, valid.within, length-remove-le p c.entries);
    distinct = apart-remove p c.entries valid.distinct;
  }

  pub forgotten_gone : entry_of (forgotten c p) p ≡ None
  forgotten_gone = lookup-lacks p (forgotten c p).entries (lacks_removed p c.entries valid.distinct)

  -- what `note` leaves
  pub noted_valid : (pte : Pte) → IsValid (noted c p pte)
  noted_valid pte = record {
    some = valid.some;
    within = omega (arith, valid.some, length-take (c.capacity - 1) (forgotten c p).entries);
    distinct = apart-cons p pte (c.capacity - 1) c.entries valid.distinct;
  }

  -- what `get` leaves is valid
  pub used_valid : IsValid (used c p)
  used_valid = step (entry_of c p)
    where
      step : (o : Option Pte) → IsValid (option_map_or (noted c p) o c)
      step None = valid
      step (Some x) = noted_valid x

  -- a look-up finds what it found
  pub used_looks : (q : Place) → entry_of (used c p) q ≡ entry_of c q
  used_looks q = step (entry_of c p) refl
    where
      step : (o : Option Pte) → entry_of c p ≡ o → entry_of (option_map_or (noted c p) o c) q ≡ entry_of c q
      step None is = refl
      step (Some x) is = rw (all_others x is) (elim (split_place q p) [
        | inl t ↦ rw t.1 (sym is ∙ ap (entry_of c) (sym t.0))
        | inr f ↦ rw f.1 (lookup-remove_other p q c.entries f.0)
      ])

-- what is found by `get` is first then
pub used_first : (c : Cached) (p : Place) → IfSome (entry_of c p) (IsFirst (used c p) p)
used_first c p = step (entry_of c p)
  where
    step : (o : Option Pte) → IfSome o (IsFirst (option_map_or (noted c p) o c) p)
    step None = tt
    step (Some x) = refl

pub forgotten_other : (c : Cached) (p q : Place) → q ≢ p → entry_of (forgotten c p) q ≡ entry_of c q
forgotten_other c p q other = lookup-remove_other p q c.entries other

-- what is found after a note
noted_here : (c : Cached) (p : Place) (pte : Pte) → entry_of (noted c p pte) p ≡ Some pte
noted_here c p pte = rw (is_place-self p) refl

noted_other : (c : Cached) (p : Place) (pte : Pte) (q : Place) → q ≢ p → (x : Pte) → entry_of (noted c p pte) q ≡ Some x → entry_of c q ≡ Some x
noted_other c p pte q other x found = elim (split_place q p) [
  | inl t ↦ absurd (other t.0)
  | inr f ↦ sym (lookup-remove_other p q c.entries other) ∙ lookup-take q (c.capacity - 1) (forgotten c p).entries x (rw f.1 at found)
]

if_some : {X : Type 0} (o : Option X) (P : X → Type 0) → ((x : X) → o ≡ Some x → P x) → IfSome o P
if_some None P all = tt
if_some (Some x) P all = all x refl

-- a note that is kept, or for want of memory is not
module _ (c d : Cached) (p : Place) (pte : Pte) (either : (d ≡ noted c p pte) ⊎ (d ≡ c)) where
  -- the cache is valid
  pub note_valid : IsValid c → IsValid d
  note_valid valid = elim either [
    | inl kept ↦ subst (λ (e : Cached). IsValid e) (sym kept) (noted_valid c valid p pte)
    | inr same ↦ subst (λ (e : Cached). IsValid e) (sym same) valid
  ]

  -- the other pages have the entries that they had, or none
  pub note_others : (q : Place) → q ≢ p → IfSome (entry_of d q) (λ found. entry_of c q ≡ Some found)
  note_others q other = elim either [
    | inl kept ↦ if_some (entry_of d q) _ (λ x found. noted_other c p pte q other x (ap (λ e. entry_of e q) (sym kept) ∙ found))
    | inr same ↦ if_some (entry_of d q) _ (λ x found. ap (λ e. entry_of e q) (sym same) ∙ found)
  ]

  module _ (known : IsSome (entry_of c p) → d ≡ noted c p pte) where
    -- the entry is first, or the page has none
    pub note_first : IsFirst d p pte ⊎ (entry_of d p ≡ None)
    note_first = step (entry_of c p) refl
      where
        kept_first : d ≡ noted c p pte → IsFirst d p pte
        kept_first kept = ap (λ e. slice_get e.entries 0) kept

        step : (o : Option Pte) → entry_of c p ≡ o → IsFirst d p pte ⊎ (entry_of d p ≡ None)
        step (Some x) is = inl (kept_first (known (rw is refl)))
        step None is = elim either [ inl kept ↦ inl (kept_first kept) | inr same ↦ inr (ap (λ e. entry_of e p) same ∙ is) ]

    -- what is found is the entry
    pub note_here : IfSome (entry_of d p) (λ found. found ≡ pte)
    note_here = elim either [
      | inl kept ↦ kept_here kept
      | inr same ↦ if_some (entry_of d p) _ (λ x found. subst (λ (o : Option Pte). IfSome o (λ found. found ≡ pte)) found (kept_here (known (rw (ap (λ e. entry_of e p) (sym same) ∙ found) refl))))
    ]
      where
        kept_here : d ≡ noted c p pte → IfSome (entry_of d p) (λ found. found ≡ pte)
        kept_here kept = rw (ap (λ e. entry_of e p) kept ∙ noted_here c p pte) refl

pub valid_at : {c d : Cached} → IsValid c → c ≡ d → IsValid d
valid_at valid same = subst (λ (e : Cached). IsValid e) same valid

-- what `get` ensures
pub record Used (old : Cached) (p : Place) (new : Cached) : Type 0 where
  pub used : new ≡ used old p
  pub first : IfSome (entry_of old p) (IsFirst new p)
  pub looks : (q : Place) → entry_of new q ≡ entry_of old q
  pub valid : IsValid new

-- what `forget` ensures
pub record Forgot (old : Cached) (p : Place) (new : Cached) : Type 0 where
  pub forgotten : new ≡ forgotten old p
  pub gone : entry_of new p ≡ None
  pub others : (q : Place) → q ≢ p → entry_of new q ≡ entry_of old q
  pub valid : IsValid new

-- what `note` ensures
pub record Noted (old : Cached) (p : Place) (pte : Pte) (new : Cached) : Type 0 where
  pub known : IsSome (entry_of old p) → new ≡ noted old p pte
  pub noted : (new ≡ noted old p pte) ⊎ (new ≡ old)
  pub first : IsFirst new p pte ⊎ (entry_of new p ≡ None)
  pub here : IfSome (entry_of new p) (λ found. found ≡ pte)
  pub others : (q : Place) → q ≢ p → IfSome (entry_of new q) (λ found. entry_of old q ≡ Some found)
  pub valid : IsValid new

-- what is seen of the cache of `lru`
abbrev pub cached : LruCache Place Pte → Cached
cached c = record { entries = c.entries; capacity = c.cap }

-- the cache of `lru` before a call and after it, with what is seen of it before
module _ {old new : LruCache Place Pte} {c : Cached} (was : IsValid (cached old)) (seen : cached old ≡ c) (p : Place) where
  pub used_left : new ≡ lru_cache (promoted (is_place p) old.entries) old.cap → Used c p (cached new)
  used_left e =
      let left : cached new ≡ used c p = ap cached e ∙ get_is (cached old) was p _ refl ∙ ap (λ d. used d p) seen in
      record {
        used = left;
        first = rw left (used_first c p);
        looks = λ q. ap (λ (d : Cached). entry_of d q) left ∙ used_looks c (valid_at was seen) p q;
        valid = valid_at (used_valid c (valid_at was seen) p) (sym left);
      }

  pub forgotten_left : new ≡ lru_cache (remove_entry (is_place p) old.entries) old.cap → Forgot c p (cached new)
  forgotten_left e =
      let left : cached new ≡ forgotten c p = ap cached e ∙ ap (λ d. forgotten d p) seen in
      record {
        forgotten = left;
        gone = ap (λ (d : Cached). entry_of d p) left ∙ forgotten_gone c (valid_at was seen) p;
        others = λ q other. ap (λ (d : Cached). entry_of d q) left ∙ forgotten_other c p q other;
        valid = valid_at (forgotten_valid c (valid_at was seen) p) (sym left);
      }

  pub noted_left : {T E : Type 0} (pte : Pte) (r : Result T E) → OnOk r (new ≡ lru_cache (put_entries is_place old p pte) old.cap) → OnErr r (new ≡ old) → (IsSome (entry_of (cached old) p) → IsOk r)
      → Noted c p pte (cached new)
  noted_left {T} {E} pte r ok err succeeds = record {
    noted = either r ok err;
    known = known;
    first = note_first c (cached new) p pte (either r ok err) known;
    here = note_here c (cached new) p pte (either r ok err) known;
    others = note_others c (cached new) p pte (either r ok err);
    valid = note_valid c (cached new) p pte (either r ok err) (valid_at was seen);
  }
    where
      kept : new ≡ lru_cache (put_entries is_place old p pte) old.cap → cached new ≡ noted c p pte
      kept e = ap cached e ∙ put_is (cached old) was p pte _ refl ∙ ap (λ d. noted d p pte) seen

      either : (r : Result T E) → OnOk r (new ≡ lru_cache (put_entries is_place old p pte) old.cap) → OnErr r (new ≡ old) → (cached new ≡ noted c p pte) ⊎ (cached new ≡ c)
      either (Ok x) ok err = inl (kept ok)
      either (Err e) ok err = inr (ap cached err ∙ seen)

      on_ok : (r : Result T E) → OnOk r (new ≡ lru_cache (put_entries is_place old p pte) old.cap) → IsOk r → cached new ≡ noted c p pte
      on_ok (Ok x) ok is = kept ok
      on_ok (Err e) ok is = absurd cc

      known : IsSome (entry_of c p) → cached new ≡ noted c p pte
      known has = on_ok r ok (succeeds (subst (λ (d : Cached). IsSome (entry_of d p)) (sym seen) has))
