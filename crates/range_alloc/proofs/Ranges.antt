-- Each mapped page lies in exactly one range, after a range joined the table or left it.
use Rattle.std.proofs.Common.{◌≡◌, ◌⊎◌, inl, inr, ℕ, ◌+◌, ◌<◌, ◌≤◌, true, false, [], Some, None, is_some, refl, sym, ap, ◌∙◌, subst, arith}
use Rattle.std.proofs.Math.Logic.{∥∥₁_map}
use Rattle.std.proofs.lemmas.Bool.{cases_Bool}
use Rattle.cl_types.specs.declared.call.Perm.{Perm}
use Rattle.cl_types.specs.Places.{Place}
use Rattle.cl_types.proofs.PlaceLemmas.{same_place-self, split_place}
use Rattle.hash_buckets.specs.PageMap.{PageMap, entry_of}
use Rattle.flat_model.specs.Step.{is_among}
use Rattle.range_alloc.specs.Ranges.{AreRanges, IsIn, frame_at, span_at, with_range, without_range}
use Rattle.range_alloc.proofs.Among.{among-true, among-page}
use Rattle.range_alloc.proofs.Entries.{entry-with_range, entry-without_range, frame_in, page_in, span_in}

-- the first page of a range lies in it
first_in : (table : PageMap) (space start page : ℕ) → IsIn table space start page → IsIn table space start start
first_in table space start page inside = (omega arith, omega arith)

-- a table with no page has no range
pub ranges_empty : (buckets : ℕ) → AreRanges (record { buckets = buckets; entries = [] })
ranges_empty buckets = record {
  covered = λ space page there. absurd cc;
  once = λ space a b page left right. absurd (omega (arith, left.0, left.1));
  mapped = λ space start page inside. absurd (omega (arith, inside.0, inside.1));
  within = λ space page there. absurd cc;
}

module _ (table : PageMap) (space start n : ℕ) (perm : Perm) (ranges : AreRanges table) (some : 0 < n) (high : start + n ≤ 65536) (unmapped : (q : Place) → is_among space start n q ≡ true → entry_of table q ≡ None) where
  abbrev after : PageMap
  after = with_range table space start n perm

  -- what the table says of the new pages, and of the others
  entry_inside : (q : Place) → is_among space start n q ≡ true → entry_of after q ≡ Some (page_in perm n (space, start) q)
  entry_inside q is = entry-with_range table space start n perm q ∙ rw is refl

  entry_outside : (q : Place) → is_among space start n q ≡ false → entry_of after q ≡ entry_of table q
  entry_outside q is = entry-with_range table space start n perm q ∙ rw is refl

  -- a page that is mapped is none of the new ones
  apart : (q : Place) → is_some (entry_of table q) ≡ true → is_among space start n q ≡ false
  apart q there = elim (cases_Bool (is_among space start n q)) [
    | inl is ↦ absurd (let none = unmapped q is in let both = rw none at there in cc)
    | inr isnt ↦ isnt
  ]

  -- the page lies in the new range
  pub record IsNew (s a page : ℕ) : Type 0 where
    pub there : s ≡ space
    pub begins : a ≡ start
    pub low : start ≤ page
    pub below : page < start + n

  -- each new page lies in the new range
  new_is_in : (page : ℕ) → start ≤ page → page < start + n → IsIn after space start page
  new_is_in page low below =
      let is : is_among space start n (space, start) ≡ true = among-page space start n start (omega arith) (omega (arith, some)) in
      let span : span_at after (space, start) ≡ n = ap span_in (entry_inside (space, start) is) ∙ rw (same_place-self (space, start)) refl in
      (low, omega (arith, span, below))

  -- a page that lay in a range lies in it still
  old_is_in : (s a page : ℕ) → IsIn table s a page → IsIn after s a page
  old_is_in s a page inside =
      let mapped = ranges.mapped s a a (first_in table s a page inside) in
      let span : span_at after (s, a) ≡ span_at table (s, a) = ap span_in (entry_outside (s, a) (apart (s, a) mapped)) in
      (inside.0, omega (arith, span, inside.1))

  -- a page that lies in a range lies in the new one, or lay in one
  in_after : (s a page : ℕ) → IsIn after s a page → IsNew s a page ⊎ IsIn table s a page
  in_after s a page inside = elim (cases_Bool (is_among space start n (s, a))) [
    | inl is ↦ elim (split_place (s, a) (space, start)) [
      | inl one ↦
          let span : span_at after (s, a) ≡ n = ap span_in (entry_inside (s, a) is) ∙ rw one.1 refl in
          let begins : a ≡ start = ap (λ (q : Place). q.1) one.0 in
          inl (record { there = ap (λ (q : Place). q.0) one.0; begins = begins; low = omega (arith, inside.0, begins); below = omega (arith, inside.1, span, begins) })
      | inr two ↦
          let span : span_at after (s, a) ≡ 0 = ap span_in (entry_inside (s, a) is) ∙ rw two.1 refl in
          absurd (omega (arith, inside.0, inside.1, span))
    ]
    | inr isnt ↦
        let span : span_at after (s, a) ≡ span_at table (s, a) = ap span_in (entry_outside (s, a) isnt) in
        inr (inside.0, omega (arith, inside.1, span))
  ]

  -- a page of the new range lies in no old one
  clash : (s a b page : ℕ) → IsNew s a page → IsIn table s b page → ⊥
  clash s a b page new old =
      let is : is_among space start n (s, page) ≡ true = rw new.there (among-page space start n page new.low new.below) in
      let isnt = apart (s, page) (ranges.mapped s b page old) in
      cc

  -- so each mapped page lies in exactly one range, as before
  pub ranges_with : AreRanges after
  ranges_with = record {
    covered = covered;
    once = λ s a b page left right. elim (in_after s a page left) [
      | inl new ↦ elim (in_after s b page right) [
        | inl too ↦ new.begins ∙ sym too.begins
        | inr old ↦ absurd (clash s a b page new old)
      ]
      | inr old ↦ elim (in_after s b page right) [
        | inl new ↦ absurd (clash s b a page new old)
        | inr too ↦ ranges.once s a b page old too
      ]
    ];
    mapped = λ s a page inside. elim (in_after s a page inside) [
      | inl new ↦
          let is : is_among space start n (s, page) ≡ true = rw new.there (among-page space start n page new.low new.below) in
          ap is_some (entry_inside (s, page) is)
      | inr old ↦
          let mapped = ranges.mapped s a page old in
          ap is_some (entry_outside (s, page) (apart (s, page) mapped)) ∙ mapped
    ];
    within = λ s page there. elim (cases_Bool (is_among space start n (s, page))) [
      | inl is ↦ let among = among-true space start n (s, page) is in omega (arith, among.high, high)
      | inr isnt ↦ ranges.within s page (sym (ap is_some (entry_outside (s, page) isnt)) ∙ there)
    ];
  }
    where
      covered : (s page : ℕ) → is_some (entry_of after (s, page)) ≡ true → ∥ ((a : ℕ) × IsIn after s a page) ∥₁
      covered s page there = elim (cases_Bool (is_among space start n (s, page))) [
        | inl is ↦
            let among = among-true space start n (s, page) is in
            ∣ (start, subst (λ x. IsIn after x start page) (sym among.there) (new_is_in page among.low among.high)) ∣₁
        | inr isnt ↦ ∥∥₁_map (ranges.covered s page (sym (ap is_some (entry_outside (s, page) isnt)) ∙ there)) (λ old. (old.0, old_is_in s old.0 page old.1))
      ]

  -- no page has another frame than before
  pub frames_with : (q : Place) → frame_at after q ≡ frame_at table q
  frames_with q = elim (cases_Bool (is_among space start n q)) [
    | inl is ↦ ap frame_in (entry_inside q is) ∙ sym (ap frame_in (unmapped q is))
    | inr isnt ↦ ap frame_in (entry_outside q isnt)
  ]

module _ (table : PageMap) (space start n : ℕ) (ranges : AreRanges table) (stands : span_at table (space, start) ≡ n) (some : 0 < n) where
  abbrev left : PageMap
  left = without_range table space start n

  -- what the table says of the pages that left, and of the others
  gone : (q : Place) → is_among space start n q ≡ true → entry_of left q ≡ None
  gone q is = entry-without_range table space start n q ∙ rw is refl

  stays : (q : Place) → is_among space start n q ≡ false → entry_of left q ≡ entry_of table q
  stays q isnt = entry-without_range table space start n q ∙ rw isnt refl

  -- each of the pages lies in the range
  page_is_in : (page : ℕ) → start ≤ page → page < start + n → IsIn table space start page
  page_is_in page low below = (low, omega (arith, stands, below))

  -- so it is mapped
  pub page_mapped : (i : ℕ) → i < n → is_some (entry_of table (space, start + i)) ≡ true
  page_mapped i below = ranges.mapped space start (start + i) (page_is_in (start + i) (omega arith) (omega (arith, below)))

  -- a page that is mapped is none of those that left
  not_gone : (q : Place) → is_some (entry_of left q) ≡ true → is_among space start n q ≡ false
  not_gone q there = elim (cases_Bool (is_among space start n q)) [
    | inl is ↦ absurd (let none = gone q is in let both = rw none at there in cc)
    | inr isnt ↦ isnt
  ]

  -- a range of which a page stays begins with a page that stays, and the other way round
  same_range : (s a page : ℕ) → IsIn table s a page → is_among space start n (s, a) ≡ is_among space start n (s, page)
  same_range s a page inside = elim (cases_Bool (is_among space start n (s, a))) [
    | inl is ↦
        let among = among-true space start n (s, a) is in
        let mine = subst (λ x. IsIn table x start a) (sym among.there) (page_is_in a among.low among.high) in
        let begins = ranges.once s start a a mine (first_in table s a page inside) in
        let whole = subst (λ x. IsIn table s x page) (sym begins) inside in
        is ∙ sym (is_here page among.there whole)
    | inr isnt ↦ elim (cases_Bool (is_among space start n (s, page))) [
      | inl is ↦
          let among = among-true space start n (s, page) is in
          let mine = subst (λ x. IsIn table x start page) (sym among.there) (page_is_in page among.low among.high) in
          let begins = ranges.once s start a page mine inside in
          let first : is_among space start n (s, a) ≡ true = rw (among.there, ← begins) (among-page space start n start (omega arith) (omega (arith, some))) in
          first ∙ sym is
      | inr outside ↦ isnt ∙ sym outside
    ]
  ]
    where
      is_here : (page : ℕ) → s ≡ space → IsIn table s start page → is_among space start n (s, page) ≡ true
      is_here page there inside =
          let span : span_at table (s, start) ≡ n = ap (λ x. span_at table (x, start)) there ∙ stands in
          rw there (among-page space start n page inside.0 (omega (arith, inside.1, span)))

  -- in a range that stays a page lies still
  stays_in : (s a page : ℕ) → is_among space start n (s, a) ≡ false → IsIn table s a page → IsIn left s a page
  stays_in s a page isnt inside =
      let span : span_at left (s, a) ≡ span_at table (s, a) = ap span_in (stays (s, a) isnt) in
      (inside.0, omega (arith, inside.1, span))

  -- the page lay in a range that stays
  pub record Lay (s a page : ℕ) : Type 0 where
    pub inside : IsIn table s a page
    pub begins : is_among space start n (s, a) ≡ false

  -- a page that lies in a range lay in it
  lay : (s a page : ℕ) → IsIn left s a page → Lay s a page
  lay s a page inside = elim (cases_Bool (is_among space start n (s, a))) [
    | inl is ↦
        let span : span_at left (s, a) ≡ 0 = ap span_in (gone (s, a) is) in
        absurd (omega (arith, inside.0, inside.1, span))
    | inr isnt ↦
        let span : span_at left (s, a) ≡ span_at table (s, a) = ap span_in (stays (s, a) isnt) in
        record { inside = (inside.0, omega (arith, inside.1, span)); begins = isnt }
  ]

  -- so each mapped page lies in exactly one range, as before
  pub ranges_without : AreRanges left
  ranges_without = record {
    covered = covered;
    once = λ s a b page one two. ranges.once s a b page (lay s a page one).inside (lay s b page two).inside;
    mapped = λ s a page inside.
        let was = lay s a page inside in
        let isnt = sym (same_range s a page was.inside) ∙ was.begins in
        ap is_some (stays (s, page) isnt) ∙ ranges.mapped s a page was.inside;
    within = λ s page there. ranges.within s page (sym (ap is_some (stays (s, page) (not_gone (s, page) there))) ∙ there);
  }
    where
      covered : (s page : ℕ) → is_some (entry_of left (s, page)) ≡ true → ∥ ((a : ℕ) × IsIn left s a page) ∥₁
      covered s page there =
          let isnt = not_gone (s, page) there in
          ∥∥₁_map (ranges.covered s page (sym (ap is_some (stays (s, page) isnt)) ∙ there)) (λ old. (old.0, stays_in s old.0 page (same_range s old.0 page old.1 ∙ isnt) old.1))
