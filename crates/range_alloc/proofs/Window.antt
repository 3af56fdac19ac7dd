-- The pages that the search has mapped: what the table says with them, and what they show of the range that is tried.
use Rattle.std.proofs.Common.{◌≡◌, ◌≢◌, inl, inr, ℕ, suc, ◌+◌, ◌-◌, ◌<◌, ◌≤◌, ◌&&◌, Bool, true, false, cond, Option, Some, None, is_some, is_none, nat_lt, refl, sym, ap, ◌∙◌, subst, arith}
use Rattle.std.proofs.lemmas.Bool.{cases_Bool, cases_lt}
use Rattle.std.proofs.lemmas.Bool.Decides.{nat_tests}
use Rattle.cl_types.specs.declared.call.Perm.{Perm}
use Rattle.cl_types.specs.declared.page.Pte.{Pte}
use Rattle.cl_types.specs.Places.{Place, home_of, homes_at}
use Rattle.cl_types.proofs.PlaceLemmas.{same_place, split_place}
use Rattle.hash_buckets.specs.PageMap.{PageMap, IsValid, entry_of, load, with_entry, without_entry}
use Rattle.hash_buckets.proofs.Loads.{homes_at-put, homes_at-without_page}
use Rattle.flat_model.specs.Rows.{keys}
use Rattle.flat_model.specs.State.{fits, places_of}
use Rattle.flat_model.specs.Step.{is_among}
use Rattle.range_alloc.specs.Joins.{SkipsTo, can_join}
use Rattle.range_alloc.specs.Ranges.{new_page, with_range}
use Rattle.range_alloc.proofs.Among.{among-page, among-none, among-rest, among-more}
use Rattle.range_alloc.proofs.Entries.{entry-with, entry-without, entry-with_range, page_in, same_table, sorted_table, sorted-with_range}
use Rattle.range_alloc.proofs.Skips.{skips_none}
use Rattle.range_alloc.proofs.Fitting.{one_at, homes_first, homes_more, fits-true, too_far, page_mapped, home_full, third, at_least}

-- the table is the first one with n new pages from start on
pub record IsWindow (first table : PageMap) (space : ℕ) (perm : Perm) (start n : ℕ) : Type 0 where
  pub buckets : table.buckets ≡ first.buckets
  pub from_valid : IsValid first
  pub valid : IsValid table
  pub says : (q : Place) → entry_of table q ≡ cond (is_among space start n q) (Some (new_page perm 0)) (entry_of first q)
  pub unmapped : (q : Place) → is_among space start n q ≡ true → entry_of first q ≡ None
  pub loads : (home : ℕ) → load table home ≡ load first home + homes_at first.buckets home (places_of space start n)

-- a page that can join is one of the space
pub join_within : (table : PageMap) (space page : ℕ) → true ≡ can_join table space page → page < 65536
join_within table space page joins = within page (first_of _ _ _ (sym joins))
  where
    first_of : (a b c : Bool) → (a && b && c) ≡ true → a ≡ true
    first_of a b c is = grind arith

    within : (n : ℕ) → nat_lt n 65536 ≡ true → n < 65536
    within n is = grind (arith, nat_tests)

-- no page has joined
pub window_empty : (table : PageMap) (space : ℕ) (perm : Perm) (start : ℕ) → IsValid table → IsWindow table table space perm start 0
window_empty table space perm start valid = record {
  buckets = refl;
  from_valid = valid;
  valid = valid;
  says = λ q. rw (among-none space start q) refl;
  unmapped = λ q is. absurd (let none = among-none space start q in cc);
  loads = λ home. omega arith;
}

module _ (first table : PageMap) (space : ℕ) (perm : Perm) (start n : ℕ) (window : IsWindow first table space perm start n) where
  -- where none has joined, the table is the first
  pub window_is_first : n ≡ 0 → table ≡ first
  window_is_first none = same_table table first window.buckets (sorted_table table window.valid) (sorted_table first window.from_valid)
      (λ q. window.says q ∙ ap (λ k. cond (is_among space start k q) (Some (new_page perm 0)) (entry_of first q)) none ∙ rw (among-none space start q) refl)

  -- the next page joins
  pub window_joined : (new : PageMap) → can_join table space (start + n) ≡ true → new ≡ with_entry table (space, start + n) (new_page perm 0) → IsValid new
      → IsWindow first new space perm start (n + 1)
  window_joined new joins is valid = record {
    buckets = ap (λ (t : PageMap). t.buckets) is ∙ window.buckets;
    from_valid = window.from_valid;
    valid = valid;
    says = λ q. ap (λ (t : PageMap). entry_of t q) is ∙ entry-with table next (new_page perm 0) q ∙ says q;
    unmapped = unmapped;
    loads = loads;
  }
    where
      next : Place
      next = (space, start + n)

      free : entry_of table (space, start + n) ≡ None
      free = not_some (entry_of table (space, start + n)) (grind arith)
        where
          not_some : (entry : Option Pte) → is_none entry ≡ true → entry ≡ None
          not_some None is = refl
          not_some (Some pte) is = absurd cc

      says : (q : Place) → cond (same_place q (space, start + n)) (Some (new_page perm 0)) (entry_of table q) ≡ cond (is_among space start (n + 1) q) (Some (new_page perm 0)) (entry_of first q)
      says q = elim (split_place q (space, start + n)) [
        | inl one ↦
            let here : is_among space start (n + 1) q ≡ true = rw one.0 (among-page space start (n + 1) (start + n) (omega arith) (omega arith)) in
            rw (one.1, here) refl
        | inr two ↦ rw (two.1, among-more space start n q two.0) (window.says q)
      ]

      outside : is_among space start n (space, start + n) ≡ false
      outside = grind (arith, nat_tests)

      unmapped : (q : Place) → is_among space start (n + 1) q ≡ true → entry_of first q ≡ None
      unmapped q is = elim (split_place q (space, start + n)) [
        | inl one ↦ ap (entry_of first) one.0 ∙ sym (ap (λ b. cond b (Some (new_page perm 0)) (entry_of first (space, start + n))) outside) ∙ sym (window.says (space, start + n)) ∙ free
        | inr two ↦ window.unmapped q (sym (among-more space start n q two.0) ∙ is)
      ]

      loads : (home : ℕ) → load new home ≡ load first home + homes_at first.buckets home (places_of space start (n + 1))
      loads home =
          let put = homes_at-put table.buckets home (space, start + n) (new_page perm 0) table.entries free in
          let same : load new home ≡ load table home + one_at first.buckets home (space, start + n) =
          ap (λ (t : PageMap). load t home) is ∙ put ∙ ap (λ b. load table home + one_at b home (space, start + n)) window.buckets in
          omega (arith, same, window.loads home, homes_more first.buckets home space start n)

  -- the first page leaves
  window_left : (new : PageMap) → 0 < n → new ≡ without_entry table (space, start) → IsValid new → IsWindow first new space perm (start + 1) (n - 1)
  window_left new some is valid = record {
    buckets = ap (λ (t : PageMap). t.buckets) is ∙ window.buckets;
    from_valid = window.from_valid;
    valid = valid;
    says = λ q. ap (λ (t : PageMap). entry_of t q) is ∙ entry-without table (space, start) q ∙ says q;
    unmapped = λ q among. window.unmapped q (rest_among q among);
    loads = loads;
  }
    where
      fewer : n ≡ suc (n - 1)
      fewer = omega arith

      here : is_among space start n (space, start) ≡ true
      here = among-page space start n start (omega arith) (omega arith)

      behind : is_among space (start + 1) (n - 1) (space, start) ≡ false
      behind = grind (arith, nat_tests)

      rest_is : (q : Place) → q ≢ (space, start) → is_among space start n q ≡ is_among space (start + 1) (n - 1) q
      rest_is q other = ap (λ k. is_among space start k q) fewer ∙ among-rest space start (n - 1) q other

      rest_among : (q : Place) → is_among space (start + 1) (n - 1) q ≡ true → is_among space start n q ≡ true
      rest_among q among = elim (split_place q (space, start)) [
        | inl one ↦ ap (is_among space start n) one.0 ∙ here
        | inr two ↦ rest_is q two.0 ∙ among
      ]

      says : (q : Place) → cond (same_place q (space, start)) None (entry_of table q) ≡ cond (is_among space (start + 1) (n - 1) q) (Some (new_page perm 0)) (entry_of first q)
      says q = elim (split_place q (space, start)) [
        | inl one ↦ rw (one.1, one.0, behind) (sym (window.unmapped (space, start) here))
        | inr two ↦ rw (two.1, ← rest_is q two.0) (window.says q)
      ]

      there : entry_of table (space, start) ≡ Some (new_page perm 0)
      there = window.says (space, start) ∙ ap (λ b. cond b (Some (new_page perm 0)) (entry_of first (space, start))) here

      loads : (home : ℕ) → load new home ≡ load first home + homes_at first.buckets home (places_of space (start + 1) (n - 1))
      loads home =
          let cut = homes_at-without_page table.buckets home (space, start) (new_page perm 0) table.entries (sorted_table table window.valid) there in
          let same : load table home ≡ load new home + one_at first.buckets home (space, start) =
          cut ∙ ap (λ b. load (without_entry table (space, start)) home + one_at b home (space, start)) window.buckets ∙ ap (λ (t : PageMap). load t home + one_at first.buckets home (space, start)) (sym is) in
          let all : homes_at first.buckets home (places_of space start n) ≡ homes_at first.buckets home (places_of space start (suc (n - 1))) = ap (λ k. homes_at first.buckets home (places_of space start k)) fewer in
          omega (arith, same, window.loads home, all, homes_first first.buckets home space start (n - 1))

  -- with no page it goes to any other start
  pub window_goes : (other : ℕ) → n ≡ 0 → IsWindow first table space perm other n
  window_goes other none =
      let same : table ≡ first = window_is_first none in
      subst (λ k. IsWindow first table space perm other k) (sym none) (subst (λ t. IsWindow first t space perm other 0) (sym same) (window_empty first space perm other window.from_valid))

  -- it stays, or with no page it goes to another start
  pub window_to : (other : ℕ) → (0 < n → other ≡ start) → IsWindow first table space perm other n
  window_to other stays = elim (cases_lt 0 n) [
    | inl some ↦ subst (λ s. IsWindow first table space perm s n) (sym (stays some)) window
    | inr none ↦ window_goes other (omega (arith, none))
  ]

  -- and where the starts in between fit nowhere in this table, they don't in the first
  pub window_skips : (pages other : ℕ) → start ≤ 65536 → (0 < n → other ≡ start) → (n ≡ 0 → SkipsTo table space pages start other) → SkipsTo first space pages start other
  window_skips pages other inside stays skips = elim (cases_lt 0 n) [
    | inl some ↦ subst (λ s. SkipsTo first space pages start s) (sym (stays some)) (skips_none first space pages start inside)
    | inr none ↦ let empty : n ≡ 0 = omega (arith, none) in subst (λ t. SkipsTo t space pages start other) (window_is_first empty) (skips empty)
  ]

  -- so it ends within the space
  pub window_within : (other : ℕ) → start + n ≤ 65536 → other ≤ 65536 → (0 < n → other ≡ start) → other + n ≤ 65536
  window_within other within inside stays = elim (cases_lt 0 n) [
    | inl some ↦ let same : other ≡ start = stays some in omega (arith, same, within)
    | inr none ↦ omega (arith, none, inside)
  ]

  -- the first page leaves, where there is one
  pub window_next : (new : PageMap) (left : ℕ) → left ≡ n - 1 → (0 < n → new ≡ without_entry table (space, start)) → (n ≡ 0 → new ≡ table) → IsValid new
      → IsWindow first new space perm (start + 1) left
  window_next new left fewer leaves same valid = subst (λ k. IsWindow first new space perm (start + 1) k) (sym fewer) (elim (cases_lt 0 n) [
    | inl some ↦ window_left new some (leaves some) valid
    | inr none ↦
        let empty : n ≡ 0 = omega (arith, none) in
        let still : n ≡ n - 1 = omega (arith, none) in
        subst (λ t. IsWindow first t space perm (start + 1) (n - 1)) (sym (same empty)) (subst (λ k. IsWindow first table space perm (start + 1) k) still (window_goes (start + 1) empty))
  ])

  -- its first page is mapped
  pub window_mapped : 0 < n → is_some (entry_of table (space, start)) ≡ true
  window_mapped some =
      let here : is_among space start n (space, start) ≡ true = among-page space start n start (omega arith) (omega arith) in
      ap is_some (window.says (space, start)) ∙ ap (λ b. is_some (cond b (Some (new_page perm 0)) (entry_of first (space, start)))) here

  -- the pages that joined fit
  pub window_fits : 1 ≤ start → start + n ≤ 65536 → fits first.buckets (keys first.entries) space start n ≡ true
  window_fits low high = fits-true first space start n (record {
    low = low;
    high = high;
    unmapped = λ page from to. ap is_some (window.unmapped (space, page) (among-page space start n page from to));
    four = λ home. omega (arith, window.valid.four home, window.loads home);
  })

  -- where the next page can't join, no range fits that reaches it
  pub window_blocks : (pages : ℕ) → n < pages → can_join table space (start + n) ≡ false → fits first.buckets (keys first.entries) space start pages ≡ false
  window_blocks pages below cannot = elim (cases_Bool (nat_lt (start + n) 65536)) [
    | inr past ↦ too_far first space start pages (let beyond : 65536 ≤ start + n = grind (arith, nat_tests) in omega (arith, beyond, below))
    | inl inside ↦ elim (cases_Bool (is_some (entry_of table (space, start + n)))) [
      | inl mapped ↦ page_mapped first space start pages n below (ap is_some (sym same) ∙ mapped)
      | inr free ↦
          let full : 4 ≤ load table (home_of table.buckets (space, start + n)) = at_least _ (third _ _ _ inside free cannot) in
          let here : home_of table.buckets (space, start + n) ≡ home_of first.buckets (space, start + n) = ap (λ b. home_of b (space, start + n)) window.buckets in
          let loaded : load table (home_of table.buckets (space, start + n)) ≡ load table (home_of first.buckets (space, start + n)) = ap (load table) here in
          home_full first space start pages n below window.from_valid.counted (omega (arith, full, loaded, window.loads (home_of first.buckets (space, start + n))))
    ]
  ]
    where
      outside : is_among space start n (space, start + n) ≡ false
      outside = grind (arith, nat_tests)

      same : entry_of table (space, start + n) ≡ entry_of first (space, start + n)
      same = window.says (space, start + n) ∙ ap (λ b. cond b (Some (new_page perm 0)) (entry_of first (space, start + n))) outside

  -- the range that was sought: the first page of the window has the span
  pub window_range : (new : PageMap) → 0 < n → new ≡ with_entry table (space, start) (new_page perm n) → IsValid new → new ≡ with_range first space start n perm
  window_range new some is valid =
      same_table new (with_range first space start n perm) (ap (λ (t : PageMap). t.buckets) is ∙ window.buckets) (sorted_table new valid) (sorted-with_range first space start n perm window.from_valid)
      (λ q. ap (λ (t : PageMap). entry_of t q) is ∙ entry-with table (space, start) (new_page perm n) q ∙ says q ∙ sym (entry-with_range first space start n perm q))
    where
      here : is_among space start n (space, start) ≡ true
      here = among-page space start n start (omega arith) (omega arith)

      says : (q : Place) → cond (same_place q (space, start)) (Some (new_page perm n)) (entry_of table q) ≡ cond (is_among space start n q) (Some (page_in perm n (space, start) q)) (entry_of first q)
      says q = elim (split_place q (space, start)) [
        | inl one ↦ rw (one.1, ap (is_among space start n) one.0, here) refl
        | inr two ↦ rw two.1 (window.says q)
      ]
