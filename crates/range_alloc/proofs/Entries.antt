-- What a table says of a page after an entry joined or left, or a range did.
use Rattle.std.proofs.Common.{◌≡◌, inl, inr, ℕ, zero, suc, ◌+◌, ◌<◌, ◌==◌, Bool, true, false, not, cond, T, List, [], ◌∷◌, Option, Some, None, option_map, is_some, refl, sym, ap, ◌∙◌, arith}
use Rattle.std.specs.FinMap.Entries.{find, is_sorted, find-put, is_sorted-put, find-where_key, is_sorted-where_key, same_entries}
use Rattle.std.proofs.lemmas.Bool.Decides.{nat_tests}
use Rattle.cl_types.specs.declared.call.Perm.{Perm}
use Rattle.cl_types.specs.declared.numbers.PageNo.{PageNo}
use Rattle.cl_types.specs.declared.page.Pte.{Pte}
use Rattle.cl_types.specs.Places.{Place, place_cmp, home_of}
use Rattle.cl_types.proofs.PlaceLemmas.{place_total, place_exact, same_place, same_place-self, split_place}
use Rattle.hash_buckets.specs.PageMap.{PageMap, IsValid, entry_of, load, with_entry, without_entry}
use Rattle.hash_buckets.proofs.Loads.{homes_at-without_page, one_at}
use Rattle.hash_buckets.proofs.Tables.{find-without_page, not_same}
use Rattle.flat_model.proofs.PutLemmas.{T_of}
use Rattle.flat_model.specs.State.{places_of}
use Rattle.flat_model.specs.Step.{is_among}
use Rattle.range_alloc.specs.Ranges.{new_page, with_pages, with_range, without_range}
use Rattle.range_alloc.proofs.Among.{among-page, among-none, among-rest, among-more}

-- ---- an entry
pub entry-with : (table : PageMap) (place : Place) (pte : Pte) (q : Place) → entry_of (with_entry table place pte) q ≡ cond (same_place q place) (Some pte) (entry_of table q)
entry-with table place pte q = find-put place_cmp place_total q place pte table.entries

pub entry-without : (table : PageMap) (place q : Place) → entry_of (without_entry table place) q ≡ cond (same_place q place) None (entry_of table q)
entry-without table place q = find-without_page table.entries place q

-- ---- a range
pub entry-without_range : (table : PageMap) (space start n : ℕ) (q : Place) → entry_of (without_range table space start n) q ≡ cond (is_among space start n q) None (entry_of table q)
entry-without_range table space start n q =
    find-where_key place_cmp (λ place. not (is_among space start n place)) q (λ x equal. ap (λ y. not (is_among space start n y)) (sym (place_exact q x equal))) table.entries
    ∙ not_same (is_among space start n q) (entry_of table q)

-- the span and the frame of an entry
abbrev pub span_in : Option Pte → ℕ
span_in entry = elim entry [ None ↦ 0 | Some pte ↦ pte.span ]

abbrev pub frame_in : Option Pte → Option ℕ
frame_in entry = elim entry [ None ↦ None | Some pte ↦ option_map (λ (frame : PageNo). frame.0) pte.frame ]

-- what a range of new pages says of a page
abbrev pub page_in : Perm → ℕ → Place → Place → Pte
page_in perm span first q = new_page perm (cond (same_place q first) span 0)

-- the pages from start on are new, and the others say what they said
find-with_pages : (perm : Perm) (span space start n : ℕ) (es : List (Place × Pte)) (q : Place)
    → find place_cmp q (with_pages perm span (places_of space start n) es) ≡ cond (is_among space start n q) (Some (page_in perm span (space, start) q)) (find place_cmp q es)
find-with_pages perm span space start zero es q = rw (among-none space start q) refl
find-with_pages perm span space start (suc n) es q =
    let rest = find-with_pages perm 0 space (start + 1) n es q in
    find-put place_cmp place_total q (space, start) (new_page perm span) (with_pages perm 0 (places_of space (start + 1) n) es)
    ∙ elim (split_place q (space, start)) [
      | inl one ↦
          let here : is_among space start (suc n) q ≡ true = rw one.0 (among-page space start (suc n) start (omega arith) (omega arith)) in
          rw (one.1, here) refl
      | inr two ↦ rw (two.1, among-rest space start n q two.0) (rest ∙ ap (λ (span : ℕ). cond (is_among space (start + 1) n q) (Some (new_page perm span)) (find place_cmp q es)) (both_zero (same_place q (space, start + 1))))
    ]
  where
    both_zero : (b : Bool) → ◌≡◌ {A = ℕ} (cond b 0 0) 0
    both_zero true = refl
    both_zero false = refl

pub entry-with_range : (table : PageMap) (space start n : ℕ) (perm : Perm) (q : Place)
    → entry_of (with_range table space start n perm) q ≡ cond (is_among space start n q) (Some (page_in perm n (space, start) q)) (entry_of table q)
entry-with_range table space start n perm q = find-with_pages perm n space start n table.entries q

-- ---- tables in order
pub sorted-with_pages : (perm : Perm) (span : ℕ) (places : List Place) (es : List (Place × Pte)) → T (is_sorted place_cmp es) → T (is_sorted place_cmp (with_pages perm span places es))
sorted-with_pages perm span [] es sorted = sorted
sorted-with_pages perm span (place ∷ places) es sorted = is_sorted-put place_cmp place_total place (new_page perm span) _ (sorted-with_pages perm 0 places es sorted)

-- two tables in order with as many buckets are one where they say the same of each page
pub same_table : (a b : PageMap) → a.buckets ≡ b.buckets → T (is_sorted place_cmp a.entries) → T (is_sorted place_cmp b.entries) → ((q : Place) → entry_of a q ≡ entry_of b q) → a ≡ b
same_table a b buckets left right same =
    let entries : a.entries ≡ b.entries = same_entries place_cmp place_total place_exact a.entries b.entries left right same in
    λ i. record { buckets = buckets i; entries = entries i }

pub sorted_table : (table : PageMap) → IsValid table → T (is_sorted place_cmp table.entries)
sorted_table table valid = T_of _ valid.sorted

pub sorted-with_range : (table : PageMap) (space start n : ℕ) (perm : Perm) → IsValid table → T (is_sorted place_cmp (with_range table space start n perm).entries)
sorted-with_range table space start n perm valid = sorted-with_pages perm n (places_of space start n) table.entries (sorted_table table valid)

sorted-without_range : (table : PageMap) (space start n : ℕ) → IsValid table → T (is_sorted place_cmp (without_range table space start n).entries)
sorted-without_range table space start n valid = is_sorted-where_key place_cmp (λ place. not (is_among space start n place)) table.entries (sorted_table table valid)

-- ---- a page that is mapped anew
-- the entry that was found
found_entry : (entry : Option Pte) → is_some entry ≡ true → (pte : Pte) × (entry ≡ Some pte)
found_entry None is = absurd cc
found_entry (Some pte) is = (pte, refl)

pub entry-gone : (table : PageMap) (place : Place) → entry_of (without_entry table place) place ≡ None
entry-gone table place = entry-without table place place ∙ rw (same_place-self place) refl

-- its home has room for it
pub room-gone : (table : PageMap) (place : Place) → IsValid table → is_some (entry_of table place) ≡ true → load (without_entry table place) (home_of table.buckets place) < 4
room-gone table place valid there =
    let home = home_of table.buckets place in
    let found = found_entry (entry_of table place) there in
    let cut = homes_at-without_page table.buckets home place found.0 table.entries (sorted_table table valid) found.1 in
    let self : (home == home) ≡ true = grind (arith, nat_tests) in
    let one : one_at table.buckets home place ≡ 1 = ap (λ b. cond b 1 0) self in
    omega (arith, cut, one, valid.four home)

-- it stands where it stood
pub with-again : (table cut new : PageMap) (place : Place) (pte : Pte) → IsValid table → IsValid new → cut ≡ without_entry table place → new ≡ with_entry cut place pte → new ≡ with_entry table place pte
with-again table cut new place pte valid after before is =
    same_table new (with_entry table place pte) (ap (λ (t : PageMap). t.buckets) is ∙ ap (λ (t : PageMap). t.buckets) before) (sorted_table new after)
    (is_sorted-put place_cmp place_total place pte table.entries (sorted_table table valid)) (λ q.
    ap (λ (t : PageMap). entry_of t q) is ∙ entry-with cut place pte q ∙ ap (λ (t : PageMap). cond (same_place q place) (Some pte) (entry_of t q)) before
    ∙ elim (split_place q place) [
      | inl one ↦ rw one.1 (sym (entry-with table place pte q ∙ rw one.1 refl))
      | inr two ↦ rw two.1 (entry-without table place q ∙ rw two.1 (sym (entry-with table place pte q ∙ rw two.1 refl)))
    ])

-- ---- a range leaves, page by page
-- one page more is gone
pub range_shrinks : (table part new : PageMap) (space start n : ℕ) → IsValid table → IsValid new → part ≡ without_range table space start n → new ≡ without_entry part (space, start + n)
    → new ≡ without_range table space start (n + 1)
range_shrinks table part new space start n valid after before is =
    same_table new (without_range table space start (n + 1)) (ap (λ (t : PageMap). t.buckets) is ∙ ap (λ (t : PageMap). t.buckets) before) (sorted_table new after) (sorted-without_range table space start (n + 1) valid) (λ q.
    ap (λ (t : PageMap). entry_of t q) is ∙ entry-without part (space, start + n) q
    ∙ ap (λ (t : PageMap). cond (same_place q (space, start + n)) None (entry_of t q)) before
    ∙ ap (cond (same_place q (space, start + n)) None) (entry-without_range table space start n q)
    ∙ says q ∙ sym (entry-without_range table space start (n + 1) q))
  where
    says : (q : Place) → cond (same_place q (space, start + n)) None (cond (is_among space start n q) None (entry_of table q)) ≡ cond (is_among space start (n + 1) q) None (entry_of table q)
    says q = elim (split_place q (space, start + n)) [
      | inl one ↦
          let here : is_among space start (n + 1) q ≡ true = rw one.0 (among-page space start (n + 1) (start + n) (omega arith) (omega arith)) in
          rw (one.1, here) refl
      | inr two ↦ rw (two.1, among-more space start n q two.0) refl
    ]

-- none is gone yet
pub range_whole : (table : PageMap) (space start : ℕ) → IsValid table → table ≡ without_range table space start 0
range_whole table space start valid =
    same_table table (without_range table space start 0) refl (sorted_table table valid) (sorted-without_range table space start 0 valid)
    (λ q. sym (entry-without_range table space start 0 q ∙ rw (among-none space start q) refl))

-- the next page of the range says what it said
pub next_entry : (table part : PageMap) (space start n : ℕ) → part ≡ without_range table space start n → entry_of part (space, start + n) ≡ entry_of table (space, start + n)
next_entry table part space start n is =
    let outside : is_among space start n (space, start + n) ≡ false = grind (arith, nat_tests) in
    ap (λ (t : PageMap). entry_of t (space, start + n)) is ∙ entry-without_range table space start n (space, start + n) ∙ rw outside refl
