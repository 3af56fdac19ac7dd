-- What a table says of a page after the pages of a range got another permission.
use Rattle.std.proofs.Common.{◌≡◌, inl, inr, ℕ, ◌+◌, Bool, true, false, ◌&&◌, cond, T, List, [], ◌∷◌, map, Option, Some, None, option_map, is_some, IfSome, refl, sym, ap, subst, ◌∙◌, arith}
use Rattle.std.specs.declared.cmp.Ordering.{Ordering}
use Rattle.std.specs.Ordering.{is_lt}
use Rattle.std.specs.FinMap.Entries.{find, is_sorted, below_all}
use Rattle.std.proofs.Math.Logic.{∥∥₁_map}
use Rattle.std.proofs.lemmas.Bool.Decides.{nat_tests}
use Rattle.cl_types.specs.declared.call.Perm.{Perm}
use Rattle.cl_types.specs.declared.page.Pte.{Pte}
use Rattle.cl_types.specs.Places.{Place, place_cmp}
use Rattle.cl_types.proofs.PlaceLemmas.{same_place, split_place}
use Rattle.hash_buckets.specs.PageMap.{PageMap, IsValid, entry_of, with_entry}
use Rattle.flat_model.specs.Step.{is_among}
use Rattle.range_alloc.specs.Ranges.{AreRanges, IsIn, frame_at, span_at, permitted, with_perms}
use Rattle.range_alloc.proofs.Among.{among-page, among-none, among-more}
use Rattle.range_alloc.proofs.Entries.{entry-with, same_table, sorted_table, span_in, frame_in}

-- ---- lists in order whose values change
module _ {K X : Type 0} (R : K → K → Ordering) (g : K → X → X) where
  below-map : (x : K) (es : List (K × X)) → below_all R x (map (λ e. (e.0, g e.0 e.1)) es) ≡ below_all R x es
  below-map x [] = refl
  below-map x (e ∷ es) = ap (λ b. is_lt (R x e.0) && b) (below-map x es)

  is_sorted-map : (es : List (K × X)) → is_sorted R (map (λ e. (e.0, g e.0 e.1)) es) ≡ is_sorted R es
  is_sorted-map [] = refl
  is_sorted-map (e ∷ es) =
      ap (λ b. b && is_sorted R (map (λ e. (e.0, g e.0 e.1)) es)) (below-map e.0 es)
      ∙ ap (λ b. below_all R e.0 es && b) (is_sorted-map es)

  -- keys that rise go on rising
  pub sorted_map : (es : List (K × X)) → T (is_sorted R es) → T (is_sorted R (map (λ e. (e.0, g e.0 e.1)) es))
  sorted_map es h = subst T (sym (is_sorted-map es)) h

pub find_map : (g : Place → Pte → Pte) (q : Place) (es : List (Place × Pte)) → find place_cmp q (map (λ e. (e.0, g e.0 e.1)) es) ≡ option_map (g q) (find place_cmp q es)
find_map g q [] = refl
find_map g q (e ∷ es) = elim (split_place q e.0) [
  | inl one ↦ rw one.1 (ap (λ (place : Place). Some (g place e.1)) (sym one.0))
  | inr two ↦ rw two.1 (find_map g q es)
]

-- ---- a table whose pages get a permission
pub entry-perms : (table : PageMap) (space start n : ℕ) (perm : Perm) (q : Place) → entry_of (with_perms table space start n perm) q ≡ option_map (permitted space start n perm q) (entry_of table q)
entry-perms table space start n perm q = find_map (permitted space start n perm) q table.entries

pub sorted-perms : (table : PageMap) (space start n : ℕ) (perm : Perm) → IsValid table → T (is_sorted place_cmp (with_perms table space start n perm).entries)
sorted-perms table space start n perm valid = sorted_map place_cmp (permitted space start n perm) table.entries (sorted_table table valid)

-- a page that is none of these says what it said
pub other_entry : (space start n : ℕ) (perm : Perm) (q : Place) (entry : Option Pte) → is_among space start n q ≡ false → option_map (permitted space start n perm q) entry ≡ entry
other_entry space start n perm q None isnt = refl
other_entry space start n perm q (Some pte) isnt = rw (isnt, permitted) refl

-- none has the permission yet
pub perms_none : (table : PageMap) (space start : ℕ) (perm : Perm) → IsValid table → table ≡ with_perms table space start 0 perm
perms_none table space start perm valid =
    same_table table (with_perms table space start 0 perm) refl (sorted_table table valid) (sorted-perms table space start 0 perm valid)
    (λ q. sym (entry-perms table space start 0 perm q ∙ other_entry space start 0 perm q (entry_of table q) (among-none space start q)))

-- the next page says what it said
pub next_perm : (table part : PageMap) (space start n : ℕ) (perm : Perm) → part ≡ with_perms table space start n perm → entry_of part (space, start + n) ≡ entry_of table (space, start + n)
next_perm table part space start n perm is =
    let outside : is_among space start n (space, start + n) ≡ false = grind (arith, nat_tests) in
    ap (λ (t : PageMap). entry_of t (space, start + n)) is ∙ entry-perms table space start n perm (space, start + n) ∙ other_entry space start n perm (space, start + n) (entry_of table (space, start + n)) outside

same_perm : (space start n m : ℕ) (perm : Perm) (q : Place) (entry : Option Pte) → is_among space start n q ≡ is_among space start m q → option_map (permitted space start n perm q) entry ≡ option_map (permitted space start m perm q) entry
same_perm space start n m perm q None same = refl
same_perm space start n m perm q (Some pte) same = ap (λ (b : Bool). Some (elim b as (λ b. Pte) [ true ↦ record pte { perm = perm } | false ↦ pte ])) same

-- one page more has it
pub perms_more : (table part new : PageMap) (space start n : ℕ) (perm : Perm) (pte : Pte) → IsValid table → IsValid new → part ≡ with_perms table space start n perm
    → entry_of part (space, start + n) ≡ Some pte → new ≡ with_entry part (space, start + n) (record pte { perm = perm }) → new ≡ with_perms table space start (n + 1) perm
perms_more table part new space start n perm pte valid after before there is =
    same_table new (with_perms table space start (n + 1) perm) (ap (λ (t : PageMap). t.buckets) is ∙ ap (λ (t : PageMap). t.buckets) before) (sorted_table new after) (sorted-perms table space start (n + 1) perm valid)
    (λ q. ap (λ (t : PageMap). entry_of t q) is ∙ entry-with part (space, start + n) (record pte { perm = perm }) q ∙ says q ∙ sym (entry-perms table space start (n + 1) perm q))
  where
    was : entry_of table (space, start + n) ≡ Some pte
    was = sym (next_perm table part space start n perm before) ∙ there

    says : (q : Place) → cond (same_place q (space, start + n)) (Some (record pte { perm = perm })) (entry_of part q) ≡ option_map (permitted space start (n + 1) perm q) (entry_of table q)
    says q = elim (split_place q (space, start + n)) [
      | inl one ↦
          let here : is_among space start (n + 1) (space, start + n) ≡ true = among-page space start (n + 1) (start + n) (omega arith) (omega arith) in
          rw one.1 (sym (ap (λ (place : Place). option_map (permitted space start (n + 1) perm place) (entry_of table place)) one.0
          ∙ ap (option_map (permitted space start (n + 1) perm (space, start + n))) was ∙ rw (here, permitted) refl))
      | inr two ↦
          rw two.1 (ap (λ (t : PageMap). entry_of t q) before ∙ entry-perms table space start n perm q
          ∙ same_perm space start n (n + 1) perm q (entry_of table q) (sym (among-more space start n q two.0)))
    ]

-- ---- what stays
span_kept : (space start n : ℕ) (perm : Perm) (q : Place) (entry : Option Pte) → span_in (option_map (permitted space start n perm q) entry) ≡ span_in entry
span_kept space start n perm q None = refl
span_kept space start n perm q (Some pte) = elim (is_among space start n q) as (λ b. (elim b as (λ b. Pte) [ true ↦ record pte { perm = perm } | false ↦ pte ]).span ≡ pte.span) [ true ↦ refl | false ↦ refl ]

frame_kept : (space start n : ℕ) (perm : Perm) (q : Place) (entry : Option Pte) → frame_in (option_map (permitted space start n perm q) entry) ≡ frame_in entry
frame_kept space start n perm q None = refl
frame_kept space start n perm q (Some pte) =
    elim (is_among space start n q) as (λ b. option_map (λ frame. frame.0) (elim b as (λ b. Pte) [ true ↦ record pte { perm = perm } | false ↦ pte ]).frame ≡ option_map (λ frame. frame.0) pte.frame) [ true ↦ refl | false ↦ refl ]

some_kept : (space start n : ℕ) (perm : Perm) (q : Place) (entry : Option Pte) → is_some (option_map (permitted space start n perm q) entry) ≡ is_some entry
some_kept space start n perm q None = refl
some_kept space start n perm q (Some pte) = refl

pub perms_spans : (table : PageMap) (space start n : ℕ) (perm : Perm) (q : Place) → span_at (with_perms table space start n perm) q ≡ span_at table q
perms_spans table space start n perm q = ap span_in (entry-perms table space start n perm q) ∙ span_kept space start n perm q (entry_of table q)

pub perms_frames : (table : PageMap) (space start n : ℕ) (perm : Perm) (q : Place) → frame_at (with_perms table space start n perm) q ≡ frame_at table q
perms_frames table space start n perm q = ap frame_in (entry-perms table space start n perm q) ∙ frame_kept space start n perm q (entry_of table q)

-- the ranges are those that were
pub perms_ranges : (table : PageMap) (space start n : ℕ) (perm : Perm) → AreRanges table → AreRanges (with_perms table space start n perm)
perms_ranges table space start n perm ranges = record {
  covered = λ s page there. ∥∥₁_map (ranges.covered s page (sym (mapped (s, page)) ∙ there)) (λ old. (old.0, now s old.0 page old.1));
  once = λ s a b page one two. ranges.once s a b page (was s a page one) (was s b page two);
  mapped = λ s a page inside. mapped (s, page) ∙ ranges.mapped s a page (was s a page inside);
  within = λ s page there. ranges.within s page (sym (mapped (s, page)) ∙ there);
}
  where
    mapped : (q : Place) → is_some (entry_of (with_perms table space start n perm) q) ≡ is_some (entry_of table q)
    mapped q = ap is_some (entry-perms table space start n perm q) ∙ some_kept space start n perm q (entry_of table q)

    now : (s a page : ℕ) → IsIn table s a page → IsIn (with_perms table space start n perm) s a page
    now s a page inside = let span = perms_spans table space start n perm (s, a) in (inside.0, omega (arith, inside.1, span))

    was : (s a page : ℕ) → IsIn (with_perms table space start n perm) s a page → IsIn table s a page
    was s a page inside = let span = perms_spans table space start n perm (s, a) in (inside.0, omega (arith, inside.1, span))

-- the step of the loop, by what a call tells of the entry that it found
pub perms_step : (table part new : PageMap) (space start n : ℕ) (perm : Perm) → IsValid table → IsValid new → part ≡ with_perms table space start n perm
    → is_some (entry_of part (space, start + n)) ≡ true
    → IfSome (entry_of part (space, start + n)) (λ pte. new ≡ with_entry part (space, start + n) (record pte { perm = perm }))
    → new ≡ with_perms table space start (n + 1) perm
perms_step table part new space start n perm valid after before mapped told = by_entry (entry_of part (space, start + n)) refl mapped told
  where
    by_entry : (entry : Option Pte) → entry_of part (space, start + n) ≡ entry → is_some entry ≡ true
        → IfSome entry (λ pte. new ≡ with_entry part (space, start + n) (record pte { perm = perm }))
        → new ≡ with_perms table space start (n + 1) perm
    by_entry None there is told = absurd cc
    by_entry (Some pte) there is told = perms_more table part new space start n perm pte valid after before there told
