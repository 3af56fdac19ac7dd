-- Starts that a search passes over, since no range fits at them.
use Rattle.std.proofs.Common.{◌≡◌, ℕ, zero, suc, ◌+◌, ◌-◌, ◌<◌, ◌≤◌, max, Option, inl, inr, true, false, is_some, ap, ◌∙◌, subst, arith}
use Rattle.std.proofs.lemmas.Bool.{cases_lt}
use Rattle.hash_buckets.specs.PageMap.{PageMap, IsValid, entry_of}
use Rattle.flat_model.specs.Rows.{keys}
use Rattle.flat_model.specs.State.{fits, least_from}
use Rattle.flat_model.proofs.LeastLemmas.{least_next}
use Rattle.range_alloc.specs.Joins.{SkipsTo, can_join}
use Rattle.range_alloc.specs.Ranges.{AreRanges, IsIn, span_at}
use Rattle.range_alloc.proofs.Fitting.{page_blocked, page_mapped, too_far}

-- the page behind a range is one of the space, or its end
pub behind_inside : (table : PageMap) (space page span : ℕ) → AreRanges table → page < 65536 → span ≡ span_at table (space, page) → page + max span 1 ≤ 65536
behind_inside table space page span ranges here stands = elim (cases_lt 1 span) [
  | inl long ↦
      let inside : IsIn table space page (page + (span - 1)) = (omega arith, omega (arith, long, stands)) in
      let last = ranges.within space (page + (span - 1)) (ranges.mapped space page (page + (span - 1)) inside) in
      omega (arith, long, last)
  | inr short ↦ omega (arith, short, here)
]

module _ (table : PageMap) (space n : ℕ) where
  -- what a search of so many starts from this one on finds
  abbrev found_from : ℕ → ℕ → Option ℕ
  found_from start left = least_from table.buckets (keys table.entries) space n start left

  -- k starts at which nothing fits
  skip_starts : (k start left other rest : ℕ) → other ≡ start + k → left ≡ rest + k
      → ((s : ℕ) → start ≤ s → s < other → fits table.buckets (keys table.entries) space s n ≡ false)
      → found_from start left ≡ found_from other rest
  skip_starts zero start left other rest to of fails =
      let begins : start ≡ other = omega arith in
      let many : left ≡ rest = omega arith in
      ap (λ s. found_from s left) begins ∙ ap (found_from other) many
  skip_starts (suc k) start left other rest to of fails =
      least_next table.buckets (keys table.entries) space n start left (omega arith) (fails start (omega arith) (omega arith))
      ∙ skip_starts k (start + 1) (left - 1) other rest (omega arith) (omega arith) (λ s low high. fails s (omega (arith, low)) high)

  -- all starts up to another one
  skips_to : (first other : ℕ) → first ≤ other → other ≤ 65536
      → ((s : ℕ) → first ≤ s → s < other → fits table.buckets (keys table.entries) space s n ≡ false)
      → SkipsTo table space n first other
  skips_to first other onward inside fails = record {
    onward = onward;
    inside = inside;
    same = skip_starts (other - first) first (65536 - first) other (65536 - other) (omega arith) (omega arith) fails;
  }

  -- none
  pub skips_none : (first : ℕ) → first ≤ 65536 → SkipsTo table space n first first
  skips_none first inside = skips_to first first (omega arith) inside (λ s low high. absurd (omega (arith, low, high)))

  -- those before a start, those up to a page that can't join, and mapped pages behind it
  pub skips_blocked : (first start page other : ℕ) → IsValid table → SkipsTo table space n first start → start ≤ page → page < start + n → page < other → other ≤ 65536 → 0 < n
      → can_join table space page ≡ false → ((q : ℕ) → page < q → q < other → is_some (entry_of table (space, q)) ≡ true)
      → SkipsTo table space n first other
  skips_blocked first start page other valid before low high onward inside some cannot mapped = record {
    onward = omega (arith, before.onward);
    inside = inside;
    same = before.same ∙ (skips_to start other (omega arith) inside fails).same;
  }
    where
      fails : (s : ℕ) → start ≤ s → s < other → fits table.buckets (keys table.entries) space s n ≡ false
      fails s from to = elim (cases_lt page s) [
        | inl behind ↦
            let here : s ≡ s + 0 = omega arith in
            page_mapped table space s n 0 some (subst (λ q. is_some (entry_of table (space, q)) ≡ true) here (mapped s behind to))
        | inr upto ↦
            let here : page ≡ s + (page - s) = omega (arith, upto) in
            page_blocked table space s n (page - s) (omega (arith, upto, high, from)) valid (subst (λ p. can_join table space p ≡ false) here cannot)
      ]

  -- those before a start, and the last ones, which are too near to the end
  pub skips_rest : (first start : ℕ) → SkipsTo table space n first start → 65536 < start + n → SkipsTo table space n first 65536
  skips_rest first start before far = record {
    onward = omega (arith, before.onward, before.inside);
    inside = omega arith;
    same = before.same ∙ (skips_to start 65536 before.inside (omega arith) (λ s low high. too_far table space s n (omega (arith, low, far)))).same;
  }
