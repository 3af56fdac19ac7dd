-- How many pages have a home, after a page joins the entries or leaves them.
use Rattle.std.proofs.Common.{T, not, ◌≡◌, ℕ, ◌+◌, cond, eqb, inl, inr, List, [], ◌∷◌, map, Some, None, refl, sym, ap, ◌∙◌, arith}
use Rattle.std.specs.FinMap.Entries.{find, put, is_sorted, find-put, is_sorted-put, is_sorted-where_key, same_entries}
use Rattle.std.specs.declared.cmp.Ordering.{Ordering}
use Rattle.std.specs.declared.cmp.Ordering.TheVariants.{Less, Equal, Greater}
use Rattle.std.proofs.lemmas.List.Sums.{sum_by-cons}
use Rattle.cl_types.specs.declared.page.Pte.{Pte}
use Rattle.cl_types.specs.Places.{Place, place_cmp, home_of, homes_at}
use Rattle.cl_types.proofs.PlaceLemmas.{place_total, place_exact, same_place, same_place-self, split_place}
use Rattle.hash_buckets.specs.PageMap.{without_page}
use Rattle.hash_buckets.proofs.Tables.{find-without_page}

module _ (buckets h : ℕ) where
  abbrev pub count : List (Place × Pte) → ℕ
  count es = homes_at buckets h (map (λ e. e.0) es)

  -- what a page adds at the home
  abbrev pub one_at : Place → ℕ
  one_at q = cond (eqb (home_of buckets q) h) 1 0

  count-cons : (e : Place × Pte) (es : List (Place × Pte)) → count (e ∷ es) ≡ one_at e.0 + count es
  count-cons e es = sum_by-cons one_at e.0 (map (λ e. e.0) es)

  -- a new page counts at its home
  pub homes_at-put : (k : Place) (v : Pte) (es : List (Place × Pte)) → find place_cmp k es ≡ None → count (put place_cmp k v es) ≡ count es + one_at k
  homes_at-put k v [] new = count-cons (k, v) [] ∙ omega arith
  homes_at-put k v (e ∷ es) new = step (place_cmp k e.0) refl (homes_at-put k v es)
    where
      step : (o : Ordering) → place_cmp k e.0 ≡ o → (find place_cmp k es ≡ None → count (put place_cmp k v es) ≡ count es + one_at k)
          → count (put place_cmp k v (e ∷ es)) ≡ count (e ∷ es) + one_at k
      step Less is rest = rw is (count-cons (k, v) (e ∷ es) ∙ omega arith)
      step Equal is rest = absurd (let h = rw is at new in cc)
      step Greater is rest = rw is (count-cons e (put place_cmp k v es) ∙ omega (arith, count-cons e es, rest (rw is at new)))

  -- a page that leaves no longer counts at its home
  pub homes_at-without_page : (k : Place) (v : Pte) (es : List (Place × Pte)) → T (is_sorted place_cmp es) → find place_cmp k es ≡ Some v
      → count es ≡ count (without_page k es) + one_at k
  homes_at-without_page k v es sorted there =
      let rest = without_page k es in
      let sorted' = is_sorted-where_key place_cmp (λ q. not (same_place k q)) es sorted in
      let absent : find place_cmp k rest ≡ None = find-without_page es k k ∙ rw (same_place-self k) refl in
      let whole : es ≡ put place_cmp k v rest =
      same_entries place_cmp place_total place_exact _ _ sorted (is_sorted-put place_cmp place_total k v rest sorted') (λ q.
      elim (split_place q k) [
        | inl u ↦ ap (λ x. find place_cmp x es) u.0 ∙ there ∙ sym (find-put place_cmp place_total q k v rest ∙ rw u.1 refl)
        | inr u ↦ sym (find-put place_cmp place_total q k v rest ∙ rw u.1 (find-without_page es k q ∙ rw u.1 refl))
      ]) in
      ap count whole ∙ homes_at-put k v rest absent
