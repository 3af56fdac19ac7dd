-- The ranges that a table's entries mean.
use Rattle.std.proofs.Common.{T, ◌≡◌, ℕ, ◌==◌, if◌then◌else◌, Bool, true, false, ◌&&◌, cond, eqb, inl, inr, List, [], ◌∷◌, Option, Some, None, refl, sym, ap, ◌∙◌, subst}
use Rattle.std.specs.FinMap.Entries.{find, is_sorted, below_all}
use Rattle.std.specs.Ordering.{is_lt, is_eq}
use Rattle.std.specs.declared.cmp.Ordering.{Ordering}
use Rattle.std.specs.declared.cmp.Ordering.TheVariants.{Less, Equal, Greater}
use Rattle.std.proofs.lemmas.Bool.{cases_Bool}
use Rattle.cl_types.specs.declared.page.Pte.{Pte}
use Rattle.cl_types.specs.Places.{Place, place_cmp}
use Rattle.cl_types.proofs.PlaceLemmas.{same_place, same_place-true}
use Rattle.data_path.specs.Store.{spans_in}
use Rattle.flat_model.proofs.PutLemmas.{head_of, tail_of}

-- the number of pages of the range that an entry begins
abbrev pub span_of : Option Pte → Option ℕ
span_of None = None
span_of (Some pte) = if pte.span == 0 then None else Some pte.span

both_of : (a b : Bool) → T a → T b → T (a && b)
both_of true b h k = k
both_of false b h k = absurd h

-- a page below all of the entries is none of theirs
absent_below : (k : Place) (es : List (Place × Pte)) → T (below_all place_cmp k es) → find place_cmp k es ≡ None
absent_below k [] below = refl
absent_below k (e ∷ es) below = step (place_cmp k e.0) refl (head_of _ _ below) (absent_below k es (tail_of _ _ below))
  where
    step : (o : Ordering) → place_cmp k e.0 ≡ o → T (is_lt (place_cmp k e.0)) → find place_cmp k es ≡ None → find place_cmp k (e ∷ es) ≡ None
    step Less is less rest = ap (λ o. cond (is_eq o) (Some e.1) (find place_cmp k es)) is ∙ rest
    step Equal is less rest = absurd (subst (λ o. T (is_lt o)) is less)
    step Greater is less rest = absurd (subst (λ o. T (is_lt o)) is less)

below_spans : (k : Place) (es : List (Place × Pte)) → T (below_all place_cmp k es) → T (below_all place_cmp k (spans_in es))
below_spans k [] below = below
below_spans k (e ∷ es) below =
    let rest = below_spans k es (tail_of _ _ below) in
    elim (cases_Bool (eqb e.1.span 0)) [ inl t ↦ rw t rest | inr f ↦ rw f (both_of _ _ (head_of _ _ below) rest) ]

pub sorted_spans : (es : List (Place × Pte)) → T (is_sorted place_cmp es) → T (is_sorted place_cmp (spans_in es))
sorted_spans [] sorted = sorted
sorted_spans (e ∷ es) sorted =
    let rest = sorted_spans es (tail_of _ _ sorted) in
    elim (cases_Bool (eqb e.1.span 0)) [ inl t ↦ rw t rest | inr f ↦ rw f (both_of _ _ (below_spans e.0 es (head_of _ _ sorted)) rest) ]

absent_spans : (k : Place) (es : List (Place × Pte)) → find place_cmp k es ≡ None → find place_cmp k (spans_in es) ≡ None
absent_spans k [] none = refl
absent_spans k (e ∷ es) none = elim (cases_Bool (same_place k e.0)) [
  | inl t ↦ absurd (let found = rw t at none in cc)
  | inr f ↦
      let rest = absent_spans k es (rw f at none) in
      elim (cases_Bool (eqb e.1.span 0)) [ inl z ↦ rw z rest | inr s ↦ rw (s, f) rest ]
]

pub find-spans_in : (es : List (Place × Pte)) (q : Place) → T (is_sorted place_cmp es) → find place_cmp q (spans_in es) ≡ span_of (find place_cmp q es)
find-spans_in [] q sorted = refl
find-spans_in (e ∷ es) q sorted =
    let rest = find-spans_in es q (tail_of _ _ sorted) in
    elim (cases_Bool (same_place q e.0)) [
      | inl t ↦
          let here : q ≡ e.0 = same_place-true q e.0 t in
          let absent : find place_cmp q (spans_in es) ≡ None = absent_spans q es (absent_below q es (subst (λ k. T (below_all place_cmp k es)) (sym here) (head_of _ _ sorted))) in
          elim (cases_Bool (eqb e.1.span 0)) [ inl z ↦ rw (z, t) (absent ∙ sym (rw z refl)) | inr s ↦ rw (s, t) (sym (rw s refl)) ]
      | inr f ↦ elim (cases_Bool (eqb e.1.span 0)) [ inl z ↦ rw (z, f) rest | inr s ↦ rw (s, f) rest ]
    ]
