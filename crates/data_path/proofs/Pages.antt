-- The pages that a table and an arena mean, and how they change with them.
use Rattle.std.proofs.Common.{T, ◌≡◌, ℕ, ◌+◌, ◌==◌, if◌then◌else◌, cond, eqb, is_some, inl, inr, List, [], ◌∷◌, ◌++◌, Option, Some, None, option_map, refl, sym, ap, ◌∙◌, arith}
use Rattle.std.specs.FinMap.Entries.{find, put, is_sorted, find-put, is_sorted-put, same_entries, below_all}
use Rattle.std.proofs.lemmas.Bool.{cases_Bool}
use Rattle.cl_types.specs.declared.page.Pte.{Pte}
use Rattle.cl_types.specs.declared.numbers.PageNo.{PageNo}
use Rattle.cl_types.specs.Places.{Place, place_cmp}
use Rattle.cl_types.proofs.PlaceLemmas.{place_total, place_exact, same_place}
use Rattle.page_arena.specs.Arena.{page_at as arena_page}
use Rattle.data_path.specs.Store.{page_in, pages_in, spans_in, backed}
use Rattle.data_path.proofs.Keyed.{around}

pub find-pages_in : (arena : List (List ℕ)) (es : List (Place × Pte)) (q : Place) → find place_cmp q (pages_in arena es) ≡ option_map (page_in arena) (find place_cmp q es)
find-pages_in arena [] q = refl
find-pages_in arena (e ∷ es) q = elim (cases_Bool (same_place q e.0)) [ inl t ↦ rw t refl | inr f ↦ rw f (find-pages_in arena es q) ]

below_pages : (arena : List (List ℕ)) (k : Place) (es : List (Place × Pte)) → below_all place_cmp k (pages_in arena es) ≡ below_all place_cmp k es
below_pages arena k [] = refl
below_pages arena k (e ∷ es) = rw (below_pages arena k es) refl

pub sorted_pages : (arena : List (List ℕ)) (es : List (Place × Pte)) → is_sorted place_cmp (pages_in arena es) ≡ is_sorted place_cmp es
sorted_pages arena [] = refl
sorted_pages arena (e ∷ es) = rw (below_pages arena e.0 es, sorted_pages arena es) refl

-- an entry that changes or joins changes its page alone
pub pages_in-put : (arena : List (List ℕ)) (k : Place) (v : Pte) (es : List (Place × Pte)) → T (is_sorted place_cmp es)
    → pages_in arena (put place_cmp k v es) ≡ put place_cmp k (page_in arena v) (pages_in arena es)
pages_in-put arena k v es sorted =
    let sorted' : T (is_sorted place_cmp (pages_in arena es)) = rw (sorted_pages arena es) sorted in
    let left : T (is_sorted place_cmp (pages_in arena (put place_cmp k v es))) = rw (sorted_pages arena (put place_cmp k v es)) (is_sorted-put place_cmp place_total k v es sorted) in
    same_entries place_cmp place_total place_exact (pages_in arena (put place_cmp k v es)) (put place_cmp k (page_in arena v) (pages_in arena es)) left (is_sorted-put place_cmp place_total k (page_in arena v) (pages_in arena es) sorted') (λ q.
    find-pages_in arena (put place_cmp k v es) q ∙ ap (option_map (page_in arena)) (find-put place_cmp place_total q k v es) ∙ at q ∙ sym (find-put place_cmp place_total q k (page_in arena v) (pages_in arena es)))
  where
    at : (q : Place) → option_map (page_in arena) (cond (same_place q k) (Some v) (find place_cmp q es)) ≡ cond (same_place q k) (Some (page_in arena v)) (find place_cmp q (pages_in arena es))
    at q = elim (cases_Bool (same_place q k)) [ inl t ↦ rw t refl | inr f ↦ rw f (sym (find-pages_in arena es q)) ]

pub backed-append : (xs ys : List (Place × Pte)) → backed (xs ++ ys) ≡ backed xs + backed ys
backed-append [] ys = omega arith
backed-append (x ∷ xs) ys = omega (arith, backed-append xs ys)

pub spans-append : (xs ys : List (Place × Pte)) → spans_in (xs ++ ys) ≡ spans_in xs ++ spans_in ys
spans-append [] ys = refl
spans-append (x ∷ xs) ys = elim (cases_Bool (eqb x.1.span 0)) [ inl t ↦ rw t (spans-append xs ys) | inr f ↦ rw f (ap (λ l. (x.0, x.1.span) ∷ l) (spans-append xs ys)) ]

-- one frame more
pub backed-put : (k : Place) (v w : Pte) (es : List (Place × Pte)) (frame : PageNo) → T (is_sorted place_cmp es) → find place_cmp k es ≡ Some v → v.frame ≡ None → w.frame ≡ Some frame
    → backed (put place_cmp k w es) ≡ backed es + 1
backed-put k v w es frame sorted there none some =
    let r = around place_cmp place_total place_exact k v es sorted there in
    let new : backed (put place_cmp k w es) ≡ backed r.before + (1 + backed r.after) = ap backed (r.puts w) ∙ backed-append r.before ((k, w) ∷ r.after) ∙ ap (λ (o : Option PageNo). backed r.before + ((if is_some o then 1 else 0) + backed r.after)) some in
    let old : backed es ≡ backed r.before + (0 + backed r.after) = ap backed r.is ∙ backed-append r.before ((k, v) ∷ r.after) ∙ ap (λ (o : Option PageNo). backed r.before + ((if is_some o then 1 else 0) + backed r.after)) none in
    omega (arith, new, old)

-- the ranges stay where the span stays
pub spans-put : (k : Place) (v w : Pte) (es : List (Place × Pte)) → T (is_sorted place_cmp es) → find place_cmp k es ≡ Some v → w.span ≡ v.span
    → spans_in (put place_cmp k w es) ≡ spans_in es
spans-put k v w es sorted there same_span =
    let r = around place_cmp place_total place_exact k v es sorted there in
    let one : spans_in ((k, w) ∷ r.after) ≡ spans_in ((k, v) ∷ r.after) = ap (λ (n : ℕ). if n == 0 then spans_in r.after else (k, n) ∷ spans_in r.after) same_span in
    ap spans_in (r.puts w) ∙ spans-append r.before ((k, w) ∷ r.after) ∙ ap (λ l. spans_in r.before ++ l) one ∙ sym (ap spans_in r.is ∙ spans-append r.before ((k, v) ∷ r.after))

-- an arena that says the same of each frame of the entries means the same pages
pub pages_in-other : (a b : List (List ℕ)) (es : List (Place × Pte)) → T (is_sorted place_cmp es)
    → ((q : Place) (pte : Pte) (frame : PageNo) → find place_cmp q es ≡ Some pte → pte.frame ≡ Some frame → arena_page b frame.0 ≡ arena_page a frame.0) → pages_in b es ≡ pages_in a es
pages_in-other a b es sorted same =
    same_entries place_cmp place_total place_exact (pages_in b es) (pages_in a es) (rw (sorted_pages b es) sorted) (rw (sorted_pages a es) sorted) (λ q.
    find-pages_in b es q ∙ at q (find place_cmp q es) refl ∙ sym (find-pages_in a es q))
  where
    on : (q : Place) (pte : Pte) → find place_cmp q es ≡ Some pte → (o : Option PageNo) → pte.frame ≡ o → option_map (λ frame. arena_page b frame.0) o ≡ option_map (λ frame. arena_page a frame.0) o
    on q pte there None is = refl
    on q pte there (Some frame) is = ap (λ (l : List ℕ). Some l) (same q pte frame there is)

    at : (q : Place) (o : Option Pte) → find place_cmp q es ≡ o → option_map (page_in b) o ≡ option_map (page_in a) o
    at q None is = refl
    at q (Some pte) is = λ i. Some (record { perm = pte.perm; bytes = on q pte is pte.frame refl i })
